-- Which part of a subtable is shared.
use Rattle.std.proofs.Common.{◌≡◌, ℕ, Bool, true, false, cond, ltb, List, [], ◌∷◌, Some, None, Option, IfSome, sym, refl, ap}
use Rattle.std.specs.Option.{option_map}
use Rattle.std.specs.List.{find}
use Rattle.refusal.specs.declared.Part.{Part}
use Rattle.refusal.specs.declared.Part.TheVariants as part
use Rattle.markbase.specs.declared.parts.TableInfo.{TableInfo}
use Rattle.lookups.specs.Judging.{shared_or, extension_or}

-- the parts behind the extension, the base coverage aside, in reading order
abbrev pub parts_of : TableInfo → List (ℕ × Part)
parts_of t = (t.vertex, part.Subtable) ∷ (t.table.mark_coverage, part.MarkCoverage) ∷ (t.table.mark_array, part.MarkArray) ∷ (t.table.base_array, part.BaseArray) ∷ []

module _ (count : ℕ → ℕ) where
  -- the first shared part of several
  abbrev pub shared_in : List (ℕ × Part) → Option Part
  shared_in [] = None
  shared_in (x ∷ xs) = shared_or count x.1 x.0 (shared_in xs)

  found_or : (b : Bool) (x : ℕ × Part) (r : Option (ℕ × Part)) (o : Option Part) → option_map (λ (p : ℕ × Part). p.1) r ≡ o → option_map (λ (p : ℕ × Part). p.1) (cond b (Some x) r) ≡ cond b (Some x.1) o
  found_or true x r o e = refl
  found_or false x r o e = e

  pub found_first : (xs : List (ℕ × Part)) → option_map (λ (p : ℕ × Part). p.1) (find (λ (p : ℕ × Part). ltb 1 (count p.0)) xs) ≡ shared_in xs
  found_first [] = refl
  found_first (x ∷ xs) = found_or (ltb 1 (count x.0)) x (find (λ (p : ℕ × Part). ltb 1 (count p.0)) xs) (shared_in xs) (found_first xs)

  -- an extension that is not shared, or none
  pub past_extension : (o : Option ℕ) (next : Option Part) → IfSome o (λ v. ltb 1 (count v) ≡ false) → next ≡ extension_or count o next
  past_extension None next e = refl
  past_extension (Some v) next e = sym (ap (λ b. cond b (Some part.Extension) next) e)
