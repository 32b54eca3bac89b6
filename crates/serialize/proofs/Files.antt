-- What an object file says: starts and records.
use Rattle.std.proofs.Common.{◌≡◌, ℕ, ◌+◌, ◌*◌, ◌<◌, ◌≤◌, Bool, true, false, cond, eqb, leb, List, length, Some, None, sum, refl, ap, ◌∙◌, subst, arith}
use Rattle.std.proofs.lemmas.List.{take_all}
use Rattle.std.proofs.lemmas.List.Sums.{sum_by_more, sum_by-take-le}
use Rattle.std.proofs.lemmas.Bool.{and_parts, eqb-true}
use Rattle.std.proofs.lemmas.List.FromFn.{length-map-range_with_len, get_or-map-range_with_len}
use Rattle.serialize.specs.declared.object_file.Trailer.{Trailer}
use Rattle.serialize.specs.ObjectFile.{tag_of, numbers_of, gapless, trailer_of, length_at, lengths_of, start_at}

module _ (file : List ℕ) (t : Trailer) where
  lengths_long : length (lengths_of file t) ≡ t.vertices
  lengths_long = length-map-range_with_len (length_at file t) 0 t.vertices

  -- the next vertex begins behind this one
  pub start_more : (v : ℕ) → v < t.vertices → start_at file t (v + 1) ≡ start_at file t v + length_at file t v
  start_more v h =
      sum_by_more (λ x. x) (lengths_of file t) v 0 (omega (arith, lengths_long))
      ∙ ap (λ (n : ℕ). start_at file t v + n) (get_or-map-range_with_len (length_at file t) 0 t.vertices v v 0 h (omega arith))

  pub start_all : start_at file t t.vertices ≡ sum (lengths_of file t)
  start_all = ap sum (take_all t.vertices (lengths_of file t) (omega (arith, lengths_long)))

  pub start_le : (v : ℕ) → start_at file t v ≤ sum (lengths_of file t)
  start_le v = sum_by-take-le (λ x. x) (lengths_of file t) v

-- a file with a trailer: its parts lie end to end, and the lengths add up
pub record Whole (file : List ℕ) (t : Trailer) : Type 0 where
  pub lengths_end : t.lengths + 4 * t.vertices ≡ t.records
  pub records_end_lem : t.records + 16 * t.links + 20 ≡ length file
  pub adds_up : sum (lengths_of file t) ≡ t.lengths

taken : {A : Type 0} (b : Bool) (x y : A) → cond b (Some x) None ≡ Some y → (b ≡ true) × (x ≡ y)
taken true x y e = (refl, cc)
taken false x y e = let z : ◌≡◌ {A = ℕ} 0 1 = cc in absurd (omega arith)

pub whole : (file : List ℕ) (t : Trailer) → trailer_of file ≡ Some t → Whole file t
unfolding trailer_of
whole file t e =
    let n = numbers_of file in
    let is = taken _ n t e in
    let a = and_parts (leb 20 (length file)) _ is.0 in
    let b = and_parts (eqb (tag_of file) 0x4D4B4F42) _ a.1 in
    let c = and_parts (gapless (length file) n) _ b.1 in
    let d = and_parts (eqb (n.lengths + 4 * n.vertices) n.records) _ c.0 in
    subst (λ (x : Trailer). Whole file x) is.1
    (record { lengths_end = eqb-true _ _ d.0; records_end_lem = eqb-true _ _ d.1; adds_up = eqb-true _ _ c.1 })

-- where a vertex's bytes end, and where those of a later one begin
module _ (file : List ℕ) (t : Trailer) (w : Whole file t) where
  pub start_end : (v : ℕ) → v < t.vertices → start_at file t v + length_at file t v ≤ t.lengths
  start_end v h = omega (arith, start_more file t v h, start_le file t (v + 1), w.adds_up)

-- a vertex's bytes lie before the lengths
pub lies_in : (file : List ℕ) (t : Trailer) → trailer_of file ≡ Some t → (v : ℕ) → v < t.vertices → start_at file t v + length_at file t v + 4 * t.vertices ≤ length file
lies_in file t e v h = let w = whole file t e in omega (arith, start_end file t w v h, w.lengths_end, w.records_end_lem)
