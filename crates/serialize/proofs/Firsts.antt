-- The lowest number at which a test fails.
use Rattle.std.proofs.Common.{◌≡◌, ℕ, zero, suc, ◌<◌, Bool, true, false, cond, Some, None, Option, sym, refl, ap, ◌∙◌, inl, inr, arith, below_more}
use Rattle.std.proofs.lemmas.Bool.{and_parts, and_from, cases_Bool, both_ways, cases_eq}
use Rattle.serialize.specs.ObjectFile.{every, lowest_failing}

rest : (o : Option ℕ) (b : Bool) (n : ℕ) → ◌≡◌ {A = Option ℕ} (elim o [ None ↦ cond b None (Some n) | Some i ↦ Some i ]) None → (o ≡ None) × (b ≡ true)
rest None true n e = (refl, refl)
rest None false n e = let z : ◌≡◌ {A = ℕ} 0 1 = cc in absurd (omega arith)
rest (Some i) b n e = let z : ◌≡◌ {A = ℕ} 0 1 = cc in absurd (omega arith)

pub every_in : (n : ℕ) (p : ℕ → Bool) → ((j : ℕ) → j < n → p j ≡ true) → every n p ≡ true
every_in zero p each = refl
every_in (suc n) p each = and_from (every n p) (p n) (every_in n p (λ j h. each j (omega arith))) (each n (omega arith))

pub every_out : (n : ℕ) (p : ℕ → Bool) → every n p ≡ true → (j : ℕ) → j < n → p j ≡ true
every_out zero p all j h = absurd (omega arith)
every_out (suc n) p all j h =
    let both = and_parts (every n p) (p n) all in
    below_more (λ k. p k ≡ true) n (every_out n p both.0) both.1 j (omega arith)

pub none_in : (n : ℕ) (p : ℕ → Bool) → ((j : ℕ) → j < n → p j ≡ true) → lowest_failing n p ≡ None
none_in zero p each = refl
none_in (suc n) p each = let l = none_in n p (λ j h. each j (omega arith)) in let r = each n (omega arith) in rw (l, r)

pub some_in : (n : ℕ) (p : ℕ → Bool) (i : ℕ) → i < n → ((j : ℕ) → j < i → p j ≡ true) → p i ≡ false → lowest_failing n p ≡ Some i
some_in zero p i h each not = absurd (omega arith)
some_in (suc n) p i h each not =
    elim (cases_eq i n) [
      | inl same ↦
          let l = none_in n p (λ j k. each j (omega arith)) in
          let e : p n ≡ false = ap p (sym same) ∙ not in
          rw (l, e) (ap Some (sym same))
      | inr other ↦ let l = some_in n p i (omega arith) each not in rw l
    ]

pub none_out : (n : ℕ) (p : ℕ → Bool) → lowest_failing n p ≡ None → (j : ℕ) → j < n → p j ≡ true
none_out zero p none j h = absurd (omega arith)
none_out (suc n) p none j h =
    let both = rest (lowest_failing n p) (p n) n none in
    below_more (λ k. p k ≡ true) n (none_out n p both.0) both.1 j (omega arith)

pub every_not : (n : ℕ) (p : ℕ → Bool) (i : ℕ) → i < n → p i ≡ false → every n p ≡ false
every_not n p i h not =
    elim (cases_Bool (every n p)) [
      | inl all ↦ absurd (both_ways (p i) not (every_out n p all i h))
      | inr none ↦ none
    ]
