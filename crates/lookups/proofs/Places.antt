-- What a search through the places below a number finds.
use Rattle.std.proofs.Common.{◌≡◌, ℕ, zero, suc, ◌+◌, ◌<◌, ◌≤◌, true, List, [], ◌∷◌, length, Some, None, Option, MatchOption, slice_get, sym, ap, ◌∙◌, subst, arith}
use Rattle.std.specs.Option.{IsSomeAnd, IfSome}
use Rattle.std.specs.Bool.{IsTrue}
use Rattle.std.specs.Fn.{Called}
use Rattle.std.specs.Iterator.{Yields}
use Rattle.std.specs.Iterator.Runs.{Run, YieldsRun, SomeRun, AllItemsGive, IsFirstToGive}
use Rattle.std.specs.declared.ops.Range.{Range}
use Rattle.std.proofs.iter.Yields.{nat_range_steps}
use denote.Param.Members.{Mut}

-- the items of a range, place by place
counted : (xs : List ℕ) (s t : Range ℕ) → Yields nat_range_steps s xs t → (t.end ≡ s.end) × (t.start ≡ s.start + length xs) × (s.start ≤ s.end → t.start ≤ s.end)
counted [] s t y = let e = ap (λ (r : Range ℕ). r.start) y in (ap (λ (r : Range ℕ). r.end) (sym y), omega arith, λ h. omega arith)
counted (x ∷ xs) s t y =
    let h = counted xs y.0 t y.2 in
    (h.0 ∙ y.1.0, omega (arith, h.1, y.1.1.2), λ k. let up : y.0.start ≤ y.0.end = omega (arith, y.1.0, y.1.1.0, y.1.1.2) in omega (arith, h.2 up, y.1.0))

at_place : (xs : List ℕ) (s t : Range ℕ) (k : ℕ) → Yields nat_range_steps s xs t → k < length xs → slice_get xs k ≡ Some (s.start + k)
at_place [] s t k y lt = absurd (omega arith)
at_place (x ∷ xs) s t zero y lt = ap Some (omega (arith, y.1.1.1))
at_place (x ∷ xs) s t (suc k) y lt = at_place xs y.0 t k y.2 (omega arith) ∙ ap Some (omega (arith, y.1.1.2))

-- a run over the numbers from 0 on
module _ (p : Run nat_range_steps) (zero' : p.from.start ≡ 0) where
  place : (k : ℕ) → k < p.len → p.at k ≡ Some k
  unfolding YieldsRun
  place k lt =
      let gave = p.gave in
      gave.1 k ∙ at_place p.items p.from gave.0.0 k gave.0.1 (omega (arith, p.long)) ∙ ap Some (omega arith)

  below : p.len ≤ p.from.end
  unfolding YieldsRun
  below =
      let gave = p.gave in
      let c = counted p.items p.from gave.0.0 gave.0.1 in
      omega (arith, p.long, c.1, c.2 (omega arith))

  whole : p.whole ≡ true → p.from.end ≤ p.len
  unfolding YieldsRun
  whole w =
      let gave = p.gave in
      let c = counted p.items p.from gave.0.0 gave.0.1 in
      omega (arith, p.long, c.0, c.1, (gave.0.2 w).1.1.0)

-- each place is asked, up to the first at which something is found
module _ {B F : Type 0} {g : Mut F (ℕ × Unit {0}) (Option B)} (f : F) (h : ℕ → Option B) (gives : (x : ℕ) (r : Option B) (q : F) → Called g f (x, tt) r q → (q ≡ f) × (r ≡ h x)) where
  pub found_in : (n : ℕ) (s : Range ℕ) (r : Option B) → SomeRun nat_range_steps s (λ p. MatchOption r (IsTrue p.whole × AllItemsGive p g f None) (λ y. (i : ℕ) × (i < p.len) × (p.len ≡ i + 1) × IsFirstToGive p g f (Some y) None i))
      → s ≡ record { start = 0; end = n } → MatchOption r ((k : ℕ) → k < n → h k ≡ None) (λ y. (i : ℕ) × (i < n) × (h i ≡ Some y) × ((k : ℕ) → k < i → h k ≡ None))
  found_in n s None run is =
      let p = run.0 in
      let from = run.1 ∙ is in
      let all = run.2.1 (λ a r q c. (gives a.0 r q c).0) in
      λ k lt.
      let at = place p (ap (λ (r : Range ℕ). r.start) from) k (omega (arith, whole p (ap (λ (r : Range ℕ). r.start) from) run.2.0, ap (λ (r : Range ℕ). r.end) from)) in
      sym (gives k None f (subst (λ (o : Option ℕ). IfSome o (λ x. Called g f (x, tt) None f)) at (all k))).1
  found_in n s (Some y) run is =
      let p = run.0 in
      let from = run.1 ∙ is in
      let i = run.2.0 in
      let first = run.2.3 (λ a r q c. (gives a.0 r q c).0) in
      let at = place p (ap (λ (r : Range ℕ). r.start) from) in (
        i,
        omega (arith, run.2.1, below p (ap (λ (r : Range ℕ). r.start) from), ap (λ (r : Range ℕ). r.end) from),
        sym (gives i (Some y) f (subst (λ (o : Option ℕ). IsSomeAnd o (λ x. Called g f (x, tt) (Some y) f)) (at i run.2.1) first.0)).1,
        λ k lt. sym (gives k None f (subst (λ (o : Option ℕ). IsSomeAnd o (λ x. Called g f (x, tt) None f)) (at k (omega (arith, run.2.1))) (first.1 k lt))).1,
      )
