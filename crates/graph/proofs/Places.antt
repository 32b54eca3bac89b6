-- Where a search through the numbers of a range ends.
use Rattle.std.proofs.Common.{◌≡◌, ℕ, ◌+◌, ◌-◌, ◌<◌, ◌≤◌, Bool, true, false, Some, None, Option, MatchOption, option_map, unwrap_or, sym, refl, ap, ◌∙◌, subst, arith}
use Rattle.std.specs.Option.{IsSomeAnd, IfSome}
use Rattle.std.specs.Bool.{IsTrue}
use Rattle.std.specs.Fn.{Called, CalledAt}
use Rattle.std.specs.Iterator.Runs.{Run, SomeRun, NoItemPasses, EndsAtFirstPassing}
use Rattle.std.specs.declared.ops.Range.{Range}
use Rattle.std.proofs.iter.Yields.{nat_range_steps}
use Rattle.std.proofs.iter.runs.Sources.{range_runs}
use denote.Param.Members.{Mut}
use denote.Ref.{Bor}

plain : (o : Option ℕ) → option_map (λ y. y) o ≡ o
plain None = refl
plain (Some x) = refl

place : (p : Run nat_range_steps) (k : ℕ) → k < p.len → p.at k ≡ Some (p.from.start + k)
place p k lt = sym (plain (p.at k)) ∙ (range_runs p p.seen).3 k lt

-- each number is asked, up to the first that passes
module _ {F : Type 0} {g : Mut F (Bor ℕ × Unit {0}) Bool} (f : F) (h : ℕ → Bool) (gives : (a : Bor ℕ × Unit {0}) (r : Bool) (q : F) → Called g f a r q → (q ≡ f) × (r ≡ h a.0.now)) where
  answered : (x : ℕ) (r : Bool) → CalledAt g f x r f → h x ≡ r
  answered x r c = sym ((gives (c.shown, tt) r f c.called).1 ∙ ap h c.shows)

  pub found_from : (a n : ℕ) (s : Range ℕ) (r : Option ℕ) → s ≡ record { start = a; end = n } → a ≤ n
      → SomeRun nat_range_steps s (λ u. MatchOption r (IsTrue u.whole × NoItemPasses u g f) (EndsAtFirstPassing u g f))
      → (a ≤ unwrap_or r n) × (unwrap_or r n ≤ n) × ((k : ℕ) → a ≤ k → k < unwrap_or r n → h k ≡ false) × (unwrap_or r n < n → h (unwrap_or r n) ≡ true)
  found_from a n s None is le run =
      let p = run.0 in
      let start = ap (λ (r : Range ℕ). r.start) (run.1 ∙ is) in
      let end = ap (λ (r : Range ℕ). r.end) (run.1 ∙ is) in
      let len = (range_runs p p.seen).1 run.2.0 in
      let all = run.2.1 (λ x r q c. (gives x r q c).0) in (
        le,
        omega arith,
        λ k lo hi.
            let at : p.at (k - a) ≡ Some k = place p (k - a) (omega (arith, len, start, end)) ∙ ap Some (omega (arith, start)) in
            answered k false (subst (λ (o : Option ℕ). IfSome o (λ x. CalledAt g f x false f)) at (all (k - a))),
        λ lt. absurd (omega arith),
      )
  found_from a n s (Some y) is le run =
      let p = run.0 in
      let start = ap (λ (r : Range ℕ). r.start) (run.1 ∙ is) in
      let end = ap (λ (r : Range ℕ). r.end) (run.1 ∙ is) in
      let i = run.2.0 in
      let long = run.2.1 in
      let within = (range_runs p p.seen).0 in
      let here : y ≡ p.from.start + i = ap (λ (o : Option ℕ). unwrap_or o 0) (sym run.2.2 ∙ place p i (omega (arith, long))) in
      let first = run.2.3 (λ x r q c. (gives x r q c).0) in (
        omega (arith, here, start),
        omega (arith, here, start, end, within, long),
        λ k lo hi.
            let at : p.at (k - a) ≡ Some k = place p (k - a) (omega (arith, here, start, long)) ∙ ap Some (omega (arith, start)) in
            answered k false (subst (λ (o : Option ℕ). IsSomeAnd o (λ x. CalledAt g f x false f)) at (first.1 (k - a) (omega (arith, here, start)))),
        λ _. answered y true first.0,
      )
