use Rattle.std.proofs.Common.{ℕ, ◌≡◌, ◌+◌, ◌<◌, ◌≤◌, Bool, not, eqb, true, false, sym, ap, ◌∙◌, inl, inr, arith, rules}
use Rattle.std.proofs.lemmas.Bool.{cases_lt}
use Rattle.std.proofs.lemmas.Bool.Decides.{nat_tests}
use Rattle.serialize.specs.ObjectFile.{record_at}
use Rattle.graph.proofs.Segments.{loadable, first_le, first_before, first_after, first_is}
use Rattle.graph.proofs.Places.{found_from}
use Rattle.graph.proofs.tables.load.records_end.Goals as goal

same : (a b : ℕ) → not (eqb a b) ≡ false → a ≡ b
same a b e = grind (arith, nat_tests)

other : (a b : ℕ) → not (eqb a b) ≡ true → b ≤ a → b + 1 ≤ a
other a b e le = grind (arith, nat_tests)

pub returns : goal.returns
returns c =
    let file = c.args.sound.file.bytes.now in
    let t = c.args.sound.file.trailer in
    let v = c.args.v in
    let end = c.unwrap_or.result in
    let passes : ℕ → Bool = λ k. not (eqb (record_at file t k).parent v) in
    let found = found_from _ passes (λ a r q k. (search rules, search rules)) c.args.first t.links _ _ (search rules) (omega (arith, first_le file t v)) c.find.ensures.runs in
    let is = c.unwrap_or.ensures in
    let below : (k : ℕ) → k < end → (record_at file t k).parent < v + 1 = λ k h.
    elim (cases_lt k c.args.first) [
      | inl early ↦ omega (arith, first_before file t v k (omega arith))
      | inr late ↦ omega (arith, same _ _ (found.2 k late (omega arith)))
    ]
    in
    let past : end < t.links → v + 1 ≤ (record_at file t end).parent = λ h.
    other _ _ (ap passes is ∙ found.3 (omega arith)) (first_after file t (loadable c.args.sound) v end (omega (arith, found.0)) h)
    in
    sym (first_is file t (v + 1) end (omega (arith, found.1)) below past)
