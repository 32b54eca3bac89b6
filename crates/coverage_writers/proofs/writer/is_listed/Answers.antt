use Rattle.std.proofs.Common.{◌&&◌, ltb, length, sym, ap, ◌∙◌, arith, rules}
use Rattle.std.proofs.lemmas.List.Sorted.{answers_always}
use Rattle.coverage_writers.proofs.Writes.{sorted_ascends}
use Rattle.coverage_writers.proofs.writer.is_listed.Goals as goal

pub returns-then-is_sorted_by : goal.returns-then-is_sorted_by
returns-then-is_sorted_by c =
    let gs = c.args.glyphs.now in
    let e = sorted_ascends gs c.is_sorted_by.result (λ k. omega (arith, c.type_inv.glyphs k)) (c.is_sorted_by.ensures.cases ltb (answers_always _ _ _ (λ f a r f' e. search rules))) in
    sym (ap (λ t. t && ltb (length gs) 65536) (e ∙ c.if-is_sorted_by.true))

pub returns-else-is_sorted_by : goal.returns-else-is_sorted_by
returns-else-is_sorted_by c =
    let gs = c.args.glyphs.now in
    let e = sorted_ascends gs c.is_sorted_by.result (λ k. omega (arith, c.type_inv.glyphs k)) (c.is_sorted_by.ensures.cases ltb (answers_always _ _ _ (λ f a r f' e. search rules))) in
    c.if-is_sorted_by.false ∙ sym (ap (λ t. t && ltb (length gs) 65536) (e ∙ c.if-is_sorted_by.false))
