use Rattle.std.proofs.Common.{Some, sym, ap, ◌∙◌}
use Rattle.refusal.specs.declared.Refusal.TheVariants.{SharedPart}
use Rattle.graph.specs.Model.{view}
use Rattle.lookups.specs.Faults.{placed}
use Rattle.lookups.proofs.Judged.{wrong_read}
use Rattle.lookups.proofs.judge.CountedGraph.judge_subtable.Goals as goal

pub returns-in-Some : goal.returns-in-Some
returns-in-Some c =
    wrong_read (view c.args.self.now.graph.now).nodes c.args.i _ _ _ _
    (c.in_subtable.ensures ∙ ap (placed c.args.i) c.read_subtable.ensures) c.in_ok-info.was c.in-Some.ensures
    ∙ ap (λ i. Some (SharedPart i c.in-Some.part)) (sym c.from.ensures)

pub returns-in-None : goal.returns-in-None
returns-in-None c =
    wrong_read (view c.args.self.now.graph.now).nodes c.args.i _ _ _ _
    (c.in_subtable.ensures ∙ ap (placed c.args.i) c.read_subtable.ensures) c.in_ok-info.was c.in-None.ensures
