use Rattle.std.proofs.Common.{sym, refl, ap, ◌∙◌, arith}
use Rattle.std.proofs.lemmas.List.{at_drop_all}
use Rattle.std.proofs.lemmas.Result.{err_from_is_err_and}
use Rattle.graph.specs.Model.{view}
use Rattle.lookups.specs.declared.lookup.LookupHead.{LookupHead}
use Rattle.lookups.specs.Judging.{wrong_among}
use Rattle.lookups.specs.Views.{offsets_of}
use Rattle.lookups.proofs.Offsets.{offsets_count}
use Rattle.lookups.proofs.Judged.{wrong_next}
use Rattle.lookups.proofs.judge.CountedGraph.judge_subtables.Goals as goal

pub returns-in_err-judge_subtable : goal.returns-in_err-judge_subtable
returns-in_err-judge_subtable c =
    let l = c.args.lookup.now in
    let p = err_from_is_err_and c.from_residual.result c.from_residual.ensures.1 in
    let h = c.head-head.ensures in
    let n = offsets_count l in
    let e = wrong_next (view c.args.self.now.graph.now).nodes l.head.kind _ (offsets_of l) c.loop-i.i _ _ _ (omega (arith, n, ap (λ (x : LookupHead). x.count) h)) refl (ap (λ (x : LookupHead). x.kind) h) c.subtable.ensures c.in_err-judge_subtable.ensures in
    rw (p.1, p.2) (sym c.loop-i.invariant ∙ e)

pub returns : goal.returns
returns c =
    let l = c.args.lookup.now in
    let n = offsets_count l in
    sym c.loop-i.invariant
    ∙ at_drop_all (wrong_among (view c.args.self.now.graph.now).nodes l.head.kind c.loop-i.i) (offsets_of l) c.loop-i.i (omega (arith, n, ap (λ (x : LookupHead). x.count) c.head-head.ensures))
