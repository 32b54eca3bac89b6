use Rattle.std.proofs.Common.{◌<◌, ◌≤◌, length, sym, ap, ◌∙◌, arith}
use Rattle.std.proofs.lemmas.List.{drop_all}
use Rattle.std.proofs.lemmas.Result.{err_from_is_err_and}
use Rattle.graph.specs.Model.{view}
use Rattle.lookups.specs.declared.lookup.LookupHead.{LookupHead}
use Rattle.lookups.specs.Values.{subtables_from}
use Rattle.lookups.specs.Views.{offsets_of}
use Rattle.lookups.proofs.Offsets.{offsets_count}
use Rattle.lookups.proofs.Walks.{fault_of, no_fault, a_fault, same_read, stops}
use Rattle.lookups.proofs.reads.check_subtables.Goals as goal

pub returns-in_err-in_subtable : goal.returns-in_err-in_subtable
returns-in_err-in_subtable c =
    let l = c.args.lookup.now in
    let nodes = (view c.args.graph.now).nodes in
    let p = err_from_is_err_and c.from_residual.result c.from_residual.ensures.1 in
    let lt : c.loop-i.i < length (offsets_of l) = omega (arith, offsets_count l, ap (λ (h : LookupHead). h.count) c.head-head.ensures) in
    let read = same_read nodes c.head-head.result l.head c.subtable.result _ c.read_subtable.result c.read_subtable.ensures c.head-head.ensures c.subtable.ensures in
    let e = stops nodes l.head.kind (offsets_of l) c.loop-i.i lt c.read_subtable.result read _ c.in_err-in_subtable.ensures in
    rw (p.1, p.2) (a_fault (subtables_from nodes l.head.kind 0 (offsets_of l)) _ (sym c.loop-i.invariant ∙ e))

pub returns : goal.returns
returns c =
    let l = c.args.lookup.now in
    let nodes = (view c.args.graph.now).nodes in
    let past : length (offsets_of l) ≤ c.loop-i.i = omega (arith, offsets_count l, ap (λ (h : LookupHead). h.count) c.head-head.ensures) in
    no_fault (subtables_from nodes l.head.kind 0 (offsets_of l)) (sym c.loop-i.invariant ∙ ap (λ vs. fault_of (subtables_from nodes l.head.kind c.loop-i.i vs)) (drop_all c.loop-i.i (offsets_of l) past))
