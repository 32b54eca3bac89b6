use Rattle.std.proofs.Common.{sym, ap, ◌∙◌, subst}
use Rattle.serialize.specs.Objects.{Node, node_at, Ascends}
use Rattle.graph.specs.Model.{view}
use Rattle.fields.specs.Arrays.{mark_array_reader, base_array_reader}
use Rattle.markbase.specs.Nodes.{read}
use Rattle.markbase.specs.Tables.{coverage}
use Rattle.markbase.proofs.Contents.{covers, marks_made, rows_made, contents_counted}
use Rattle.markbase.proofs.parts.read_contents.Goals as goal

pub returns : goal.returns
returns c =
    let nodes = (view c.args.graph.now).nodes in
    let t = c.args.table in
    let k = t.class_count in
    contents_counted {nodes = nodes} {t = t} record {
      marks = ap coverage (sym c.from_graph.ensures.node) ∙ covers _ _ _ _ c.read_coverage.ensures c.in_ok-marks.ensures;
      bases = ap coverage (sym c.from_graph-2.ensures.node) ∙ covers _ _ _ _ c.read_coverage-2.ensures c.in_ok-bases.ensures;
      mark_records = ap (λ n. read (mark_array_reader n k) (node_at nodes t.mark_array)) (sym c.count-mark_count.ensures) ∙ ap (read (mark_array_reader c.count-mark_count.result k)) (sym c.from_graph-3.ensures.node) ∙ marks_made _ _ _ _ c.read.ensures c.in_ok-in_part.ensures;
      base_rows = ap (λ n. read (base_array_reader n k) (node_at nodes t.base_array)) (sym c.count-base_count.ensures) ∙ ap (read (base_array_reader c.count-base_count.result k)) (sym c.from_graph-4.ensures.node) ∙ rows_made _ _ _ _ c.read-2.ensures c.in_ok-in_part-2.ensures;
    }
    (subst (λ (x : Node). Ascends x.links) c.from_graph-3.ensures.node c.from_graph-3.ensures.ascending)
    (subst (λ (x : Node). Ascends x.links) c.from_graph-4.ensures.node c.from_graph-4.ensures.ascending)
    _ _ c.count-mark_count.ensures c.count-base_count.ensures
