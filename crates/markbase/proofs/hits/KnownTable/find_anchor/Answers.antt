use Rattle.std.proofs.Common.{length, Some, sym, refl, ap, ◌∙◌}
use Rattle.layout.specs.Lookup.{index_in}
use Rattle.graph.specs.Model.{view}
use Rattle.markbase.proofs.Finds.{parts_of, glyphs_are, base_missed, bases_stand, base_known, base_found}
use Rattle.markbase.proofs.hits.KnownTable.find_anchor.Goals as goal

pub returns-in_err-i : goal.returns-in_err-i
returns-in_err-i c =
    let k = c.args.self.now in
    let nodes = (view k.graph.now).nodes in
    let p = parts_of nodes k.table k.read in
    let gs = glyphs_are _ _ _ p.base_glyphs c.from_sound-coverage.ensures c.from_graph.ensures.node p.whole.bases in
    c.from_residual.ensures ∙ sym (base_missed nodes k.table p c.args.glyph c.args.class (ap (index_in c.args.glyph 0) (sym gs) ∙ sym c.in_err-i.ensures))

pub invariant_of-array : goal.invariant_of-array
invariant_of-array c =
    let k = c.args.self.now in
    let nodes = (view k.graph.now).nodes in
    let p = parts_of nodes k.table k.read in
    let gs = glyphs_are _ _ _ p.base_glyphs c.from_sound-coverage.ensures c.from_graph.ensures.node p.whole.bases in
    record { ascending = c.from_graph-2.ensures.ascending; stands = bases_stand nodes k.table p c.from_graph-2.result _ c.from_graph-2.ensures.node (c.count.ensures ∙ ap length gs) }

pub anchor-requires-clause-base : goal.anchor-requires-clause-base
anchor-requires-clause-base c =
    let k = c.args.self.now in
    let nodes = (view k.graph.now).nodes in
    let p = parts_of nodes k.table k.read in
    let gs = glyphs_are _ _ _ p.base_glyphs c.from_sound-coverage.ensures c.from_graph.ensures.node p.whole.bases in
    base_known nodes k.table p _ c.from_graph-2.ensures.node (c.count.ensures ∙ ap length gs) refl c.args.glyph c.in_ok-i.i (ap (index_in c.args.glyph 0) (sym gs) ∙ sym c.in_ok-i.ensures)

pub returns : goal.returns
returns c =
    let k = c.args.self.now in
    let nodes = (view k.graph.now).nodes in
    let p = parts_of nodes k.table k.read in
    let gs = glyphs_are _ _ _ p.base_glyphs c.from_sound-coverage.ensures c.from_graph.ensures.node p.whole.bases in
    ap Some c.anchor.ensures ∙ sym (base_found nodes k.table p _ c.from_graph-2.ensures.node (c.count.ensures ∙ ap length gs) refl c.args.glyph c.in_ok-i.i (ap (index_in c.args.glyph 0) (sym gs) ∙ sym c.in_ok-i.ensures) c.args.class)
