use Rattle.std.proofs.Common.{ℕ, ◌<◌, length, Some, Option, sym, refl, ap, ◌∙◌, subst}
use Rattle.layout.specs.Lookup.{index_in}
use Rattle.graph.specs.Model.{view}
use Rattle.markbase.proofs.Finds.{parts_of, glyphs_are, mark_missed, mark_known, mark_found, mark_classed}
use Rattle.markbase.proofs.hits.KnownTable.find_mark.Goals as goal

pub returns-in_err-i-clause-found : goal.returns-in_err-i-clause-found
returns-in_err-i-clause-found c =
    let k = c.args.self.now in
    let nodes = (view k.graph.now).nodes in
    let p = parts_of nodes k.table k.read in
    let gs = glyphs_are _ _ _ p.mark_glyphs c.from_sound-coverage.ensures c.from_graph.ensures.node p.whole.marks in
    c.from_residual.ensures ∙ sym (mark_missed nodes k.table p c.args.glyph (ap (index_in c.args.glyph 0) (sym gs) ∙ sym c.in_err-i.ensures))

pub mark-requires : goal.mark-requires
mark-requires c =
    let k = c.args.self.now in
    let nodes = (view k.graph.now).nodes in
    let p = parts_of nodes k.table k.read in
    let gs = glyphs_are _ _ _ p.mark_glyphs c.from_sound-coverage.ensures c.from_graph.ensures.node p.whole.marks in
    mark_known nodes k.table p _ c.from_graph-2.ensures.node (c.count.ensures ∙ ap length gs) refl c.args.glyph c.in_ok-i.i (ap (index_in c.args.glyph 0) (sym gs) ∙ sym c.in_ok-i.ensures)

pub returns-clause-found : goal.returns-clause-found
returns-clause-found c =
    let k = c.args.self.now in
    let nodes = (view k.graph.now).nodes in
    let p = parts_of nodes k.table k.read in
    let gs = glyphs_are _ _ _ p.mark_glyphs c.from_sound-coverage.ensures c.from_graph.ensures.node p.whole.marks in
    ap Some c.mark.ensures ∙ sym (mark_found nodes k.table p _ c.from_graph-2.ensures.node (c.count.ensures ∙ ap length gs) refl c.args.glyph c.in_ok-i.i (ap (index_in c.args.glyph 0) (sym gs) ∙ sym c.in_ok-i.ensures))

pub returns-clause-class : goal.returns-clause-class
returns-clause-class c =
    let k = c.args.self.now in
    let nodes = (view k.graph.now).nodes in
    let p = parts_of nodes k.table k.read in
    let gs = glyphs_are _ _ _ p.mark_glyphs c.from_sound-coverage.ensures c.from_graph.ensures.node p.whole.marks in
    subst (λ (x : ℕ × Option ℕ). x.0 < k.table.class_count) (sym c.mark.ensures)
    (mark_classed nodes k.table p _ c.from_graph-2.ensures.node (c.count.ensures ∙ ap length gs) refl c.args.glyph c.in_ok-i.i (ap (index_in c.args.glyph 0) (sym gs) ∙ sym c.in_ok-i.ensures))
