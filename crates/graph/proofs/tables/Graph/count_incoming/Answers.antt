use Rattle.std.proofs.Common.{ℕ, ◌<◌, List, map, length, sym, ap, ◌∙◌, subst, arith}
use Rattle.std.specs.List.{range_with_len}
use Rattle.serialize.specs.declared.link.Link.{Link}
use Rattle.serialize.specs.Objects.{link_at, leading_to}
use Rattle.graph.specs.Model.{view}
use Rattle.graph.proofs.Views.{sound_objects}
use Rattle.graph.proofs.Counts.{children_in}
use Rattle.graph.proofs.tables.Graph.count_incoming.Goals as goal

pub count_children-requires : goal.count_children-requires
count_children-requires c =
    let g = c.args.self.now in
    let n = length c.args.counts.now in
    record {
      zero = c.requires.zero;
      few = c.all_links.ensures.bound;
      children =
          subst (λ (ls : List Link). (i : ℕ) → i < length ls → (link_at ls i).child < n) (sym c.all_links.ensures.value)
          (λ i h. omega (arith, children_in (view g).nodes (sound_objects g) i h, c.requires.long));
    }

pub returns : goal.returns
returns c =
    let n = length c.args.counts.now in
    c.count_children.ensures ∙ ap (λ (ls : List Link). map (leading_to ls) (range_with_len 0 n)) c.all_links.ensures.value
