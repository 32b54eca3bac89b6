use Rattle.std.proofs.Common.{ℕ, ◌<◌, List, length, get_or, ap, ◌∙◌, arith}
use Rattle.std.proofs.lemmas.List.{get_or-replicate, take_all}
use Rattle.std.proofs.lemmas.List.FromFn.{fill_by_all}
use Rattle.serialize.specs.declared.link.Link.{Link}
use Rattle.serialize.specs.Objects.{link_at, leading_to}
use Rattle.graph.proofs.Counts.{count_more, count_small}
use Rattle.graph.proofs.tables.incoming.count_children.Goals as goal

pub loop-link-init : goal.loop-link-init
loop-link-init c v h = let n = length c.args.counts.now in ap (λ (xs : List ℕ). get_or xs v 0) c.requires.zero ∙ get_or-replicate n v 0 0 h

pub bounds-counts-link : goal.bounds-counts-link
bounds-counts-link c = omega (arith, c.requires.children c.loop-link.link-index (omega arith), c.loop-link.auto.counts)

pub overflow_add-counts : goal.overflow_add-counts
overflow_add-counts c =
    let ls = c.args.links.now in
    let i = c.loop-link.link-index in
    let child = (link_at ls i).child in
    let lt : child < length c.loop-link.counts = omega (arith, c.requires.children i (omega arith), c.loop-link.auto.counts) in
    omega (arith, c.loop-link.invariant child lt, count_small ls i child (omega arith), c.requires.few)

pub bounds-counts-link-in-loop-link : goal.bounds-counts-link-in-loop-link
bounds-counts-link-in-loop-link c = omega (arith, c.requires.children c.loop-link.link-index (omega arith), c.loop-link.auto.counts)

pub loop-link-preserved : goal.loop-link-preserved
loop-link-preserved c =
    let i = c.loop-link.link-index in
    count_more c.args.links.now c.loop-link.counts i (omega arith) c.loop-link.invariant (omega (arith, c.requires.children i (omega arith), c.loop-link.auto.counts))

pub returns : goal.returns
returns c =
    let ls = c.args.links.now in
    let n = length c.args.counts.now in
    fill_by_all (leading_to ls) c.loop-link.counts n 0 c.loop-link.auto.counts
    (λ k h. c.loop-link.invariant k (omega (arith, c.loop-link.auto.counts)) ∙ ap (λ (xs : List Link). leading_to xs k) (take_all c.loop-link.link-index ls (omega arith)))
