-- What follows from a way between two states of a lookup that stand.
use Rattle.std.proofs.Common.{◌≡◌, ℕ, ◌<◌, List, [], ◌∷◌, length, Some, None, Option, sym, refl, ap, ◌∙◌, subst, inl, inr, arith}
use Rattle.std.specs.List.{AllByRecursion}
use Rattle.serialize.specs.Objects.{Node, node_at, link_at, SoundObjects}
use Rattle.walk.specs.Reach.{Leads, Reach, here, step, Reached}
use Rattle.fields.specs.Arrays.{present}
use Rattle.markbase.specs.Values.{Subtable}
use Rattle.lookups.specs.Tables.{Fields}
use Rattle.written.proofs.Leads.{links_lead}
use Rattle.pieces.specs.Keeping.{anchors}
use Rattle.pieces.specs.Sizes.{size, Agree}
use Rattle.pieces.proofs.Sizes.{sizes_stay}
use Rattle.pieces.proofs.Reaching.{reached_more}
use Rattle.splitting.specs.Cuts.{cover_length, whole_size}
use Rattle.splitting.specs.Needs.{Need}
use Rattle.splitting.specs.Standing.{Stands, SameReached, SameAnchor}
use Rattle.splitting.specs.Laws.{Becomes}
use Rattle.splitting.proofs.Members.{In, all_in, all_from_in}
use Rattle.splitting.proofs.Tally.{child_below}
use Rattle.splitting.proofs.Owned.{Owned, owned}
use Rattle.splitting.proofs.Journey.{From, Journey}

-- a vertex that is the same leads to the same
leads_same : (xs ys : List Node) (u w : ℕ) → node_at xs u ≡ node_at ys u → Leads xs u w → Leads ys u w
leads_same xs ys u w e l = subst (λ (x : Node). (i : ℕ) × (i < length x.links) × ((link_at x.links i).child ≡ w)) e l

-- what a vertex reaches is a vertex
reach_below : (nodes : List Node) → SoundObjects nodes → (x w : ℕ) → x < length nodes → Reach nodes x w → w < length nodes
reach_below nodes sound x w l here = l
reach_below nodes sound x w l (step {v = y} h r) = reach_below nodes sound y w (child_below nodes sound x y h) r

-- what is reached, one of the roots reaches
from_root : (nodes : List Node) (roots : List ℕ) (w : ℕ) → Reached nodes roots w → (x : ℕ) × In x roots × Reach nodes x w
from_root nodes [] w r = absurd r
from_root nodes (x ∷ roots) w (inl r) = (x, inl refl, r)
from_root nodes (x ∷ roots) w (inr r) = let p = from_root nodes roots w r in (p.0, inr p.1, p.2)

module _ (nodes nodes' : List Node) where
  -- all that x reaches is the same
  abbrev Steady : ℕ → Type 0
  Steady x = (w : ℕ) → Reach nodes x w → node_at nodes' w ≡ node_at nodes w

  there : (x w : ℕ) → Steady x → Reach nodes x w → Reach nodes' x w
  there x w g here = here
  there x w g (step {v = y} l r) = step (leads_same nodes nodes' x y (sym (g x here)) l) (there y w (λ z q. g z (step l q)) r)

  back : (x w : ℕ) → Steady x → Reach nodes' x w → Reach nodes x w
  back x w g here = here
  back x w g (step {v = y} l r) = let m = leads_same nodes' nodes x y (g x here) l in step m (back y w (λ z q. g z (step m q)) r)

  same_reached : (x : ℕ) → Steady x → SameReached nodes nodes' x
  same_reached x g w = (λ r. (there x w g r, g w r), back x w g)

  -- so of anchors and nulls
  same_anchors : (os : List (Option ℕ)) → ((x : ℕ) → In x (present os) → Steady x) → AllByRecursion (SameAnchor nodes nodes') os
  same_anchors [] h = tt
  same_anchors (Some x ∷ os) h = (same_reached x (h x (inl refl)), same_anchors os (λ y i. h y (inr i)))
  same_anchors (None ∷ os) h = (tt, same_anchors os h)

module _ {nodes nodes' : List Node} {v : ℕ} {f f' : Fields} {ts us : List Subtable} {more links : ℕ} (s : Stands nodes v f ts) (s' : Stands nodes' v f' us) (j : Journey nodes nodes' v ts us more links) where
  whose : Owned nodes v ts
  whose = owned links_lead s

  -- an anchor reaches vertices, and all of them stay
  anchor_below : (t : Subtable) → In t ts → (x w : ℕ) → In x (present (anchors t.contents)) → Reach nodes x w → w < length nodes
  anchor_below t i x w k r = reach_below nodes s.sound x w (all_in x (λ y. y < length nodes) (present (anchors t.contents)) (all_in t _ ts whose.anchored i) k) r

  anchor_steady : (t : Subtable) → In t ts → (x : ℕ) → In x (present (anchors t.contents)) → Steady nodes nodes' x
  anchor_steady t i x k w r = j.kept w (anchor_below t i x w k r) (all_in t _ ts whose.apart i x w k r)

  -- so a subtable keeps its size
  agree : (u : Subtable) → From ts u → Agree nodes nodes' (present (anchors u.contents))
  agree u o =
      let t = o.origin in
      let root : (w : ℕ) → Reached nodes (present (anchors u.contents)) w → (x : ℕ) × In x (present (anchors t.contents)) × Reach nodes x w =
      λ w r. from_root nodes (present (anchors t.contents)) w (reached_more nodes (anchors u.contents) (anchors t.contents) o.inside w r) in
      record {
        within = λ w r. let q = root w r in let l = anchor_below t o.among q.0 w q.1 q.2 in (l, omega (arith, j.vertices));
        same = λ w r. let q = root w r in anchor_steady t o.among q.0 q.1 w q.2;
      }

  cover_same : (u : Subtable) → From ts u → cover_length nodes' u ≡ cover_length nodes u
  cover_same u o =
      let t = o.origin in
      let b = t.table.base_coverage in
      let same : node_at nodes' b ≡ node_at nodes b = j.kept b (all_in t _ ts whose.below o.among) (all_in t _ ts whose.covers o.among) in
      ap (λ (w : ℕ). length (node_at nodes' w).bytes) o.cover ∙ ap (λ (x : Node). length x.bytes) same ∙ ap (λ (w : ℕ). length (node_at nodes w).bytes) (sym o.cover)

  size_same : (u : Subtable) → From ts u → whole_size nodes' u ≡ whole_size nodes u
  size_same u o =
      let k = u.table.class_count in
      let c = u.contents in
      ap (λ (n : ℕ). size nodes' n k c) (cover_same u o) ∙ sizes_stay nodes nodes' s.sound s'.sound (cover_length nodes u) k c (agree u o)

-- the lookup has become what it stands as, if the way needs so much
pub arrives : (nodes nodes' : List Node) (v : ℕ) (f f' : Fields) (ts us : List Subtable) (need : Need) → Stands nodes v f ts → Stands nodes' v f' us
    → Journey nodes nodes' v ts us need.vertices need.links → Becomes nodes nodes' v f' ts us need
arrives nodes nodes' v f f' ts us need s s' j = record {
  stands = s';
  hits = j.hits;
  same = all_from_in _ ts (λ t i. same_anchors nodes nodes' (anchors t.contents) (anchor_steady s s' j t i));
  sizes = all_from_in _ us (λ u i. size_same s s' j u (all_in u (From ts) us j.from i));
  vertices = j.vertices;
  links = j.linked;
}
