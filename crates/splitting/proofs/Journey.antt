-- From one state of a lookup to another: what composes, and what follows in the end.
use Rattle.std.proofs.Common.{◌≡◌, ℕ, ◌+◌, ◌<◌, List, length, Option, refl, ◌∙◌, arith}
use Rattle.std.specs.List.{ContainsAt as Has, AllByRecursion}
use Rattle.std.proofs.ByRecursion.{All-weaker}
use Rattle.serialize.specs.Objects.{Node, node_at, all_links}
use Rattle.markbase.specs.Values.{Subtable}
use Rattle.lookups.specs.Hits.{hits_in}
use Rattle.pieces.specs.Keeping.{anchors}
use Rattle.splitting.proofs.Members.{In, all_in, all_from_in}
use Rattle.splitting.proofs.Owned.{own}

-- a subtable has its base coverage and its anchors from one of these
pub record From (ts : List Subtable) (u : Subtable) : Type 0 where
  pub origin : Subtable
  pub among : In origin ts
  pub cover : u.table.base_coverage ≡ origin.table.base_coverage
  pub inside : (o : Option ℕ) → Has (anchors u.contents) o → Has (anchors origin.contents) o

-- from the subtables ts to the subtables us, with so many vertices and links more
pub record Journey (nodes nodes' : List Node) (v : ℕ) (ts us : List Subtable) (more links : ℕ) : Type 0 where
  pub hits : (m b : ℕ) → hits_in us m b ≡ hits_in ts m b
  -- only own vertices change, and no old vertex becomes an own one
  pub kept : (u : ℕ) → u < length nodes → (In u (own v ts) → ⊥) → node_at nodes' u ≡ node_at nodes u
  pub grows : (u : ℕ) → u < length nodes → In u (own v us) → In u (own v ts)
  pub from : AllByRecursion (From ts) us
  pub vertices : length nodes' ≡ length nodes + more
  pub linked : length (all_links nodes') ≡ length (all_links nodes) + links

pub from_itself : (ts : List Subtable) → AllByRecursion (From ts) ts
from_itself ts = all_from_in (From ts) ts (λ t i. record { origin = t; among = i; cover = refl; inside = λ o h. h })

-- no way at all
pub stays : (nodes : List Node) (v : ℕ) (ts : List Subtable) → Journey nodes nodes v ts ts 0 0
stays nodes v ts = record {
  hits = λ m b. refl;
  kept = λ u l h. refl;
  grows = λ u l i. i;
  from = from_itself ts;
  vertices = omega arith;
  linked = omega arith;
}

from_on : {ts us : List Subtable} → AllByRecursion (From ts) us → (w : Subtable) → From us w → From ts w
from_on {ts} {us} f w g =
    let h = all_in g.origin (From ts) us f g.among in
    record { origin = h.origin; among = h.among; cover = g.cover ∙ h.cover; inside = λ o k. h.inside o (g.inside o k) }

-- one way after another
pub onward : {nodes nodes' nodes'' : List Node} {v : ℕ} {ts us ws : List Subtable} {a b x y : ℕ} → Journey nodes nodes' v ts us a x → Journey nodes' nodes'' v us ws b y → Journey nodes nodes'' v ts ws (a + b) (x + y)
onward {nodes} {nodes'} {nodes''} {v} {ts} {us} {ws} j k = record {
  hits = λ m c. k.hits m c ∙ j.hits m c;
  kept = λ u l h. k.kept u (omega (arith, j.vertices)) (λ i. h (j.grows u l i)) ∙ j.kept u l h;
  grows = λ u l i. j.grows u l (k.grows u (omega (arith, j.vertices)) i);
  from = All-weaker (From us) (From ts) (from_on j.from) ws k.from;
  vertices = omega (arith, j.vertices, k.vertices);
  linked = omega (arith, j.linked, k.linked);
}
