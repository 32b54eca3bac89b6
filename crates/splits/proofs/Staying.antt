-- What stays of the open lookup's hits from one model to another.
use Rattle.std.proofs.Common.{◌≡◌, ℕ, ◌<◌, List, [], ◌∷◌, Some, None, Ok, Err, Option, Result, sym, refl, ap, ◌∙◌, subst}
use Rattle.std.proofs.ByRecursion.{all-has}
use Rattle.std.specs.List.{AllByRecursion}
use Rattle.refusal.specs.declared.Refusal.{Refusal}
use Rattle.refusal.specs.declared.Refusal.TheVariants.{NothingOpen}
use Rattle.serialize.specs.Objects.{Node}
use Rattle.markbase.specs.declared.hits.Hit.{Hit}
use Rattle.markbase.specs.Values.{Subtable}
use Rattle.markbase.specs.Hits.{hit_of}
use Rattle.lookups.specs.declared.fault.LookupFault.{LookupFault}
use Rattle.lookups.specs.Tables.{Fields}
use Rattle.lookups.specs.Values.{LookupValue, lookup_of}
use Rattle.lookups.specs.Hits.{joined, hits_in, first, attach_in}
use Rattle.pieces.specs.Keeping.{anchors}
use Rattle.pieces.proofs.Anchors.{hits_from_anchors}
use Rattle.splitting.specs.Standing.{Stands, SameAnchor}
use Rattle.splitting.specs.Calls.{fields_in, fields_at, subtables_in, subtables_at}
use Rattle.splitting.proofs.Opening.{stands_opens}
use Rattle.workspace.specs.Model.{Model}
use Rattle.workspace.specs.Attaching as at
use Rattle.workspace.specs.Attaching.{hits_of, attach_of}
use Rattle.splits.specs.Histories.{SameHit, SamePair}

-- the lookup at v is open and stands, and vertices can be counted in a word
pub record Open (m : Model) (v : ℕ) : Type 0 where
  pub is : m.lookup ≡ Some v
  pub stands : Stands m.graph.nodes v (fields_at m.graph.nodes v) (subtables_at m.graph.nodes v)
  pub few : m.graph.capacity.vertices < 65536

-- a lookup that stands has the fields and the subtables that are read
pub subtables_read : (nodes : List Node) (v : ℕ) (f : Fields) (ts : List Subtable) → Stands nodes v f ts → subtables_at nodes v ≡ ts
subtables_read nodes v f ts s = ap subtables_in (stands_opens nodes v f ts s).1

pub settled : (nodes : List Node) (v : ℕ) (f : Fields) (ts : List Subtable) → Stands nodes v f ts → Stands nodes v (fields_at nodes v) (subtables_at nodes v)
settled nodes v f ts s =
    subst (λ (g : Fields). Stands nodes v g (subtables_at nodes v)) (sym (ap fields_in s.fields))
    (subst (λ (us : List Subtable). Stands nodes v f us) (sym (subtables_read nodes v f ts s)) s)

-- the hits in an open lookup are those in its subtables, and `attach` answers the first
module _ (m : Model) (v : ℕ) (o : Open m v) (mark base : ℕ) where
  abbrev nodes : List Node
  nodes = m.graph.nodes

  read : lookup_of nodes v ≡ Ok record { kind = (fields_at nodes v).kind; flag = (fields_at nodes v).flag; subtables = subtables_at nodes v }
  read = (stands_opens nodes v (fields_at nodes v) (subtables_at nodes v) o.stands).1

  pub hits_are : hits_of m mark base ≡ hits_in (subtables_at nodes v) mark base
  hits_are =
      ap (λ (x : Option ℕ). elim x [ None ↦ [] | Some u ↦ at.hits_in (lookup_of nodes u) mark base ]) o.is
      ∙ ap (λ (x : Result LookupValue LookupFault). at.hits_in x mark base) read

  pub attach_is : attach_of m mark base ≡ Ok (first (hits_in (subtables_at nodes v) mark base))
  attach_is =
      ap (λ (x : Option ℕ). elim x as (λ _. Result (Option Hit) Refusal) [ None ↦ Err NothingOpen | Some u ↦ Ok (attach_in (lookup_of nodes u) mark base) ]) o.is
      ∙ ap (λ (x : Result LookupValue LookupFault). Ok (attach_in x mark base)) read

-- where nothing changes
same_anchor : (xs : List Node) (o : Option ℕ) → SameAnchor xs xs o
same_anchor xs None = tt
same_anchor xs (Some v) = λ w. ((λ r. (r, refl)), λ r. r)

each : {X : Type 0} (P : X → Type 0) → ((x : X) → P x) → (xs : List X) → AllByRecursion P xs
each P p [] = tt
each P p (x ∷ xs) = (p x, each P p xs)

pub same_pair : (m : Model) (mark base : ℕ) → SamePair m m mark base
same_pair m mark base =
    record {
      hits = refl;
      same = each (SameHit m.graph.nodes m.graph.nodes) (λ h. (same_anchor m.graph.nodes h.mark, same_anchor m.graph.nodes h.base)) (hits_of m mark base);
      attach = refl;
    }

-- one change after another
module _ (a b c : List Node) where
  anchor_onward : (o : Option ℕ) → SameAnchor a b o → SameAnchor b c o → SameAnchor a c o
  anchor_onward None s s' = tt
  anchor_onward (Some v) s s' = λ w. ((λ r. let x = (s w).0 r in let y = (s' w).0 x.0 in (y.0, y.1 ∙ x.1)), λ r. (s w).1 ((s' w).1 r))

  hits_onward : (hs : List Hit) → AllByRecursion (SameHit a b) hs → AllByRecursion (SameHit b c) hs → AllByRecursion (SameHit a c) hs
  hits_onward [] s s' = tt
  hits_onward (h ∷ hs) s s' = ((anchor_onward h.mark s.0.0 s'.0.0, anchor_onward h.base s.0.1 s'.0.1), hits_onward hs s.1 s'.1)

pub pair_onward : (m m' m'' : Model) (mark base : ℕ) → SamePair m m' mark base → SamePair m' m'' mark base → SamePair m m'' mark base
pair_onward m m' m'' mark base s s' =
    record {
      hits = s'.hits ∙ s.hits;
      same = hits_onward m.graph.nodes m'.graph.nodes m''.graph.nodes (hits_of m mark base) s.same (subst (AllByRecursion (SameHit m'.graph.nodes m''.graph.nodes)) s.hits s'.same);
      attach = s'.attach ∙ s.attach;
    }

-- where nothing that the anchors of subtables reach changes, their hits are the same
module _ (a b : List Node) where
  base_same : (o : Option ℕ) → ((v : ℕ) → o ≡ Some v → SameAnchor a b o) → SameAnchor a b o
  base_same None f = tt
  base_same (Some v) f = f v refl

  hits_same : (ts : List Subtable) → AllByRecursion (λ (t : Subtable). AllByRecursion (SameAnchor a b) (anchors t.contents)) ts → (mark base : ℕ) → AllByRecursion (SameHit a b) (hits_in ts mark base)
  hits_same [] s mark base = tt
  hits_same (t ∷ ts) s mark base = by (hit_of t.contents mark base) refl (hits_same ts s.1 mark base)
    where
      by : (x : Option Hit) → hit_of t.contents mark base ≡ x → AllByRecursion (SameHit a b) (hits_in ts mark base) → AllByRecursion (SameHit a b) (joined x (hits_in ts mark base))
      by (Some h) e rest =
          let from = hits_from_anchors t.contents mark base h e in (
            (all-has (SameAnchor a b) (anchors t.contents) h.mark s.0 from.mark, base_same h.base (λ v is. all-has (SameAnchor a b) (anchors t.contents) h.base s.0 (from.base v is))),
            rest,
          )
      by None e rest = rest

-- from one open lookup to another with the hits that it had
pub pair_kept : (m m' : Model) (v : ℕ) → Open m v → Open m' v → ((mark base : ℕ) → hits_in (subtables_at m'.graph.nodes v) mark base ≡ hits_in (subtables_at m.graph.nodes v) mark base)
    → AllByRecursion (λ (t : Subtable). AllByRecursion (SameAnchor m.graph.nodes m'.graph.nodes) (anchors t.contents)) (subtables_at m.graph.nodes v) → (mark base : ℕ) → SamePair m m' mark base
pair_kept m m' v o o' hits same mark base =
    record {
      hits = hits_are m' v o' mark base ∙ (hits mark base ∙ sym (hits_are m v o mark base));
      same = subst (AllByRecursion (SameHit m.graph.nodes m'.graph.nodes)) (sym (hits_are m v o mark base)) (hits_same m.graph.nodes m'.graph.nodes (subtables_at m.graph.nodes v) same mark base);
      attach = attach_is m' v o' mark base ∙ (ap (λ (hs : List Hit). Ok (first hs)) (hits mark base) ∙ sym (attach_is m v o mark base));
    }
