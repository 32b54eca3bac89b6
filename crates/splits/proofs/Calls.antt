-- Each call that does not end a history leads from an open lookup that stands to one with the same hits.
use Rattle.std.proofs.Common.{◌≡◌, ℕ, ◌+◌, ◌≤◌, Bool, true, false, cond, leb, List, length, take, drop, Some, None, Ok, Err, Option, Result, sym, refl, ap, ◌∙◌, subst, arith}
use Rattle.std.proofs.lemmas.Bool.{leb-true}
use Rattle.std.specs.Option.{option_map}
use Rattle.refusal.specs.declared.Shortage.{Shortage}
use Rattle.refusal.specs.declared.Shortage.TheVariants.{Vertices}
use Rattle.refusal.specs.declared.Refusal.{Refusal}
use Rattle.refusal.specs.declared.Refusal.TheVariants.{LookupOpen, NoRoom}
use Rattle.serialize.specs.Objects.{Node}
use Rattle.graph.specs.Model.{Model as Objects}
use Rattle.coverage_writers.specs.Writing.{Lawful}
use Rattle.markbase.specs.declared.lookup_type.LookupType.{LookupType}
use Rattle.markbase.specs.declared.lookup_type.LookupType.TheVariants.{MarkToBase, Extension}
use Rattle.markbase.specs.Values.{Subtable}
use Rattle.lookups.specs.Hits.{hits_in}
use Rattle.lookups.specs.Judging.{or_else}
use Rattle.lookups.specs.Tables.{Fields}
use Rattle.splitting.specs.Vertices.{Meaning}
use Rattle.splitting.specs.Cuts.{Plan, too_large}
use Rattle.splitting.specs.Leaving.{subtables_left, new_count, with_subtables, fields_left, left_by, behind, extended_by}
use Rattle.splitting.specs.Needs.{Need, need_of, extend_need, grown_to}
use Rattle.splitting.specs.Calls as on
use Rattle.splitting.specs.Calls.{fields_at, subtables_at, bad_place, bad_reach, no_room, split_plan, split_all_plan, cut_need, has_extensions}
use Rattle.splitting.specs.Laws.{Becomes, Cuts}
use Rattle.splitting.proofs.Plan.{cutting_stands_lem}
use Rattle.splitting.proofs.Extending.{extending_stands_lem}
use Rattle.workspace.specs.Model.{Model}
use Rattle.workspace.specs.Rest.{wrong_at}
use Rattle.workspace.specs.Opening.{Opens, open_refusal}
use Rattle.splits.specs.Splitting.{unless_open, split_refusal, split_all_refusal, with_objects, Cut, Splits, SplitsAll, Extends}
use Rattle.splits.specs.Histories.{Line, Step, ends, History, SamePair}
use Rattle.splits.specs.Histories.Line.{loading, opening, closing, attaching, asking, splitting, splitting_all, extending}
use Rattle.splits.specs.Histories.History.{start, next}
use Rattle.splits.proofs.Plans.{whole, each_whole, one_whole, each_cuts, one_cuts}
use Rattle.splits.proofs.Staying.{Open, settled, subtables_read, same_pair, pair_onward, pair_kept}

-- the lookup at v is open again, and every pair is the same
pub record Next (m : Model) (v : ℕ) (m' : Model) : Type 0 where
  pub still : Open m' v
  pub pairs : (mark base : ℕ) → SamePair m m' mark base

-- where nothing changes
itself : (m m' : Model) (v : ℕ) → Open m v → m' ≡ m → Next m v m'
itself m m' v o e = subst (Next m v) (sym e) record { still = o; pairs = same_pair m }

onward : (m m' m'' : Model) (v : ℕ) → Next m v m' → Next m' v m'' → Next m v m''
onward m m' m'' v n n' = record { still = n'.still; pairs = λ mark base. pair_onward m m' m'' mark base (n.pairs mark base) (n'.pairs mark base) }

-- no cause is found where neither is
pub or_none : (w later : Option Refusal) → or_else w later ≡ None → (w ≡ None) × (later ≡ None)
or_none (Some r) later e = absurd (cc)
or_none None later e = (refl, e)

some_same : (a b : ℕ) → ◌≡◌ {A = Option ℕ} (Some a) (Some b) → a ≡ b
some_same a b e = cc

-- where there is room, there is room for the vertices
room : (g : Objects) (n : Need) → no_room g n ≡ None → length g.nodes + n.vertices ≤ g.capacity.vertices
room g n e = by (leb (length g.nodes + n.vertices) g.capacity.vertices) _ refl e
  where
    by : (b : Bool) (x : Option Shortage) → leb (length g.nodes + n.vertices) g.capacity.vertices ≡ b → option_map (λ s. NoRoom s) (cond b x (Some Vertices)) ≡ None → length g.nodes + n.vertices ≤ g.capacity.vertices
    by true x e h = leb-true (length g.nodes + n.vertices) g.capacity.vertices e
    by false x e h = absurd (cc)

-- a lookup of type 4 has no extensions
four : (k : LookupType) → has_extensions k ≡ None → k ≡ MarkToBase
four MarkToBase e = refl
four Extension e = absurd (cc)

module _ (m : Model) (v : ℕ) (o : Open m v) where
  abbrev ns : List Node
  ns = m.graph.nodes

  abbrev fs : Fields
  fs = fields_at m.graph.nodes v

  abbrev ts : List Subtable
  ts = subtables_at m.graph.nodes v

  -- what the lookup has become is open
  becomes_next : (nodes' : List Node) (f' : Fields) (us : List Subtable) (need : Need) → Becomes ns nodes' v f' ts us need → Next m v (with_objects m (grown_to m.graph nodes' need))
  becomes_next nodes' f' us need b =
      let m' = with_objects m (grown_to m.graph nodes' need) in
      let o' : Open m' v = record { is = o.is; stands = settled nodes' v f' us b.stands; few = o.few } in
      record {
        still = o';
        pairs = pair_kept m m' v o o' (λ mark base. ap (λ (xs : List Subtable). hits_in xs mark base) (subtables_read nodes' v f' us b.stands) ∙ b.hits mark base) b.same;
      }

  module _ (w : Meaning) where
    -- what cutting as planned makes of it
    abbrev pub CutSo : Plan → Type 0
    CutSo plan = Becomes ns (left_by w ns v fs plan) v (fields_left ns fs plan) ts (subtables_left fs.kind (length ns) plan) (need_of w ns v fs plan)

    cut_so : Lawful w → (plan : Plan) → whole plan ≡ ts → Cuts plan → no_room m.graph (cut_need w m.graph v plan) ≡ None → CutSo plan
    cut_so lawful plan same cuts none =
        let there = room m.graph (cut_need w m.graph v plan) none in
        cutting_stands_lem w lawful ns v fs ts o.stands plan same cuts (omega (arith, there, o.few))

    -- the answer, and the model after it
    pub cut_model : (m' : Model) (plan : ℕ → Plan) (n : ℕ) → Cut w m plan n m' → (n ≡ new_count (plan v)) × (m' ≡ with_objects m (on.cut_by w m.graph v (plan v)))
    cut_model m' plan n c =
        let e = some_same c.0 v (sym c.1 ∙ o.is) in
        (c.2 ∙ ap (λ (u : ℕ). new_count (plan u)) e, c.3 ∙ ap (λ (u : ℕ). with_objects m (on.cut_by w m.graph u (plan u))) e)

    cut_next : (m' : Model) (plan : ℕ → Plan) (n : ℕ) → Cut w m plan n m' → CutSo (plan v) → Next m v m'
    cut_next m' plan n c b =
        subst (Next m v) (sym (cut_model m' plan n c).1)
        (becomes_next (left_by w ns v fs (plan v)) (fields_left ns fs (plan v)) (subtables_left fs.kind (length ns) (plan v)) (need_of w ns v fs (plan v)) b)

    -- the causes of the open lookup
    pub split_causes : (place reach : ℕ) → split_refusal w m place reach ≡ on.split_refusal w m.graph v place reach
    split_causes place reach = ap (λ (x : Option ℕ). unless_open x (λ u. on.split_refusal w m.graph u place reach)) o.is

    pub split_so : Lawful w → (place reach : ℕ) → split_refusal w m place reach ≡ None → CutSo (split_plan m.graph v place reach)
    split_so lawful place reach e =
        let full = no_room m.graph (cut_need w m.graph v (split_plan m.graph v place reach)) in
        let large = too_large ns reach place (take 1 (drop place ts)) in
        let one = or_none (bad_place place (length ts)) (or_else (bad_reach reach) (or_else large full)) (sym (split_causes place reach) ∙ e) in
        let two = or_none (bad_reach reach) (or_else large full) one.1 in
        let three = or_none large full two.1 in
        cut_so lawful (split_plan m.graph v place reach) (one_whole ns reach place ts) (one_cuts ns reach o.stands.sound place ts o.stands.formed) three.1

    split_all_so : Lawful w → (reach : ℕ) → split_all_refusal w m reach ≡ None → CutSo (split_all_plan m.graph v reach)
    split_all_so lawful reach e =
        let full = no_room m.graph (cut_need w m.graph v (split_all_plan m.graph v reach)) in
        let large = too_large ns reach 0 ts in
        let one = or_none (bad_reach reach) (or_else large full) (sym (ap (λ (x : Option ℕ). unless_open x (λ u. on.split_all_refusal w m.graph u reach)) o.is) ∙ e) in
        let two = or_none large full one.1 in
        cut_so lawful (split_all_plan m.graph v reach) (each_whole ns reach ts) (each_cuts ns reach o.stands.sound ts o.stands.formed) two.1

    splits_next : Lawful w → (place reach : ℕ) (r : Result ℕ Refusal) (m' : Model) → Splits w m place reach r m' → Next m v m'
    splits_next lawful place reach (Ok n) m' s = cut_next m' (λ u. split_plan m.graph u place reach) n s.1 (split_so lawful place reach s.0)
    splits_next lawful place reach (Err e) m' s = itself m m' v o s.1

    splits_all_next : Lawful w → (reach : ℕ) (r : Result ℕ Refusal) (m' : Model) → SplitsAll w m reach r m' → Next m v m'
    splits_all_next lawful reach (Ok n) m' s = cut_next m' (λ u. split_all_plan m.graph u reach) n s.1 (split_all_so lawful reach s.0)
    splits_all_next lawful reach (Err e) m' s = itself m m' v o s.1

  extends_next : (r : Result ℕ Refusal) (m' : Model) → Extends m r m' → Next m v m'
  extends_next (Err e) m' s = itself m m' v o s.1
  extends_next (Ok n) m' s =
      let e = some_same s.1.0 v (sym s.1.1 ∙ o.is) in
      let one = or_none (has_extensions fs.kind) (no_room m.graph (extend_need ts)) (sym (ap (λ (x : Option ℕ). unless_open x (λ u. on.extend_refusal m.graph u)) o.is) ∙ s.0) in
      let there = room m.graph (extend_need ts) one.1 in
      subst (Next m v) (sym (s.1.3 ∙ ap (λ (u : ℕ). with_objects m (on.extended m.graph u)) e))
      (becomes_next (extended_by ns v fs ts) (with_subtables fs Extension (behind (length ns) ts)) (behind (length ns) ts) (extend_need ts)
      (extending_stands_lem ns v fs ts o.stands (four fs.kind one.0) (omega (arith, there, o.few))))

  -- no other lookup is opened
  opens_next : (u : ℕ) (r : Result ℕ Refusal) (m' : Model) → Opens m u r m' → Next m v m'
  opens_next u (Err e) m' s = itself m m' v o s.1
  opens_next u (Ok n) m' s =
      let is : open_refusal m u ≡ Some (LookupOpen v) = ap (λ (x : Option ℕ). elim x [ Some y ↦ Some (LookupOpen y) | None ↦ wrong_at m.graph.nodes u ]) o.is in
      let none = s.0 in
      absurd (cc)

  stepped : (l : Line) (m' : Model) → ends l ≡ false → Step m l m' → Next m v m'
  stepped (loading file (Ok n)) m' e s = absurd (cc)
  stepped (loading file (Err r)) m' e s = itself m m' v o s.1
  stepped (opening u r) m' e s = opens_next u r m' s
  stepped (closing (Ok n)) m' e s = absurd (cc)
  stepped (closing (Err r)) m' e s = itself m m' v o s.1
  stepped (attaching mark base r) m' e s = itself m m' v o s.1
  stepped (asking n) m' e s = itself m m' v o s.1
  stepped (splitting w lawful place reach r) m' e s = splits_next w lawful place reach r m' s
  stepped (splitting_all w lawful reach r) m' e s = splits_all_next w lawful reach r m' s
  stepped (extending r) m' e s = extends_next r m' s

-- so does every history
pub came : (m : Model) (v : ℕ) → Open m v → {ls : List Line} {m' : Model} → History m ls m' → Next m v m'
came m v o start = record { still = o; pairs = same_pair m }
came m v o (next h l e s) = let n = came m v o h in onward m _ _ v n (stepped _ v n.still l _ e s)
