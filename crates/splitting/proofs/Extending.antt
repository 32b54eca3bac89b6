-- A lookup that was extended stands.
use Rattle.std.proofs.Common.{◌≡◌, ℕ, suc, ◌+◌, ◌-◌, ◌<◌, ◌≤◌, Bool, true, cond, eqb, List, [], ◌∷◌, map, length, set, Some, None, Ok, count_by, sym, refl, ap, ◌∙◌, subst, inl, inr, ⊎_elim, arith}
use Rattle.std.specs.List.{flat_map, AllByRecursion}
use Rattle.std.proofs.lemmas.List.{length-set, length-append, get_or_append_left, get_or-append_right, get_or-set_same, get_or-set_other}
use Rattle.std.proofs.ByRecursion.{All-get_or, All-from_get_or, All-append, All-set, All-weaker}
use Rattle.std.proofs.lemmas.List.Sums.{sum_by-cons}
use Rattle.std.proofs.lemmas.Bool.{cases_eq, eq-eqb, ne_eqb}
use Rattle.serialize.specs.Objects.{Node, no_node, node_at, incoming, SoundObjects}
use Rattle.walk.specs.Computed.{children}
use Rattle.fields.specs.Arrays.{mark_array_reader, base_array_reader}
use Rattle.markbase.specs.declared.lookup_type.LookupType.{LookupType}
use Rattle.markbase.specs.declared.lookup_type.LookupType.TheVariants.{MarkToBase, Extension}
use Rattle.markbase.specs.Nodes.{read}
use Rattle.markbase.specs.Tables.{subtable, extension, coverage}
use Rattle.markbase.specs.Values.{Subtable}
use Rattle.lookups.specs.Tables.{Fields, lookup}
use Rattle.lookups.specs.Hits.{hits_in}
use Rattle.written.specs.Writing.{as_extension, as_lookup, vertex_of}
use Rattle.written.specs.Laws.{SoundVertex, ReadsAs}
use Rattle.written.proofs.Leads.{links_lead}
use Rattle.written.proofs.Comes.{extensions_come_back, lookups_come_back, written_leads, written_sound}
use Rattle.pieces.specs.Pieces.{Formed}
use Rattle.splitting.specs.Vertices.{extension_vertex, top_of, own_vertices}
use Rattle.splitting.specs.Leaving.{with_subtables, behind, extended_by}
use Rattle.splitting.specs.Needs.{extend_need}
use Rattle.splitting.specs.Standing.{Stands}
use Rattle.splitting.specs.Laws.{ExtendingStands}
use Rattle.splitting.proofs.Members.{In, often, all_in, all_from_in, in_joined, joined_in}
use Rattle.splitting.proofs.Tally.{tally, incoming_tally, links_tally, tally_set, tally_append, incoming_past}
use Rattle.splitting.proofs.Parts.{Parts, parts_of, parts_read, top_none, lookup_leads}
use Rattle.splitting.proofs.Owned.{own, Owned, owned}
use Rattle.splitting.proofs.Journey.{From, Journey}
use Rattle.splitting.proofs.Arriving.{arrives}

-- a subtable behind the extension e
abbrev put : ℕ → Subtable → Subtable
put e t = record { extension = Some e; vertex = t.vertex; table = t.table; contents = t.contents }

-- the vertices of the extensions from e on
abbrev fronts : ℕ → List Subtable → List Node
fronts e ts = flat_map extension_vertex (behind e ts)

-- their numbers
abbrev numbers : ℕ → List Subtable → List ℕ
numbers e ts = map top_of (behind e ts)

fronts_long : (e : ℕ) (ts : List Subtable) → length (fronts e ts) ≡ length ts
fronts_long e [] = refl
fronts_long e (t ∷ ts) = ap suc (fronts_long (e + 1) ts)

numbers_long : (e : ℕ) (ts : List Subtable) → length (numbers e ts) ≡ length ts
numbers_long e [] = refl
numbers_long e (t ∷ ts) = ap suc (numbers_long (e + 1) ts)

-- what lies behind an extension was there before, and its extension stands at its place
record Put (e : ℕ) (ts : List Subtable) (u : Subtable) : Type 0 where
  origin : Subtable
  among : In origin ts
  place : ℕ
  inside : place < length ts
  is : u ≡ put (e + place) origin
  front : node_at (fronts e ts) place ≡ vertex_of (as_extension origin.vertex)

each_put : (e : ℕ) (ts : List Subtable) (u : Subtable) → In u (behind e ts) → Put e ts u
each_put e [] u i = absurd i
each_put e (t ∷ ts) u (inl q) =
    let at : e ≡ e + 0 = omega arith in
    record { origin = t; among = inl refl; place = 0; inside = omega arith; is = sym q ∙ ap (λ (m : ℕ). put m t) at; front = refl }
each_put e (t ∷ ts) u (inr i) =
    let p = each_put (e + 1) ts u i in
    let at : e + 1 + p.place ≡ e + suc p.place = omega arith in
    record { origin = p.origin; among = inr p.among; place = suc p.place; inside = omega (arith, p.inside); is = p.is ∙ ap (λ (m : ℕ). put m p.origin) at; front = p.front }

all_put : (P : Subtable → Type 0) (e : ℕ) (ts : List Subtable)
    → ((t : Subtable) → In t ts → (k : ℕ) → k < length ts → node_at (fronts e ts) k ≡ vertex_of (as_extension t.vertex) → P (put (e + k) t)) → AllByRecursion P (behind e ts)
all_put P e ts h = all_from_in P (behind e ts) (λ u i. let p = each_put e ts u i in subst P (sym p.is) (h p.origin p.among p.place p.inside p.front))

-- extensions change no hit
hits_behind : (e : ℕ) (ts : List Subtable) (m b : ℕ) → hits_in (behind e ts) m b ≡ hits_in ts m b
hits_behind e [] m b = refl
hits_behind e (t ∷ ts) m b = let more = hits_behind (e + 1) ts m b in rw more

-- the numbers of extensions: e at least, and none twice
none_before : (w e : ℕ) (ts : List Subtable) → w < e → often w (numbers e ts) ≡ 0
none_before w e [] h = refl
none_before w e (t ∷ ts) h =
    omega (arith, sum_by-cons (λ c. cond (eqb c w) 1 0) e (numbers (e + 1) ts), ap (λ (b : Bool). cond {A = ℕ} b 1 0) (ne_eqb e w (λ q. omega arith)), none_before w (e + 1) ts (omega arith))

once_among : (w e : ℕ) (ts : List Subtable) → often w (numbers e ts) ≤ 1
once_among w e [] = omega arith
once_among w e (t ∷ ts) =
    let whole = sum_by-cons (λ c. cond (eqb c w) 1 0) e (numbers (e + 1) ts) in
    ⊎_elim (λ q. omega (arith, whole, ap (λ (b : Bool). cond {A = ℕ} b 1 0) (eq-eqb e w q), none_before w (e + 1) ts (omega arith)))
    (λ ne. omega (arith, whole, ap (λ (b : Bool). cond {A = ℕ} b 1 0) (ne_eqb e w ne), once_among w (e + 1) ts)) (cases_eq e w)

count_numbers : (e : ℕ) (ts : List Subtable) → count_by (λ c. true) (numbers e ts) ≡ length ts
count_numbers e [] = refl
count_numbers e (t ∷ ts) = omega (arith, sum_by-cons (λ (c : ℕ). 1) e (numbers (e + 1) ts), count_numbers (e + 1) ts)

-- all numbers are below the end
numbers_below : (e : ℕ) (ts : List Subtable) → AllByRecursion (λ c. c < e + length ts) (numbers e ts)
numbers_below e [] = tt
numbers_below e (t ∷ ts) = (omega arith, All-weaker (λ c. c < e + 1 + length ts) (λ c. c < e + suc (length ts)) (λ c h. omega arith) (numbers (e + 1) ts) (numbers_below (e + 1) ts))

-- each extension leads to its subtable
tally_fronts : (test : ℕ → Bool) (e : ℕ) (ts : List Subtable) → tally test (fronts e ts) ≡ count_by test (map (λ (t : Subtable). t.vertex) ts)
tally_fronts test e [] = refl
tally_fronts test e (t ∷ ts) =
    omega (
      arith,
      sum_by-cons (λ (x : Node). count_by test (children x)) (vertex_of (as_extension t.vertex)) (fronts (e + 1) ts),
      sum_by-cons (λ c. cond (test c) 1 0) t.vertex (map (λ (u : Subtable). u.vertex) ts),
      tally_fronts test (e + 1) ts,
    )

-- without extensions the tops are the subtables
tops_none : (ts : List Subtable) → AllByRecursion (λ (t : Subtable). t.extension ≡ None) ts → map top_of ts ≡ map (λ (t : Subtable). t.vertex) ts
tops_none [] h = refl
tops_none (t ∷ ts) h = let one = top_none t h.0 in let more = tops_none ts h.1 in rw (one, more)

-- the own vertices of a subtable without an extension
abbrev bare : Subtable → List ℕ
bare t = t.vertex ∷ t.table.mark_coverage ∷ t.table.mark_array ∷ t.table.base_array ∷ []

own_none : (t : Subtable) → t.extension ≡ None → own_vertices t ≡ bare t
own_none t e = rw e

-- a vertex is sound among more vertices too
sound_more : (n m : ℕ) → n ≤ m → (x : Node) → SoundVertex n x → SoundVertex m x
sound_more n m h x s = (s.0, λ i l. let q = s.1 i l in (omega (arith, q.0), q.1, q.2))

module _ (nodes : List Node) (v : ℕ) (f : Fields) (ts : List Subtable) (s : Stands nodes v f ts) (four : f.kind ≡ MarkToBase) (room : length nodes + length ts < 65536) where
  -- the subtables behind their extensions, the fields and the vertices then
  abbrev after : List Subtable
  after = behind (length nodes) ts

  abbrev fields' : Fields
  fields' = with_subtables f Extension after

  abbrev head : Node
  head = vertex_of (as_lookup fields')

  abbrev nodes' : List Node
  nodes' = extended_by nodes v f ts

  whose : Owned nodes v ts
  whose = owned links_lead s

  parts_before : AllByRecursion (Parts nodes MarkToBase) ts
  parts_before = subst (λ (k : LookupType). AllByRecursion (Parts nodes k) ts) four (parts_of s)

  parts_at : (t : Subtable) → In t ts → Parts nodes MarkToBase t
  parts_at t i = all_in t (Parts nodes MarkToBase) ts parts_before i

  -- a part of a subtable is an own vertex
  part_own : (t : Subtable) → In t ts → (u : ℕ) → In u (bare t) → In u (flat_map own_vertices ts)
  part_own t i u k = joined_in own_vertices u t ts i (subst (In u) (sym (own_none t (parts_at t i).behind)) k)

  part_below : (t : Subtable) → In t ts → (u : ℕ) → In u (bare t) → u < length nodes
  part_below t i u k = all_in u (λ w. w < length nodes) (own v ts) whose.inside (inr (part_own t i u k))

  -- the old vertices but for the lookup, the lookup, and the extensions
  long : length nodes' ≡ length nodes + length ts
  long = omega (arith, length-append (set nodes v head) (fronts (length nodes) ts), length-set nodes v head, fronts_long (length nodes) ts)

  old : (u : ℕ) → u < length nodes → (u ≡ v → ⊥) → node_at nodes' u ≡ node_at nodes u
  old u h ne = get_or_append_left (set nodes v head) (fronts (length nodes) ts) no_node u (omega (arith, length-set nodes v head)) ∙ get_or-set_other nodes v u head no_node ne

  at_head : node_at nodes' v ≡ head
  at_head = get_or_append_left (set nodes v head) (fronts (length nodes) ts) no_node v (omega (arith, length-set nodes v head, s.here)) ∙ get_or-set_same nodes v head no_node s.here

  at_front : (k : ℕ) → node_at nodes' (length nodes + k) ≡ node_at (fronts (length nodes) ts) k
  at_front k =
      let e : length nodes + k - length nodes ≡ k = omega arith in
      get_or-append_right (set nodes v head) (fronts (length nodes) ts) (length nodes) (length nodes + k) no_node (length-set nodes v head) (omega arith) ∙ ap (node_at (fronts (length nodes) ts)) e

  part_stays : (t : Subtable) → In t ts → (u : ℕ) → In u (bare t) → node_at nodes' u ≡ node_at nodes u
  part_stays t i u k = old u (part_below t i u k) (λ e. whose.distinct.0 (subst (λ (w : ℕ). In w (flat_map own_vertices ts)) e (part_own t i u k)))

  cover_stays : (t : Subtable) → In t ts → node_at nodes' t.table.base_coverage ≡ node_at nodes t.table.base_coverage
  cover_stays t i = old t.table.base_coverage (all_in t _ ts whose.below i) (λ e. all_in t _ ts whose.covers i (inl (sym e)))

  -- the new lookup reads back
  head_reads : ReadsAs lookup fields' (as_lookup fields')
  head_reads = lookups_come_back fields' s.words.flag (omega (arith, numbers_long (length nodes) ts)) s.words.filter s.words.filters

  -- all vertices are sound
  sound_fronts : AllByRecursion (SoundVertex (length nodes + length ts)) (fronts (length nodes) ts)
  sound_fronts = go (length nodes) ts (λ t i. part_below t i t.vertex (inl refl))
    where
      go : (e : ℕ) (xs : List Subtable) → ((t : Subtable) → In t xs → t.vertex < length nodes) → AllByRecursion (SoundVertex (length nodes + length ts)) (fronts e xs)
      go e [] h = tt
      go e (t ∷ xs) h = (written_sound (extensions_come_back t.vertex) links_lead.behind (length nodes + length ts) (omega (arith, h t (inl refl)), tt), go (e + 1) xs (λ u i. h u (inr i)))

  sound_all : AllByRecursion (SoundVertex (length nodes + length ts)) nodes'
  sound_all =
      let count = length nodes + length ts in
      let before = All-from_get_or (SoundVertex count) nodes no_node (λ u h. sound_more (length nodes) count (omega arith) (node_at nodes u) (s.sound u h)) in
      let new : SoundVertex count head = written_sound head_reads links_lead.lookups count (numbers_below (length nodes) ts) in
      All-append (SoundVertex count) (set nodes v head) (fronts (length nodes) ts) (All-set (SoundVertex count) nodes v head new before) sound_fronts

  sound_then : SoundObjects nodes'
  sound_then u h = subst (λ (n : ℕ). SoundVertex n (node_at nodes' u)) (sym long) (All-get_or (SoundVertex (length nodes + length ts)) nodes' u no_node h sound_all)

  -- each subtable reads behind its extension
  reads_put : (t : Subtable) → In t ts → (k : ℕ) → node_at (fronts (length nodes) ts) k ≡ vertex_of (as_extension t.vertex) → Parts nodes' Extension (put (length nodes + k) t)
  reads_put t i k e =
      let p = parts_at t i in
      let front : read extension (node_at nodes' (length nodes + k)) ≡ Ok record { subtable = t.vertex } = ap (read extension) (at_front k ∙ e) ∙ (extensions_come_back t.vertex).reads in
      record {
        behind = (length nodes + k, refl, front);
        fields = ap (read subtable) (part_stays t i t.vertex (inl refl)) ∙ p.fields;
        marks = ap coverage (part_stays t i t.table.mark_coverage (inr (inl refl))) ∙ p.marks;
        bases = ap coverage (cover_stays t i) ∙ p.bases;
        mark_records = ap (read (mark_array_reader (length t.contents.marks) t.table.class_count)) (part_stays t i t.table.mark_array (inr (inr (inl refl)))) ∙ p.mark_records;
        base_rows = ap (read (base_array_reader (length t.contents.bases) t.table.class_count)) (part_stays t i t.table.base_array (inr (inr (inr (inl refl))))) ∙ p.base_rows;
      }

  -- the links are those from before, and one to each extension
  tally_then : (test : ℕ → Bool) → tally test nodes' ≡ tally test nodes + count_by test (numbers (length nodes) ts)
  tally_then test =
      let none : AllByRecursion (λ (t : Subtable). t.extension ≡ None) ts = All-weaker (Parts nodes MarkToBase) (λ (t : Subtable). t.extension ≡ None) (λ t p. p.behind) ts parts_before in
      let here : count_by test (children (node_at nodes v)) ≡ count_by test (map (λ (t : Subtable). t.vertex) ts) = ap (count_by test) (lookup_leads links_lead s ∙ tops_none ts none) in
      let new : count_by test (children head) ≡ count_by test (numbers (length nodes) ts) = ap (count_by test) (written_leads head_reads links_lead.lookups) in
      omega (arith, tally_append test (set nodes v head) (fronts (length nodes) ts), tally_set test nodes v head s.here, tally_fronts test (length nodes) ts)

  incoming_then : (w : ℕ) → incoming nodes' w ≡ incoming nodes w + often w (numbers (length nodes) ts)
  incoming_then w = omega (arith, incoming_tally nodes' w, incoming_tally nodes w, tally_then (λ c. eqb c w))

  incoming_old : (w : ℕ) → w < length nodes → incoming nodes' w ≡ incoming nodes w
  incoming_old w h = omega (arith, incoming_then w, none_before w (length nodes) ts h)

  once_put : (t : Subtable) → In t ts → (k : ℕ) → AllByRecursion (λ u. incoming nodes' u ≤ 1) (own_vertices (put (length nodes + k) t))
  once_put t i k =
      let front : incoming nodes' (length nodes + k) ≤ 1 =
      omega (arith, incoming_then (length nodes + k), incoming_past nodes s.sound (length nodes + k) (omega arith), once_among (length nodes + k) (length nodes) ts) in
      let once = subst (AllByRecursion (λ u. incoming nodes u ≤ 1)) (own_none t (parts_at t i).behind) (all_in t _ ts s.once i) in
      (front, all_from_in (λ u. incoming nodes' u ≤ 1) (bare t) (λ u j. omega (arith, incoming_old u (part_below t i u j), all_in u (λ w. incoming nodes w ≤ 1) (bare t) once j)))

  stands_then : Stands nodes' v fields' after
  stands_then = record {
    sound = sound_then;
    here = omega (arith, long, s.here);
    fields = ap (read lookup) at_head ∙ head_reads.reads;
    offsets = refl;
    reads = all_put _ (length nodes) ts (λ t i k h e. parts_read nodes' Extension (put (length nodes + k) t) (reads_put t i k e));
    root = incoming_old v s.here ∙ s.root;
    once = all_put _ (length nodes) ts (λ t i k h e. once_put t i k);
    formed = all_put _ (length nodes) ts (λ t i k h e. all_in t (λ (x : Subtable). Formed x.table.class_count x.contents) ts s.formed i);
    words = record { flag = s.words.flag; filter = s.words.filter; filters = s.words.filters };
  }

  -- of the own vertices only the extensions are new
  own_grows : (u : ℕ) → u < length nodes → In u (own v after) → In u (own v ts)
  own_grows u l (inl e) = inl e
  own_grows u l (inr i) =
      let r = in_joined own_vertices u after i in
      let p = each_put (length nodes) ts r.0 r.1 in
      let j = subst (λ (x : Subtable). In u (own_vertices x)) p.is r.2 in
      inr (⊎_elim (λ e. absurd (omega arith)) (λ k. part_own p.origin p.among u k) j)

  way : Journey nodes nodes' v ts after (length ts) (length ts)
  way = record {
    hits = hits_behind (length nodes) ts;
    kept = λ u l h. old u l (λ e. h (inl (sym e)));
    grows = own_grows;
    from = all_put (From ts) (length nodes) ts (λ t i k h e. record { origin = t; among = i; cover = refl; inside = λ o a. a });
    vertices = long;
    linked = omega (arith, links_tally nodes', links_tally nodes, tally_then (λ c. true), count_numbers (length nodes) ts);
  }

-- any lookup of type 4 stands after it was extended, with the hits and the sizes that it had
pub extending_stands_lem : ExtendingStands
extending_stands_lem nodes v f ts s four room =
    arrives nodes (extended_by nodes v f ts) v f (with_subtables f Extension (behind (length nodes) ts)) ts (behind (length nodes) ts) (extend_need ts) s (stands_then nodes v f ts s four room) (way nodes v f ts s four room)
