-- One subtable of a lookup that stands is cut.
use Rattle.std.proofs.Common.{◌≡◌, ℕ, suc, ◌+◌, ◌*◌, ◌<◌, ◌≤◌, Bool, true, eqb, ◌⊎◌, List, [], ◌∷◌, ◌++◌, map, length, set, Some, None, Ok, Option, sym, refl, ap, ◌∙◌, subst, inl, inr, arith}
use Rattle.std.specs.List.{ContainsAt as Has, AllByRecursion}
use Rattle.std.proofs.lemmas.List.{length-append, length-map}
use Rattle.std.proofs.ByRecursion.{All-append, All-weaker, All-map, All-get_or, All-from_get_or}
use Rattle.serialize.specs.Objects.{Node, no_node, node_at, incoming}
use Rattle.cutting.specs.Cutting.{Cutting}
use Rattle.coverage_writers.specs.Writing.{Lawful}
use Rattle.markbase.specs.declared.lookup_type.LookupType.{LookupType}
use Rattle.markbase.specs.declared.lookup_type.LookupType.TheVariants.{MarkToBase, Extension}
use Rattle.markbase.specs.Nodes.{read}
use Rattle.markbase.specs.Tables.{extension, coverage}
use Rattle.markbase.specs.Values.{Contents, Subtable}
use Rattle.lookups.specs.Tables.{Fields, lookup}
use Rattle.fields.specs.Arrays.{present}
use Rattle.written.specs.Writing.{as_lookup, vertex_of}
use Rattle.written.specs.Laws.{SoundVertex}
use Rattle.written.proofs.Leads.{links_lead}
use Rattle.pieces.specs.Pieces.{piece, pieces, base_glyphs, Formed}
use Rattle.pieces.specs.Keeping.{anchors, contents_of, mark_anchors, base_anchors, links, Kept}
use Rattle.pieces.proofs.Keeping.{pieces_keep}
use Rattle.pieces.proofs.Together.{runs_all}
use Rattle.splitting.specs.Vertices.{Meaning, vertices, extension_vertex, top_of, own_vertices}
use Rattle.splitting.specs.Leaving.{kept_piece, later_pieces, cut, piece_vertices, with_subtables}
use Rattle.splitting.specs.Needs.{piece_links}
use Rattle.splitting.specs.Standing.{Stands}
use Rattle.splitting.proofs.Members.{In, Distinct, in_joined, in_has, has_in, all_in, all_from_in}
use Rattle.splitting.proofs.Tally.{tally, incoming_tally, links_tally, incoming_past}
use Rattle.splitting.proofs.Parts.{Behind, Parts, Links, lookup_leads, parts_of, links_of_lem, parts_read}
use Rattle.splitting.proofs.Owned.{own, Owned, owned}
use Rattle.splitting.proofs.Holding.{four_of, four_own, extension_own, Holds, Extended}
use Rattle.splitting.proofs.Journey.{From, Journey}
use Rattle.splitting.proofs.Placing as placing
use Rattle.splitting.proofs.Counting.{Kids, cut_count}
use Rattle.splitting.proofs.Adding.{added, none_added, once_added, all_added, more_tops, sum_contents}
use Rattle.splitting.proofs.Reading.{holds_parts, behind_shaped, base_glyphs_lem, parts_kept, fields_children, coverage_children, marks_children, bases_children, lookup_children, lookup_read, all_joined, vertices_sound, extensions_sound, lookup_sound}
use Rattle.splitting.proofs.Apart.{own_here, t_here, there, others_apart, not_lookup, distinct_four, inside_own, inside_four, extension_not_four, cover_not_own, cover_inside}

-- what is written of any subtable leads where it says
pub kids : (w : Meaning) (q : Subtable) → Kids w q
kids w q = record { fields = fields_children q; marks = coverage_children q w; mark_records = marks_children q; base_rows = bases_children q }

all_kids : (w : Meaning) (qs : List Subtable) → AllByRecursion (Kids w) qs
all_kids w [] = tt
all_kids w (q ∷ qs) = (kids w q, all_kids w qs)

-- what holds of what subtables hold
all_contents : (P : Contents → Type 0) (qs : List Subtable) → AllByRecursion P (contents_of qs) → AllByRecursion (λ (q : Subtable). P q.contents) qs
all_contents P [] h = tt
all_contents P (q ∷ qs) h = (h.0, all_contents P qs h.1)

all_here : {X : Type 0} (P : X → Type 0) (xs : List X) (y : X) (ys : List X) → AllByRecursion P (xs ++ y ∷ ys) → P y
all_here P [] y ys h = h.0
all_here P (x ∷ xs) y ys h = all_here P xs y ys h.1

-- two facts of each
both : {X : Type 0} (P Q : X → Type 0) (xs : List X) → AllByRecursion P xs → AllByRecursion Q xs → AllByRecursion (λ y. P y × Q y) xs
both P Q [] a b = tt
both P Q (y ∷ ys) a b = ((a.0, b.0), both P Q ys a.1 b.1)

-- an anchor that is no null
in_present : (y : ℕ) (os : List (Option ℕ)) → In y (present os) → In (Some y) os
in_present y [] i = i
in_present y (Some z ∷ os) (inl e) = inl (ap Some e)
in_present y (Some z ∷ os) (inr i) = inr (in_present y os i)
in_present y (None ∷ os) i = inr (in_present y os i)

present_in : (y : ℕ) (os : List (Option ℕ)) → In (Some y) os → In y (present os)
present_in y [] i = i
present_in y (Some z ∷ os) (inl e) = let same : z ≡ y = cc in inl same
present_in y (Some z ∷ os) (inr i) = inr (present_in y os i)
present_in y (None ∷ os) (inl e) = let z : ◌≡◌ {A = ℕ} 0 1 = cc in absurd (omega arith)
present_in y (None ∷ os) (inr i) = present_in y os i

-- anchors among others lead to no other vertices
fewer_below : (n : ℕ) (os us : List (Option ℕ)) → ((o : Option ℕ) → Has os o → Has us o) → AllByRecursion (λ y. y < n) (present us) → AllByRecursion (λ y. y < n) (present os)
fewer_below n os us sub h =
    all_from_in (λ y. y < n) (present os) (λ y i. all_in y (λ z. z < n) (present us) h (present_in y us (has_in (Some y) us (sub (Some y) (in_has (Some y) os (in_present y os i))))))

-- an offset of the lookup leads to an own vertex
top_own : (u : Subtable) → In (top_of u) (own_vertices u)
top_own u = by u.extension
  where
    by : (e : Option ℕ) → In (elim e [ None ↦ u.vertex | Some y ↦ y ]) (elim e [ None ↦ four_of u | Some y ↦ y ∷ four_of u ])
    by None = inl refl
    by (Some y) = inl refl

-- a vertex stays sound where there are more
wider : (n m : ℕ) → n ≤ m → (y : Node) → SoundVertex n y → SoundVertex m y
wider n m le y h = (h.0, λ i l. let g = h.1 i l in (omega (arith, g.0), g.1, g.2))

at_least : (kind : LookupType) (n : ℕ) → n ≤ piece_vertices kind * n
at_least MarkToBase n = omega arith
at_least Extension n = omega arith

module _ (w : Meaning) (lawful : Lawful w) (nodes : List Node) (v : ℕ) (f : Fields) (before : List Subtable) (t : Subtable) (after : List Subtable) (s : Stands nodes v f (before ++ t ∷ after)) (p : ℕ) (qs : List ℕ) (cuts : Cutting 0 t.table.class_count (p ∷ qs)) where
  abbrev ts : List Subtable
  ts = before ++ t ∷ after

  abbrev kept : Subtable
  kept = kept_piece t p

  abbrev news : List Subtable
  news = later_pieces f.kind (length nodes) t p qs

  abbrev us : List Subtable
  us = before ++ (kept ∷ (news ++ after))

  abbrev f' : Fields
  f' = with_subtables f f.kind us

  abbrev x : Node
  x = vertex_of (as_lookup f')

  abbrev nodes' : List Node
  nodes' = set (cut w f.kind nodes t (p ∷ qs)) v x

  o : Owned nodes v ts
  o = owned links_lead s

  apart : Distinct (v ∷ four_of t)
  apart = distinct_four nodes v before t after o

  inside : AllByRecursion (λ y. y < length nodes) (v ∷ four_of t)
  inside = inside_four nodes v before t after o

  formed : Formed t.table.class_count t.contents
  formed = all_here (λ (u : Subtable). Formed u.table.class_count u.contents) before t after s.formed

  formed_parts : AllByRecursion (λ (q : Subtable). Formed q.table.class_count q.contents) (kept ∷ news)
  formed_parts = placing.new_formed f.kind (length nodes) t p qs formed cuts

  holds : Kept t.table.class_count t.contents (p ∷ qs)
  holds = pieces_keep t.table.class_count t.contents (p ∷ qs) formed cuts

  contents : contents_of (kept ∷ news) ≡ pieces t.table.class_count t.contents (p ∷ qs)
  contents = placing.new_contents f.kind (length nodes) t p qs

  long : length nodes' ≡ length nodes + piece_vertices f.kind * suc (length qs)
  long = placing.long w f.kind nodes v t p qs x

  elsewhere : (u : ℕ) → u < length nodes → (u ≡ v → ⊥) → (In u (four_of t) → ⊥) → node_at nodes' u ≡ node_at nodes u
  elsewhere = placing.elsewhere w f.kind nodes v t p qs x

  -- what is not own stays
  not_own : (u : ℕ) → u < length nodes → (In u (own v ts) → ⊥) → node_at nodes' u ≡ node_at nodes u
  not_own u l h = elsewhere u l (λ e. h (inl (sym e))) (λ i. h (own_here nodes v before t after o t u (t_here nodes v before t after o) (four_own t u i)))

  -- all links that pass a test
  counted : (test : ℕ → Bool) → tally test nodes' ≡ tally test nodes + added test news
  counted test =
      cut_count test w nodes v t p apart inside (all_here (Links nodes) before t after (links_of_lem links_lead s)) (kids w kept) news x (map top_of ts) (map top_of us) (all_kids w news)
      (lookup_leads links_lead s) (lookup_children f') (more_tops test before t kept news after refl)
      (sum_contents (λ (c : Contents). links test (mark_anchors c)) kept news _ _ contents (holds.marks test))
      (sum_contents (λ (c : Contents). links test (base_anchors c)) kept news _ _ contents (holds.bases test))

  numbers : AllByRecursion (λ (q : Subtable). AllByRecursion (λ u. (length nodes ≤ u) × (u < length nodes')) (own_vertices q)) news
  numbers = placing.new_numbers w f.kind nodes v t p qs x

  above : AllByRecursion (λ (q : Subtable). AllByRecursion (λ u. length nodes ≤ u) (own_vertices q)) news
  above = All-weaker _ (λ (q : Subtable). AllByRecursion (λ u. length nodes ≤ u) (own_vertices q)) (λ q h. All-weaker _ (λ u. length nodes ≤ u) (λ u k. k.0) (own_vertices q) h) news numbers

  covers : AllByRecursion (λ (q : Subtable). q.table.base_coverage ≡ t.table.base_coverage) news
  covers = placing.new_cover f.kind (length nodes) t p qs

  cover_here : In t.table.base_coverage (own v ts) → ⊥
  cover_here = cover_not_own nodes v before t after o t (t_here nodes v before t after o)

  -- an own vertex has the links that it had
  same_incoming : (u : ℕ) → In u (own v ts) → incoming nodes' u ≡ incoming nodes u
  same_incoming u i =
      let l = all_in u (λ y. y < length nodes) (own v ts) o.inside i in
      let none = none_added (length nodes) t.table.base_coverage news above covers u l (λ e. cover_here (subst (λ (y : ℕ). In y (own v ts)) (sym e) i)) in
      omega (arith, incoming_tally nodes' u, incoming_tally nodes u, counted (λ d. eqb d u), none)

  -- a new one has one at most
  new_incoming : (u : ℕ) → length nodes ≤ u → incoming nodes' u ≤ 1
  new_incoming u l =
      let once = once_added (length nodes) t.table.base_coverage news above covers u l (cover_inside nodes v before t after o t (t_here nodes v before t after o)) (placing.new_once f.kind (length nodes) t p qs u) in
      omega (arith, incoming_tally nodes' u, incoming_tally nodes u, counted (λ d. eqb d u), incoming_past nodes s.sound u l, once)

  abbrev Once : Subtable → Type 0
  Once u = AllByRecursion (λ y. incoming nodes' y ≤ 1) (own_vertices u)

  old_once : (u : Subtable) → In u ts → Once u
  old_once u i =
      all_from_in (λ y. incoming nodes' y ≤ 1) (own_vertices u) (λ y j.
      omega (arith, same_incoming y (own_here nodes v before t after o u y i j), all_in y (λ z. incoming nodes z ≤ 1) (own_vertices u) (all_in u (λ (z : Subtable). AllByRecursion (λ y. incoming nodes y ≤ 1) (own_vertices z)) ts s.once i) j))

  -- the pieces in the place of t, and the others as they were
  replaced : (P : Subtable → Type 0) → ((u : Subtable) → In u before ⊎ In u after → P u) → P kept → AllByRecursion P news → AllByRecursion P us
  replaced P others first later =
      All-append P before (kept ∷ (news ++ after)) (all_from_in P before (λ u i. others u (inl i))) (first, All-append P news after later (all_from_in P after (λ u i. others u (inr i))))

  once : AllByRecursion Once us
  once =
      replaced Once (λ u e. old_once u (there nodes v before t after o u e)) (old_once t (t_here nodes v before t after o))
      (All-weaker (λ (q : Subtable). AllByRecursion (λ u. length nodes ≤ u) (own_vertices q)) Once (λ q h. All-weaker (λ u. length nodes ≤ u) (λ y. incoming nodes' y ≤ 1) new_incoming (own_vertices q) h) news above)

  -- every part reads
  same_own : (u : Subtable) → In u before ⊎ In u after → (y : ℕ) → In y (own_vertices u) → node_at nodes' y ≡ node_at nodes y
  same_own u e y j =
      let i = there nodes v before t after o u e in
      elsewhere y (inside_own nodes v before t after o u i y j) (not_lookup nodes v before t after o u y i j) (λ k. others_apart nodes v before t after o u e y j (four_own t y k))

  same_cover : (u : Subtable) → In u ts → node_at nodes' u.table.base_coverage ≡ node_at nodes u.table.base_coverage
  same_cover u i = not_own u.table.base_coverage (cover_inside nodes v before t after o u i) (cover_not_own nodes v before t after o u i)

  old_parts : (u : Subtable) → In u ts → Parts nodes f.kind u
  old_parts u i = all_in u (Parts nodes f.kind) ts (parts_of s) i

  others_read : (u : Subtable) → In u before ⊎ In u after → Parts nodes' f.kind u
  others_read u e = let i = there nodes v before t after o u e in parts_kept nodes nodes' u (same_own u e) (same_cover u i) f.kind (old_parts u i)

  -- t keeps its extension
  still_behind : (kind : LookupType) → Behind nodes kind t → Behind nodes' kind kept
  still_behind MarkToBase b = b
  still_behind Extension b =
      let i = t_here nodes v before t after o in
      let j = extension_own t b.0 b.1 in
      (b.0, b.1, ap (read extension) (elsewhere b.0 (inside_own nodes v before t after o t i b.0 j) (not_lookup nodes v before t after o t b.0 i j) (extension_not_four nodes v before t after o b.0 b.1)) ∙ b.2)

  bases_read : (q : Subtable) → q.table.base_coverage ≡ t.table.base_coverage → base_glyphs q.contents ≡ base_glyphs t.contents → coverage (node_at nodes' q.table.base_coverage) ≡ Ok (base_glyphs q.contents)
  bases_read q same glyphs =
      ap (λ (b : ℕ). coverage (node_at nodes' b)) same
      ∙ (ap coverage (same_cover t (t_here nodes v before t after o)) ∙ ((old_parts t (t_here nodes v before t after o)).bases ∙ ap Ok (sym glyphs)))

  kept_reads : Parts nodes' f.kind kept
  kept_reads =
      holds_parts lawful nodes' f.kind kept formed_parts.0 (placing.at_kept w f.kind nodes v t p qs x apart inside) (still_behind f.kind (old_parts t (t_here nodes v before t after o)).behind)
      (bases_read kept refl (base_glyphs_lem t.contents 0 p))

  -- the bases of every piece are those of the whole
  same_bases : AllByRecursion (λ (q : Subtable). base_glyphs q.contents ≡ base_glyphs t.contents) (kept ∷ news)
  same_bases =
      all_contents (λ (c : Contents). base_glyphs c ≡ base_glyphs t.contents) (kept ∷ news)
      (subst (AllByRecursion (λ (c : Contents). base_glyphs c ≡ base_glyphs t.contents)) (sym contents) (runs_all (piece t.contents) (λ (c : Contents). base_glyphs c ≡ base_glyphs t.contents) (base_glyphs_lem t.contents) (p ∷ qs) 0 t.table.class_count))

  abbrev Sure : Subtable → Type 0
  Sure q = Formed q.table.class_count q.contents × (Holds w nodes' q × (Behind nodes' f.kind q × ((q.table.base_coverage ≡ t.table.base_coverage) × (base_glyphs q.contents ≡ base_glyphs t.contents))))

  news_read : AllByRecursion (Parts nodes' f.kind) news
  news_read =
      let behinds : AllByRecursion (Behind nodes' f.kind) news =
      All-weaker (λ (q : Subtable). placing.Shaped f.kind q × Extended nodes' q) (Behind nodes' f.kind) (λ q h. behind_shaped nodes' f.kind q h.0 h.1) news
      (both (placing.Shaped f.kind) (Extended nodes') news (placing.new_shape f.kind (length nodes) t p qs) (placing.at_extensions w f.kind nodes v t p qs x s.here)) in
      let sure : AllByRecursion Sure news =
      both _ _ news formed_parts.1 (both _ _ news (placing.at_news w f.kind nodes v t p qs x s.here) (both _ _ news behinds (both _ _ news covers same_bases.1))) in
      All-weaker Sure (Parts nodes' f.kind) (λ q h. holds_parts lawful nodes' f.kind q h.0 h.1.0 h.1.1.0 (bases_read q h.1.1.1.0 h.1.1.1.1)) news sure

  all_parts : AllByRecursion (Parts nodes' f.kind) us
  all_parts = replaced (Parts nodes' f.kind) others_read kept_reads news_read

  -- every vertex is sound
  abbrev Below : Subtable → Type 0
  Below u = AllByRecursion (λ y. y < length nodes') (own_vertices u)

  old_below : (u : Subtable) → In u ts → Below u
  old_below u i = all_from_in (λ y. y < length nodes') (own_vertices u) (λ y j. omega (arith, inside_own nodes v before t after o u i y j, long))

  all_below : AllByRecursion Below us
  all_below =
      replaced Below (λ u e. old_below u (there nodes v before t after o u e)) (old_below t (t_here nodes v before t after o))
      (All-weaker _ Below (λ q h. All-weaker _ (λ y. y < length nodes') (λ y k. k.1) (own_vertices q) h) news numbers)

  tops_below : AllByRecursion (λ y. y < length nodes') (map top_of us)
  tops_below = All-map (λ y. y < length nodes') top_of us (All-weaker Below (λ (u : Subtable). top_of u < length nodes') (λ u h. all_in (top_of u) (λ y. y < length nodes') (own_vertices u) h (top_own u)) us all_below)

  cover_below : t.table.base_coverage < length nodes'
  cover_below = omega (arith, cover_inside nodes v before t after o t (t_here nodes v before t after o), long)

  anchors_inside : AllByRecursion (λ (q : Subtable). (a : Option ℕ) → Has (anchors q.contents) a → Has (anchors t.contents) a) (kept ∷ news)
  anchors_inside =
      all_contents (λ (c : Contents). (a : Option ℕ) → Has (anchors c) a → Has (anchors t.contents) a) (kept ∷ news)
      (subst (AllByRecursion (λ (c : Contents). (a : Option ℕ) → Has (anchors c) a → Has (anchors t.contents) a)) (sym contents) holds.inside)

  anchors_below : AllByRecursion (λ y. y < length nodes') (present (anchors t.contents))
  anchors_below =
      All-weaker (λ y. y < length nodes) (λ y. y < length nodes') (λ y l. omega (arith, long)) (present (anchors t.contents))
      (all_here (λ (u : Subtable). AllByRecursion (λ y. y < length nodes) (present (anchors u.contents))) before t after o.anchored)

  piece_sound : (q : Subtable) → Below q → q.table.base_coverage ≡ t.table.base_coverage → ((a : Option ℕ) → Has (anchors q.contents) a → Has (anchors t.contents) a) → AllByRecursion (SoundVertex (length nodes')) (vertices w q)
  piece_sound q h cover sub =
      let at : (y : ℕ) → In y (four_of q) → y < length nodes' = λ y i. all_in y (λ z. z < length nodes') (own_vertices q) h (four_own q y i) in
      vertices_sound (length nodes') w q
      (at q.table.mark_coverage (inr (inl refl)), (subst (λ (b : ℕ). b < length nodes') (sym cover) cover_below, (at q.table.mark_array (inr (inr (inl refl))), (at q.table.base_array (inr (inr (inr (inl refl)))), tt))))
      (fewer_below (length nodes') (anchors q.contents) (anchors t.contents) sub anchors_below)

  news_below : AllByRecursion Below news
  news_below = All-weaker _ Below (λ q h. All-weaker _ (λ y. y < length nodes') (λ y k. k.1) (own_vertices q) h) news numbers

  all_sound : AllByRecursion (SoundVertex (length nodes')) nodes'
  all_sound =
      placing.all_after w f.kind nodes v t p qs x (SoundVertex (length nodes'))
      (All-from_get_or (SoundVertex (length nodes')) nodes no_node (λ i l. wider (length nodes) (length nodes') (omega (arith, long)) (node_at nodes i) (s.sound i l)))
      (lookup_sound (length nodes') f' tops_below)
      (piece_sound kept (old_below t (t_here nodes v before t after o)) refl anchors_inside.0)
      (all_joined (SoundVertex (length nodes')) (vertices w) news
      (All-weaker _ (λ (q : Subtable). AllByRecursion (SoundVertex (length nodes')) (vertices w q)) (λ q h. piece_sound q h.0 h.1.0 h.1.1) news (both Below _ news news_below (both _ _ news covers anchors_inside.1))))
      (all_joined (SoundVertex (length nodes')) extension_vertex news
      (All-weaker Below (λ (q : Subtable). AllByRecursion (SoundVertex (length nodes')) (extension_vertex q)) (λ q h. extensions_sound (length nodes') q (all_in q.vertex (λ y. y < length nodes') (own_vertices q) h (four_own q q.vertex (inl refl)))) news news_below))

  -- the lookup reads with all of them
  many : length us ≡ length ts + suc (length qs)
  many =
      omega (
        arith,
        length-append before (kept ∷ (news ++ after)),
        length-append news after,
        length-append before (t ∷ after),
        placing.count_news f.kind (length nodes) t p qs,
      )

  module _ (room : length nodes + piece_vertices f.kind * suc (length qs) < 65536) where
    pub stands : Stands nodes' v f' us
    stands =
        record {
          sound = λ u l. All-get_or (SoundVertex (length nodes')) nodes' u no_node l all_sound;
          here = omega (arith, s.here, long);
          fields = ap (read lookup) (placing.at_lookup w f.kind nodes v t p qs x s.here)
              ∙ lookup_read f' (record { flag = s.words.flag; filter = s.words.filter; filters = s.words.filters }) (omega (arith, length-map us top_of, many, o.few, at_least f.kind (suc (length qs))));
          offsets = refl;
          reads = All-weaker (Parts nodes' f.kind) _ (parts_read nodes' f.kind) us all_parts;
          root = same_incoming v (inl refl) ∙ s.root;
          once = once;
          formed = replaced (λ (u : Subtable). Formed u.table.class_count u.contents)
              (λ u e. all_in u (λ (z : Subtable). Formed z.table.class_count z.contents) ts s.formed (there nodes v before t after o u e)) formed_parts.0 formed_parts.1;
          words = record { flag = s.words.flag; filter = s.words.filter; filters = s.words.filters };
        }

  -- an own vertex that is not new was own before
  grows : (u : ℕ) → u < length nodes → In u (own v us) → In u (own v ts)
  grows u l (inl e) = inl e
  grows u l (inr i) =
      let q = in_joined own_vertices u us i in
      all_in q.0 (λ (z : Subtable). In u (own_vertices z) → In u (own v ts)) us
      (replaced (λ (z : Subtable). In u (own_vertices z) → In u (own v ts))
      (λ z e j. own_here nodes v before t after o z u (there nodes v before t after o z e) j)
      (λ j. own_here nodes v before t after o t u (t_here nodes v before t after o) j)
      (All-weaker (λ (z : Subtable). AllByRecursion (λ y. length nodes ≤ y) (own_vertices z)) _ (λ z h j. let m = all_in u (λ y. length nodes ≤ y) (own_vertices z) h j in absurd (omega arith)) news above))
      q.1 q.2

  from_t : (q : Subtable) → q.table.base_coverage ≡ t.table.base_coverage → ((a : Option ℕ) → Has (anchors q.contents) a → Has (anchors t.contents) a) → From ts q
  from_t q cover sub = record { origin = t; among = t_here nodes v before t after o; cover = cover; inside = sub }

  pub journey : Journey nodes nodes' v ts us (piece_vertices f.kind * suc (length qs)) (piece_links f.kind * suc (length qs))
  journey =
      record {
        hits = λ m b. holds.hits t (kept ∷ news) before after refl contents m b;
        kept = not_own;
        grows = grows;
        from = replaced (From ts) (λ u e. record { origin = u; among = there nodes v before t after o u e; cover = refl; inside = λ a h. h }) (from_t kept refl anchors_inside.0)
            (All-weaker _ (From ts) (λ q h. from_t q h.0 h.1) news (both _ _ news covers anchors_inside.1));
        vertices = long;
        linked = omega (arith, links_tally nodes', links_tally nodes, counted (λ d. true), all_added f.kind news (placing.new_shape f.kind (length nodes) t p qs) ∙ ap (λ (k : ℕ). piece_links f.kind * k) count);
      }
    where
      count : length news ≡ suc (length qs)
      count = omega (arith, placing.count_news f.kind (length nodes) t p qs)
