-- Where the pieces of a subtable stand after it was cut.
use Rattle.std.proofs.Common.{◌≡◌, ℕ, suc, ◌+◌, ◌-◌, ◌*◌, ◌<◌, ◌≤◌, Bool, cond, eqb, ◌⊎◌, List, [], ◌∷◌, ◌++◌, map, length, set, Some, None, count_by, Option, sym, refl, ap, ◌∙◌, subst, inl, inr, ⊎_elim, arith}
use Rattle.std.specs.List.{flat_map, AllByRecursion}
use Rattle.std.proofs.lemmas.List.{append_assoc, append-nil, length-append, length-set, get_or_at, get_or-append-add, get_or_append_left, get_or-set_same, get_or-set_other, set_comm, set-append_left}
use Rattle.std.proofs.ByRecursion.{All-append, All-set, All-weaker}
use Rattle.std.proofs.lemmas.List.Sums.{sum_by-cons}
use Rattle.std.proofs.lemmas.Bool.{cases_lt, cases_eq, eq-eqb, ne_eqb}
use Rattle.serialize.specs.Objects.{Node, no_node, node_at}
use Rattle.markbase.specs.declared.lookup_type.LookupType.{LookupType}
use Rattle.markbase.specs.declared.lookup_type.LookupType.TheVariants.{MarkToBase, Extension}
use Rattle.markbase.specs.Values.{Subtable}
use Rattle.written.specs.Writing.{as_extension, vertex_of}
use Rattle.cutting.specs.Cutting.{Runs, Cutting}
use Rattle.pieces.specs.Keeping.{contents_of}
use Rattle.pieces.specs.Pieces.{piece, each_run, pieces, Formed}
use Rattle.pieces.proofs.Shapes.{pieces_formed}
use Rattle.splitting.specs.Vertices.{Meaning, subtable_vertex, coverage_vertex, marks_vertex, bases_vertex, vertices, extension_vertex, own_vertices}
use Rattle.splitting.specs.Leaving.{kept_piece, new_piece, extension_at, new_pieces, later_pieces, rewritten, new_vertices, cut, piece_vertices}
use Rattle.splitting.proofs.Members.{In, Distinct, all_in, in_joined, in_from_count, append_distinct}
use Rattle.splitting.proofs.Holding.{four_of, Holds, Extended}

-- how many extensions a piece has
abbrev extra : LookupType → ℕ
extra MarkToBase = 0
extra Extension = 1

all_vertices : (kind : LookupType) (n : ℕ) → 4 * n + extra kind * n ≡ piece_vertices kind * n
all_vertices MarkToBase n = omega arith
all_vertices Extension n = omega arith

-- the later pieces, from class a on: their four vertices stand from v on, and their extensions from e on
module _ (t : Subtable) where
  -- how many there are
  pub count_pieces : (kind : LookupType) (v e a : ℕ) (ps : List ℕ) → length (new_pieces kind t v e a ps) ≡ length ps + 1
  count_pieces kind v e a [] = refl
  count_pieces kind v e a (p ∷ ps) = let more = count_pieces kind (v + 4) (e + 1) p ps in omega arith

  -- how many extensions
  count_extensions : (kind : LookupType) (v e a : ℕ) (ps : List ℕ) → length (flat_map extension_vertex (new_pieces kind t v e a ps)) ≡ extra kind * suc (length ps)
  count_extensions MarkToBase v e a [] = refl
  count_extensions MarkToBase v e a (p ∷ ps) = let more = count_extensions MarkToBase (v + 4) (e + 1) p ps in omega arith
  count_extensions Extension v e a [] = refl
  count_extensions Extension v e a (p ∷ ps) = let more = count_extensions Extension (v + 4) (e + 1) p ps in omega arith

  none_extended : (nodes : List Node) (v a b : ℕ) → Extended nodes (new_piece t None v a b)
  none_extended nodes v a b d same = let z : ◌≡◌ {A = ℕ} 0 1 = cc in absurd (omega arith)

  none_all : (nodes : List Node) (v e a : ℕ) (ps : List ℕ) → AllByRecursion (Extended nodes) (new_pieces MarkToBase t v e a ps)
  none_all nodes v e a [] = (none_extended nodes v a t.table.class_count, tt)
  none_all nodes v e a (p ∷ ps) = (none_extended nodes v a p, none_all nodes (v + 4) (e + 1) p ps)

  one_extended : (pre post : List Node) (e v a b : ℕ) → length pre ≡ e → Extended (pre ++ vertex_of (as_extension v) ∷ post) (new_piece t (Some e) v a b)
  one_extended pre post e v a b h d same = let here : length pre ≡ d = cc in get_or_at pre (vertex_of (as_extension v)) post no_node d here

  -- each extension holds what it says, whatever stands before and behind them
  pub all_extended : (kind : LookupType) (pre post : List Node) (v e a : ℕ) (ps : List ℕ) → length pre ≡ e
      → AllByRecursion (Extended (pre ++ (flat_map extension_vertex (new_pieces kind t v e a ps) ++ post))) (new_pieces kind t v e a ps)
  all_extended MarkToBase pre post v e a ps h = none_all (pre ++ (flat_map extension_vertex (new_pieces MarkToBase t v e a ps) ++ post)) v e a ps
  all_extended Extension pre post v e a [] h = (one_extended pre post e v a t.table.class_count h, tt)
  all_extended Extension pre post v e a (p ∷ ps) h =
      let x = vertex_of (as_extension v) in
      let us = new_pieces Extension t (v + 4) (e + 1) p ps in
      let rest = flat_map extension_vertex us ++ post in
      let more = all_extended Extension (pre ++ x ∷ []) post (v + 4) (e + 1) p ps (omega (arith, length-append pre (x ∷ []))) in
      (one_extended pre rest e v a p h, subst (λ xs. AllByRecursion (Extended xs) us) (append_assoc pre (x ∷ []) rest) more)

-- a number among those of n pieces
abbrev Spot : LookupType → ℕ → ℕ → ℕ → ℕ → Type 0
Spot MarkToBase v e n u = (v ≤ u) × (u < v + 4 * n)
Spot Extension v e n u = ((v ≤ u) × (u < v + 4 * n)) ⊎ ((e ≤ u) × (u < e + n))

-- the numbers of the first, and those of the others
first_spots : (t : Subtable) (kind : LookupType) (v e a b n : ℕ) → AllByRecursion (Spot kind v e (suc n)) (own_vertices (new_piece t (extension_at kind e) v a b))
first_spots t MarkToBase v e a b n = ((omega arith, omega arith), ((omega arith, omega arith), ((omega arith, omega arith), ((omega arith, omega arith), tt))))
first_spots t Extension v e a b n =
    (inr (omega arith, omega arith), (inl (omega arith, omega arith), (inl (omega arith, omega arith), (inl (omega arith, omega arith), (inl (omega arith, omega arith), tt)))))

later_spot : (kind : LookupType) (v e n u : ℕ) → Spot kind (v + 4) (e + 1) n u → Spot kind v e (suc n) u
later_spot MarkToBase v e n u h = (omega arith, omega arith)
later_spot Extension v e n u (inl h) = inl (omega arith, omega arith)
later_spot Extension v e n u (inr h) = inr (omega arith, omega arith)

later_spots : (kind : LookupType) (v e n : ℕ) (qs : List Subtable) → AllByRecursion (λ (q : Subtable). AllByRecursion (Spot kind (v + 4) (e + 1) n) (own_vertices q)) qs → AllByRecursion (λ (q : Subtable). AllByRecursion (Spot kind v e (suc n)) (own_vertices q)) qs
later_spots kind v e n qs h =
    All-weaker _ _ (λ q k. All-weaker (Spot kind (v + 4) (e + 1) n) (Spot kind v e (suc n)) (later_spot kind v e n) (own_vertices q) k) qs h

-- the numbers of all
spots : (t : Subtable) (kind : LookupType) (v e a : ℕ) (ps : List ℕ) → AllByRecursion (λ (q : Subtable). AllByRecursion (Spot kind v e (suc (length ps))) (own_vertices q)) (new_pieces kind t v e a ps)
spots t kind v e a [] = (first_spots t kind v e a t.table.class_count 0, tt)
spots t kind v e a (p ∷ ps) =
    (first_spots t kind v e a p (suc (length ps)), later_spots kind v e (suc (length ps)) (new_pieces kind t (v + 4) (e + 1) p ps) (spots t kind (v + 4) (e + 1) p ps))

-- they are new ones
spot_new : (kind : LookupType) (l n m u : ℕ) → Spot kind n (n + 4 * (l + 1)) (suc l) u → m ≡ n + piece_vertices kind * suc l → (n ≤ u) × (u < m)
spot_new MarkToBase l n m u h e = (omega arith, omega arith)
spot_new Extension l n m u (inl h) e = (omega arith, omega arith)
spot_new Extension l n m u (inr h) e = (omega arith, omega arith)

spots_apart : (kind : LookupType) (v e n u : ℕ) → v + 4 * suc n ≤ e → Spot kind v e 1 u → Spot kind (v + 4) (e + 1) n u → ⊥
spots_apart MarkToBase v e n u l h k = omega arith
spots_apart Extension v e n u l (inl h) (inl k) = omega arith
spots_apart Extension v e n u l (inl h) (inr k) = omega arith
spots_apart Extension v e n u l (inr h) (inl k) = omega arith
spots_apart Extension v e n u l (inr h) (inr k) = omega arith

-- what differs from every element is none
not_in : (u : ℕ) (us : List ℕ) → AllByRecursion (λ y. y ≡ u → ⊥) us → In u us → ⊥
not_in u us h i = all_in u (λ y. y ≡ u → ⊥) us h i refl

four_distinct : (v : ℕ) → Distinct (v ∷ (v + 1) ∷ (v + 2) ∷ (v + 3) ∷ [])
four_distinct v =
    let after-v = not_in v ((v + 1) ∷ (v + 2) ∷ (v + 3) ∷ []) (λ h. omega arith, (λ h. omega arith, (λ h. omega arith, tt))) in
    let after-1 = not_in (v + 1) ((v + 2) ∷ (v + 3) ∷ []) (λ h. omega arith, (λ h. omega arith, tt)) in
    let after-2 = not_in (v + 2) ((v + 3) ∷ []) (λ h. omega arith, tt) in
    (after-v, (after-1, (after-2, (λ i. i, tt))))

first_distinct : (t : Subtable) (kind : LookupType) (v e a b : ℕ) → v + 4 ≤ e → Distinct (own_vertices (new_piece t (extension_at kind e) v a b))
first_distinct t MarkToBase v e a b l = four_distinct v
first_distinct t Extension v e a b l = (not_in e (v ∷ (v + 1) ∷ (v + 2) ∷ (v + 3) ∷ []) (λ h. omega arith, (λ h. omega arith, (λ h. omega arith, (λ h. omega arith, tt)))), four_distinct v)

-- no number stands among them twice
distinct : (t : Subtable) (kind : LookupType) (v e a : ℕ) (ps : List ℕ) → v + 4 * suc (length ps) ≤ e → Distinct (flat_map own_vertices (new_pieces kind t v e a ps))
distinct t kind v e a [] l =
    let own = own_vertices (new_piece t (extension_at kind e) v a t.table.class_count) in
    append_distinct own [] (first_distinct t kind v e a t.table.class_count (omega arith)) tt (λ u i j. j)
distinct t kind v e a (p ∷ ps) l =
    let n = suc (length ps) in
    let q = new_piece t (extension_at kind e) v a p in
    let us = new_pieces kind t (v + 4) (e + 1) p ps in
    let apart : (u : ℕ) → In u (own_vertices q) → In u (flat_map own_vertices us) → ⊥ =
    λ u i j.
    let r = in_joined own_vertices u us j in
    let all = all_in r.0 (λ (q : Subtable). AllByRecursion (Spot kind (v + 4) (e + 1) n) (own_vertices q)) us (spots t kind (v + 4) (e + 1) p ps) r.1 in
    spots_apart kind v e n u l (all_in u (Spot kind v e 1) (own_vertices q) (first_spots t kind v e a p 0) i) (all_in u (Spot kind (v + 4) (e + 1) n) (own_vertices r.0) all r.2) in
    append_distinct (own_vertices q) (flat_map own_vertices us) (first_distinct t kind v e a p (omega arith)) (distinct t kind (v + 4) (e + 1) p ps (omega arith)) apart

-- an element of a list without repetition is counted once
count_once : (u : ℕ) (us : List ℕ) → Distinct us → count_by (λ c. eqb c u) us ≤ 1
count_once u [] d = omega arith
count_once u (x ∷ us) d =
    let rest = count_once u us d.1 in
    let cons = sum_by-cons (λ c. cond (eqb c u) 1 0) x us in
    let none : x ≡ u → count_by (λ c. eqb c u) us ≡ 0 =
    λ e. ⊎_elim (λ h. omega arith) (λ h. absurd (d.0 (subst (λ y. In y us) (sym e) (in_from_count u us h)))) (cases_lt (count_by (λ c. eqb c u) us) 1) in
    ⊎_elim
    (λ e. omega (arith, ap (λ (b : Bool). cond {A = ℕ} b 1 0) (eq-eqb x u e), none e))
    (λ ne. omega (arith, ap (λ (b : Bool). cond {A = ℕ} b 1 0) (ne_eqb x u ne)))
    (cases_eq x u)

-- four vertices behind others
four_at : (pre : List Node) (x₀ x₁ x₂ x₃ : Node) (post : List Node) (v : ℕ) → length pre ≡ v
    → (node_at (pre ++ x₀ ∷ x₁ ∷ x₂ ∷ x₃ ∷ post) v ≡ x₀) × (node_at (pre ++ x₀ ∷ x₁ ∷ x₂ ∷ x₃ ∷ post) (v + 1) ≡ x₁)
    × (node_at (pre ++ x₀ ∷ x₁ ∷ x₂ ∷ x₃ ∷ post) (v + 2) ≡ x₂) × (node_at (pre ++ x₀ ∷ x₁ ∷ x₂ ∷ x₃ ∷ post) (v + 3) ≡ x₃)
four_at pre x₀ x₁ x₂ x₃ post v e =
    let ys = x₀ ∷ x₁ ∷ x₂ ∷ x₃ ∷ post in
    let at : (n : ℕ) → node_at (pre ++ ys) (v + n) ≡ node_at ys n = λ n. ap (λ m. node_at (pre ++ ys) (m + n)) (sym e) ∙ get_or-append-add pre ys n no_node in
    (get_or_at pre x₀ (x₁ ∷ x₂ ∷ x₃ ∷ post) no_node v e, at 1, at 2, at 3)

module _ (w : Meaning) (t : Subtable) where
  -- how many vertices they have
  count_fours : (kind : LookupType) (v e a : ℕ) (ps : List ℕ) → length (flat_map (vertices w) (new_pieces kind t v e a ps)) ≡ 4 * (length ps + 1)
  count_fours kind v e a [] = refl
  count_fours kind v e a (p ∷ ps) = let more = count_fours kind (v + 4) (e + 1) p ps in omega arith

  -- and how many vertices and extensions
  count_vertices : (kind : LookupType) (v e a : ℕ) (ps : List ℕ) → length (new_vertices w (new_pieces kind t v e a ps)) ≡ piece_vertices kind * suc (length ps)
  count_vertices kind v e a ps =
      let us = new_pieces kind t v e a ps in
      omega (arith, length-append (flat_map (vertices w) us) (flat_map extension_vertex us), count_fours kind v e a ps, count_extensions t kind v e a ps, all_vertices kind (suc (length ps)))

  one_holds : (pre post : List Node) (o : Option ℕ) (v a b : ℕ) → length pre ≡ v → Holds w (pre ++ (vertices w (new_piece t o v a b) ++ post)) (new_piece t o v a b)
  one_holds pre post o v a b e =
      let q = new_piece t o v a b in
      let f = four_at pre (subtable_vertex q) (coverage_vertex w q) (marks_vertex q) (bases_vertex q) post v e in
      record { fields = f.0; marks = f.1; mark_records = f.2; base_rows = f.3 }

  -- each piece stands in its four, whatever stands before and behind them
  pub all_hold : (kind : LookupType) (pre post : List Node) (v e a : ℕ) (ps : List ℕ) → length pre ≡ v
      → AllByRecursion (Holds w (pre ++ (flat_map (vertices w) (new_pieces kind t v e a ps) ++ post))) (new_pieces kind t v e a ps)
  all_hold kind pre post v e a [] h = (one_holds pre post (extension_at kind e) v a t.table.class_count h, tt)
  all_hold kind pre post v e a (p ∷ ps) h =
      let q = new_piece t (extension_at kind e) v a p in
      let us = new_pieces kind t (v + 4) (e + 1) p ps in
      let rest = flat_map (vertices w) us ++ post in
      let more = all_hold kind (pre ++ vertices w q) post (v + 4) (e + 1) p ps (omega (arith, length-append pre (vertices w q))) in
      (one_holds pre rest (extension_at kind e) v a p h, subst (λ xs. AllByRecursion (Holds w xs) us) (append_assoc pre (vertices w q) rest) more)

-- vertices written one after the other
abbrev Writes : Type 0
Writes = List (ℕ × Node)

abbrev written : List Node → Writes → List Node
written nodes [] = nodes
written nodes (c ∷ cs) = written (set nodes c.0 c.1) cs

abbrev numbers : Writes → List ℕ
numbers cs = map (λ (c : ℕ × Node). c.0) cs

written_length : (nodes : List Node) (cs : Writes) → length (written nodes cs) ≡ length nodes
written_length nodes [] = refl
written_length nodes (c ∷ cs) = written_length (set nodes c.0 c.1) cs ∙ length-set nodes c.0 c.1

-- no other vertex changes
written_other : (nodes : List Node) (cs : Writes) (u : ℕ) → (In u (numbers cs) → ⊥) → node_at (written nodes cs) u ≡ node_at nodes u
written_other nodes [] u h = refl
written_other nodes (c ∷ cs) u h =
    written_other (set nodes c.0 c.1) cs u (λ i. h (inr i)) ∙ get_or-set_other nodes c.0 u c.1 no_node (λ e. h (inl (sym e)))

-- each that is written once holds what was written
written_at : (nodes : List Node) (cs : Writes) → Distinct (numbers cs) → AllByRecursion (λ u. u < length nodes) (numbers cs) → AllByRecursion (λ (c : ℕ × Node). node_at (written nodes cs) c.0 ≡ c.1) cs
written_at nodes [] d h = tt
written_at nodes (c ∷ cs) d h =
    let nodes' = set nodes c.0 c.1 in (
      written_other nodes' cs c.0 d.0 ∙ get_or-set_same nodes c.0 c.1 no_node h.0,
      written_at nodes' cs d.1 (subst (λ n. AllByRecursion (λ u. u < n) (numbers cs)) (sym (length-set nodes c.0 c.1)) h.1),
    )

-- a vertex that is not among them may be written before
written_before : (nodes : List Node) (cs : Writes) (v : ℕ) (x : Node) → (In v (numbers cs) → ⊥) → set (written nodes cs) v x ≡ written (set nodes v x) cs
written_before nodes [] v x h = refl
written_before nodes (c ∷ cs) v x h =
    written_before (set nodes c.0 c.1) cs v x (λ i. h (inr i)) ∙ ap (λ xs. written xs cs) (set_comm nodes c.0 v c.1 x (λ e. h (inl e)))

written_all : (P : Node → Type 0) (nodes : List Node) (cs : Writes) → AllByRecursion P nodes → AllByRecursion (λ (c : ℕ × Node). P c.1) cs → AllByRecursion P (written nodes cs)
written_all P nodes [] h k = h
written_all P nodes (c ∷ cs) h k = written_all P (set nodes c.0 c.1) cs (All-set P nodes c.0 c.1 k.0 h) k.1

-- what is written of a subtable in its own vertices
abbrev writes : Meaning → Subtable → Writes
writes w t =
    (t.vertex, subtable_vertex t) ∷ (t.table.mark_coverage, coverage_vertex w t) ∷ (t.table.mark_array, marks_vertex t) ∷ (t.table.base_array, bases_vertex t) ∷ []

-- no extension in type 4, and one in type 9
abbrev pub Shaped : LookupType → Subtable → Type 0
Shaped MarkToBase q = q.extension ≡ None
Shaped Extension q = (e : ℕ) × (q.extension ≡ Some e)

shaped : (kind : LookupType) (t : Subtable) (v e a b : ℕ) → Shaped kind (new_piece t (extension_at kind e) v a b)
shaped MarkToBase t v e a b = refl
shaped Extension t v e a b = (e, refl)

module _ (t : Subtable) where
  all_shaped : (kind : LookupType) (v e a : ℕ) (ps : List ℕ) → AllByRecursion (Shaped kind) (new_pieces kind t v e a ps)
  all_shaped kind v e a [] = (shaped kind t v e a t.table.class_count, tt)
  all_shaped kind v e a (p ∷ ps) = (shaped kind t v e a p, all_shaped kind (v + 4) (e + 1) p ps)

  all_cover : (kind : LookupType) (v e a : ℕ) (ps : List ℕ) → AllByRecursion (λ (q : Subtable). q.table.base_coverage ≡ t.table.base_coverage) (new_pieces kind t v e a ps)
  all_cover kind v e a [] = (refl, tt)
  all_cover kind v e a (p ∷ ps) = (refl, all_cover kind (v + 4) (e + 1) p ps)

  all_contents : (kind : LookupType) (v e a : ℕ) (ps : List ℕ) → contents_of (new_pieces kind t v e a ps) ≡ each_run (piece t.contents) a t.table.class_count ps
  all_contents kind v e a [] = refl
  all_contents kind v e a (p ∷ ps) = ap (λ cs. piece t.contents a p ∷ cs) (all_contents kind (v + 4) (e + 1) p ps)

  all_formed : (kind : LookupType) (v e a : ℕ) (ps : List ℕ) → Runs (λ x y. Formed (y - x) (piece t.contents x y)) a t.table.class_count ps
      → AllByRecursion (λ (q : Subtable). Formed q.table.class_count q.contents) (new_pieces kind t v e a ps)
  all_formed kind v e a [] h = (h, tt)
  all_formed kind v e a (p ∷ ps) h = (h.0, all_formed kind (v + 4) (e + 1) p ps h.1)

-- the later pieces of t, which is cut at p and then at qs where there are n vertices
module _ (kind : LookupType) (n : ℕ) (t : Subtable) (p : ℕ) (qs : List ℕ) where
  -- one more than the places after p
  pub count_news : length (later_pieces kind n t p qs) ≡ length qs + 1
  count_news = count_pieces t kind n (n + 4 * (length qs + 1)) p qs

  -- none of their numbers stands there twice
  pub new_distinct : Distinct (flat_map own_vertices (later_pieces kind n t p qs))
  new_distinct = distinct t kind n (n + 4 * (length qs + 1)) p qs (omega arith)

  pub new_once : (u : ℕ) → count_by (λ c. eqb c u) (flat_map own_vertices (later_pieces kind n t p qs)) ≤ 1
  new_once u = count_once u (flat_map own_vertices (later_pieces kind n t p qs)) new_distinct

  -- in type 9 they have extensions
  pub new_shape : AllByRecursion (Shaped kind) (later_pieces kind n t p qs)
  new_shape = all_shaped t kind n (n + 4 * (length qs + 1)) p qs

  -- they share the base coverage
  pub new_cover : AllByRecursion (λ (q : Subtable). q.table.base_coverage ≡ t.table.base_coverage) (later_pieces kind n t p qs)
  new_cover = all_cover t kind n (n + 4 * (length qs + 1)) p qs

  -- with the kept one they hold the pieces
  pub new_contents : contents_of (kept_piece t p ∷ later_pieces kind n t p qs) ≡ pieces t.table.class_count t.contents (p ∷ qs)
  new_contents = ap (λ cs. piece t.contents 0 p ∷ cs) (all_contents t kind n (n + 4 * (length qs + 1)) p qs)

  -- which are well formed
  pub new_formed : Formed t.table.class_count t.contents → Cutting 0 t.table.class_count (p ∷ qs)
      → AllByRecursion (λ (q : Subtable). Formed q.table.class_count q.contents) (kept_piece t p ∷ later_pieces kind n t p qs)
  new_formed ok cuts =
      let h = pieces_formed t.table.class_count t.contents ok (p ∷ qs) 0 cuts in
      let same : p - 0 ≡ p = omega arith in
      (subst (λ k. Formed k (piece t.contents 0 p)) same h.0, all_formed t kind n (n + 4 * (length qs + 1)) p qs h.1)

-- the same cut in vertices that differ at v at most, where v is written anew
pub same_cut : (w : Meaning) (kind : LookupType) (v : ℕ) (t : Subtable) (p : ℕ) (qs : List ℕ) (n c : List Node) → length n ≡ length c → ((y : Node) → set c v y ≡ set n v y)
    → Distinct (v ∷ four_of t) → v < length n → (y : Node) → set (cut w kind c t (p ∷ qs)) v y ≡ set (cut w kind n t (p ∷ qs)) v y
same_cut w kind v t p qs n c long same apart here y =
    let ws = writes w (kept_piece t p) in
    let moved : (m : List Node) → v < length m → set (cut w kind m t (p ∷ qs)) v y ≡ written (set m v y) ws ++ new_vertices w (later_pieces kind (length m) t p qs) =
    λ m l.
    let vs = new_vertices w (later_pieces kind (length m) t p qs) in
    set-append_left (written m ws) vs v y (omega (arith, written_length m ws)) ∙ ap (λ xs. xs ++ vs) (written_before m ws v y apart.0) in
    moved c (omega arith)
    ∙ (ap (λ xs. written xs ws ++ new_vertices w (later_pieces kind (length c) t p qs)) (same y)
    ∙ (ap (λ m. written (set n v y) ws ++ new_vertices w (later_pieces kind m t p qs)) (sym long) ∙ sym (moved n here)))

-- the subtable t is cut at p and then at qs, and the lookup at v is written anew
module _ (w : Meaning) (kind : LookupType) (nodes : List Node) (v : ℕ) (t : Subtable) (p : ℕ) (qs : List ℕ) (x : Node) where
  abbrev kept : Subtable
  kept = kept_piece t p

  abbrev news : List Subtable
  news = later_pieces kind (length nodes) t p qs

  abbrev old : List Node
  old = rewritten w nodes kept

  -- all vertices then
  abbrev pub after : List Node
  after = set (old ++ new_vertices w news) v x

  old_length : length old ≡ length nodes
  old_length = written_length nodes (writes w kept)

  -- so many vertices there are then
  pub long : length after ≡ length nodes + piece_vertices kind * length (p ∷ qs)
  long =
      omega (
        arith,
        length-set (old ++ new_vertices w news) v x,
        length-append old (new_vertices w news),
        old_length,
        count_vertices w t kind (length nodes) (length nodes + 4 * (length qs + 1)) p qs,
      )

  -- the others are as they were
  pub elsewhere : (u : ℕ) → u < length nodes → (u ≡ v → ⊥) → (In u (four_of t) → ⊥) → node_at after u ≡ node_at nodes u
  elsewhere u l ne h =
      let l' : u < length old = omega (arith, old_length) in
      get_or-set_other (old ++ new_vertices w news) v u x no_node ne
      ∙ (get_or_append_left old (new_vertices w news) no_node u l' ∙ written_other nodes (writes w kept) u h)

  -- what holds of the old vertices and of all that is written holds of every vertex
  pub all_after : (P : Node → Type 0) → AllByRecursion P nodes → P x → AllByRecursion P (vertices w kept) → AllByRecursion P (flat_map (vertices w) news) → AllByRecursion P (flat_map extension_vertex news) → AllByRecursion P after
  all_after P h k a b c =
      All-set P (old ++ new_vertices w news) v x k
      (All-append P old (new_vertices w news) (written_all P nodes (writes w kept) h a) (All-append P (flat_map (vertices w) news) (flat_map extension_vertex news) b c))

  -- the later pieces stand in new vertices
  pub new_numbers : AllByRecursion (λ (q : Subtable). AllByRecursion (λ u. (length nodes ≤ u) × (u < length after)) (own_vertices q)) news
  new_numbers =
      All-weaker _ (λ (q : Subtable). AllByRecursion (λ u. (length nodes ≤ u) × (u < length after)) (own_vertices q))
      (λ q h. All-weaker _ (λ u. (length nodes ≤ u) × (u < length after)) (λ u k. spot_new kind (length qs) (length nodes) (length after) u k long) (own_vertices q) h)
      news (spots t kind (length nodes) (length nodes + 4 * (length qs + 1)) p qs)

  module _ (here : v < length nodes) where
    split_after : after ≡ set old v x ++ new_vertices w news
    split_after = set-append_left old (new_vertices w news) v x (omega (arith, old_length))

    front_length : length (set old v x) ≡ length nodes
    front_length = length-set old v x ∙ old_length

    -- what stands at the lookup
    pub at_lookup : node_at after v ≡ x
    at_lookup = get_or-set_same (old ++ new_vertices w news) v x no_node (omega (arith, length-append old (new_vertices w news), old_length))

    -- the later pieces stand in their vertices
    pub at_news : AllByRecursion (Holds w after) news
    at_news = subst (λ xs. AllByRecursion (Holds w xs) news) (sym split_after) (all_hold w t kind (set old v x) (flat_map extension_vertex news) (length nodes) _ p qs front_length)

    -- and their extensions lead to them
    pub at_extensions : AllByRecursion (Extended after) news
    at_extensions =
        let fours = flat_map (vertices w) news in
        let exts = flat_map extension_vertex news in
        let n = length nodes in
        let many = count_fours w t kind n (n + 4 * (length qs + 1)) p qs in
        let all = all_extended t kind (set old v x ++ fours) [] n (n + 4 * (length qs + 1)) p qs (omega (arith, length-append (set old v x) fours, front_length)) in
        let same : (set old v x ++ fours) ++ (exts ++ []) ≡ after = ap (λ xs. (set old v x ++ fours) ++ xs) (append-nil exts) ∙ (append_assoc (set old v x) fours exts ∙ sym split_after) in
        subst (λ xs. AllByRecursion (Extended xs) news) same all

  module _ (apart : Distinct (v ∷ four_of t)) (inside : AllByRecursion (λ u. u < length nodes) (v ∷ four_of t)) where
    in_old : (u : ℕ) → In u (four_of t) → node_at after u ≡ node_at old u
    in_old u i =
        let l : u < length old = omega (arith, old_length, all_in u (λ u. u < length nodes) (four_of t) inside.1 i) in
        get_or-set_other (old ++ new_vertices w news) v u x no_node (λ e. apart.0 (subst (λ y. In y (four_of t)) e i)) ∙ get_or_append_left old (new_vertices w news) no_node u l

    -- the kept piece stands in the subtable's own vertices
    pub at_kept : Holds w after kept
    at_kept =
        let f = written_at nodes (writes w kept) apart.1 inside.1 in
        record {
          fields = in_old t.vertex (inl refl) ∙ f.0;
          marks = in_old t.table.mark_coverage (inr (inl refl)) ∙ f.1.0;
          mark_records = in_old t.table.mark_array (inr (inr (inl refl))) ∙ f.1.1.0;
          base_rows = in_old t.table.base_array (inr (inr (inr (inl refl)))) ∙ f.1.1.1.0;
        }
