-- The tables of a file that can be loaded have the properties of every graph, and stand for its objects.
use Rattle.std.proofs.Common.{◌≡◌, ℕ, zero, suc, ◌+◌, ◌-◌, ◌<◌, ◌≤◌, true, ltb, leb, List, map, length, take, drop, is_some, sum, unwrap_or, sym, ap, ◌∙◌, subst, inl, inr, add-one, arith}
use Rattle.std.proofs.lemmas.List.{length-map, length-take-le, get_or-map, get_or-take, get_or-drop, take-take, take_all, take-map, drop-map, drop-take, drop-drop, ext_get_or}
use Rattle.std.proofs.lemmas.List.Sums.{sum_by_more, sum_by-take-le}
use Rattle.std.proofs.lemmas.List.FromFn.{length-map-range_with_len, get_or-map-range_with_len}
use Rattle.std.proofs.lemmas.Bool.{and_parts, ltb-true, leb-true}
use Rattle.std.proofs.lemmas.Bool.Decides.{nat_tests}
use Rattle.serialize.specs.declared.link.Link.{Link}
use Rattle.serialize.specs.declared.link.LinkWidth.TheVariants.{Two}
use Rattle.graph.specs.declared.vertex.Vertex.{Vertex}
use Rattle.serialize.specs.declared.object_file.Trailer.{Trailer}
use Rattle.serialize.specs.declared.object_file.LinkRecord.{LinkRecord}
use Rattle.serialize.specs.Width.{width_of, width_from}
use Rattle.serialize.specs.Objects.{no_node, part, zeros, no_link, link_at, end_of, field_of}
use Rattle.serialize.specs.ObjectFile.{length_at, lengths_of, start_at, record_at, records_of, sound_alone, link_from, node_of, nodes_of}
use Rattle.graph.specs.Filling.{Loadable, first_of, row_at, rows_of, links_of}
use Rattle.graph.specs.Sound.{no_vertex, vertex_at, segment, area, counts, link_total, Below, Apart, Placed, Ordered, Inside, Blank}
use Rattle.graph.specs.Model.{node}
use Rattle.serialize.proofs.Files.{Whole, whole, start_more, start_end}
use Rattle.serialize.proofs.Order.{in_order, follows_out}
use Rattle.graph.proofs.Segments.{records_long, record_is, first_le, first_up, first_none, first_all, kept, stretch, kept_stretch}
use Rattle.graph.proofs.Views.{Tables, length_part, same_node}

-- a part of a front, and a part of a part
pub part_take : {X : Type 0} (from n m : ℕ) (xs : List X) → from + n ≤ m → part from n (take m xs) ≡ part from n xs
part_take from n m xs h =
    let e : from + (m - from) ≡ m = omega arith in
    ap (λ (k : ℕ). take n (drop from (take k xs))) (sym e) ∙ (ap (λ zs. take n zs) (drop-take from (m - from) xs) ∙ take-take n (m - from) (drop from xs) (omega arith))

pub part_part : {X : Type 0} (a n p w : ℕ) (xs : List X) → p + w ≤ n → part p w (part a n xs) ≡ part (a + p) w xs
part_part a n p w xs h = part_take p w n (drop a xs) h ∙ ap (λ zs. take w zs) (drop-drop p a xs)

-- the width that a number of bytes names has that many
width_back : (w : ℕ) → is_some (width_from w) ≡ true → width_of (unwrap_or (width_from w) Two) ≡ w
width_back w h = grind (arith, nat_tests)

-- what a record that keeps the rules gives
record Good (file : List ℕ) (t : Trailer) (r : LinkRecord) : Type 0 where
  child : r.child < t.vertices
  wide : width_of (link_from r).width ≡ r.width
  within : r.position + r.width ≤ length_at file t r.parent
  zero : zeros (part (start_at file t r.parent + r.position) r.width file) ≡ true

good : (file : List ℕ) (t : Trailer) (r : LinkRecord) → sound_alone file t r ≡ true → Good file t r
good file t r s =
    let a = and_parts (ltb r.parent t.vertices) _ s in
    let b = and_parts (ltb r.child t.vertices) _ a.1 in
    let c = and_parts (is_some (width_from r.width)) _ b.1 in
    let d = and_parts (leb (r.position + r.width) (length_at file t r.parent)) _ c.1 in
    record { child = ltb-true _ _ b.0; wide = width_back r.width c.0; within = leb-true _ _ d.0; zero = d.1 }

module _ (file : List ℕ) (t : Trailer) (ok : Loadable file t) where
  abbrev rows : List Vertex
  rows = rows_of file t

  abbrev table : List Link
  table = links_of file t

  w : Whole file t
  w = whole file t ok.0

  pub rows_long : length rows ≡ t.vertices
  rows_long = length-map-range_with_len (row_at file t) 0 t.vertices

  row_is : (v : ℕ) → v < length rows → vertex_at rows v ≡ row_at file t v
  row_is v h = get_or-map-range_with_len (row_at file t) 0 t.vertices v v no_vertex (omega (arith, rows_long)) (omega arith)

  below_file : Below rows t.lengths
  below_file v h = rw (row_is v h) (start_end file t w v (omega (arith, rows_long)))

  start_after : (u v : ℕ) → u < v → v < t.vertices → start_at file t u + length_at file t u ≤ start_at file t v
  start_after u v lt h =
      omega (arith, start_more file t u (omega arith), ap sum (take-take (u + 1) v (lengths_of file t) (omega arith)), sum_by-take-le (λ x. x) (take v (lengths_of file t)) (u + 1))

  apart_file : Apart rows
  apart_file p u v o =
      let hu = o.1.0 in
      let hv = o.2.0 in
      omega (arith, start_after u v o.0 (omega (arith, rows_long)), ap (λ (x : Vertex). x.head) (row_is u hu), ap (λ (x : Vertex). x.len) (row_is u hu), ap (λ (x : Vertex). x.head) (row_is v hv), o.1.2, o.2.1)

  counts_before : (v : ℕ) → v ≤ t.vertices → sum (take v (counts rows)) ≡ first_of file t v
  counts_before zero h = sym (first_none file t ok)
  counts_before (suc v) h =
      let n = length-map rows (λ (r : Vertex). r.link_count) in
      let lt : v < length rows = omega (arith, rows_long) in
      let more = sum_by_more (λ x. x) (counts rows) v 0 (omega (arith, n)) in
      let here = get_or-map (λ (r : Vertex). r.link_count) rows v no_vertex 0 lt ∙ ap (λ (x : Vertex). x.link_count) (row_is v lt) in
      let e = add-one v in
      let is : sum (take (v + 1) (counts rows)) ≡ first_of file t (v + 1) = omega (arith, more, here, counts_before v (omega arith), first_up file t ok v) in
      subst (λ (k : ℕ). sum (take k (counts rows)) ≡ first_of file t k) e is

  placed_file : Placed rows
  placed_file v h = ap (λ (x : Vertex). x.first_link) (row_is v h) ∙ sym (counts_before v (omega (arith, rows_long)))

  covered_file : link_total rows ≡ t.links
  covered_file =
      let n = length-map rows (λ (r : Vertex). r.link_count) in
      ap sum (sym (take_all t.vertices (counts rows) (omega (arith, n, rows_long)))) ∙ (counts_before t.vertices (omega arith) ∙ first_all file t ok)

  -- the links of a vertex, one by one
  segment_long : (v : ℕ) → v < length rows → length (segment table (vertex_at rows v)) ≡ first_of file t (v + 1) - first_of file t v
  segment_long v h =
      ap (λ (x : Vertex). length (segment table x)) (row_is v h)
      ∙ length_part (first_of file t v) (first_of file t (v + 1) - first_of file t v) table (omega (arith, length-map (records_of file t) link_from, records_long file t, first_up file t ok v, first_le file t (v + 1)))

  segment_at : (v i : ℕ) → v < length rows → i < length (segment table (vertex_at rows v)) → link_at (segment table (vertex_at rows v)) i ≡ link_from (record_at file t (first_of file t v + i))
  segment_at v i h l =
      let f = first_of file t v in
      let n = first_of file t (v + 1) - f in
      let small : i < n = omega (arith, segment_long v h) in
      let in' : f + i < t.links = omega (arith, first_le file t (v + 1)) in
      ap (λ (x : Vertex). link_at (segment table x) i) (row_is v h)
      ∙ (get_or-take n (drop f table) i no_link small
      ∙ (get_or-drop f table i no_link
      ∙ (get_or-map link_from (records_of file t) (f + i) (record_at file t (f + i)) no_link (omega (arith, records_long file t)) ∙ ap link_from (record_is file t (f + i) (record_at file t (f + i)) in'))))

  module _ (v i : ℕ) (h : v < length rows) (l : i < length (segment table (vertex_at rows v))) where
    abbrev place : ℕ
    place = first_of file t v + i

    inside : place < t.links
    inside = omega (arith, segment_long v h, first_le file t (v + 1))

    at_v : (record_at file t place).parent ≡ v
    at_v = stretch file t ok v place (omega arith) (omega (arith, segment_long v h))

    good_at : Good file t (record_at file t place)
    good_at = good file t (record_at file t place) (and_parts (sound_alone file t (record_at file t place)) _ (kept file t ok place inside)).0

    end_at : end_of (link_at (segment table (vertex_at rows v)) i) ≡ (record_at file t place).position + (record_at file t place).width
    end_at = ap end_of (segment_at v i h l) ∙ ap (λ (n : ℕ). (record_at file t place).position + n) good_at.wide

  ordered_file : Ordered rows table
  ordered_file v i j k =
      let h = k.0 in
      let li : i < length (segment table (vertex_at rows v)) = omega (arith, k.1, k.2) in
      let a = first_of file t v + i in
      let b = first_of file t v + j in
      let behind = follows_out (record_at file t a) (record_at file t b) (in_order file t b a (kept file t ok b (inside v j h k.2)) (omega (arith, k.1))) in
      elim behind [
        | inl less ↦ absurd (omega (arith, less, at_v v i h li, at_v v j h k.2))
        | inr same ↦ omega (arith, same.1, end_at v i h li, ap (λ (x : Link). x.position) (segment_at v j h k.2))
      ]

  inside_file : Inside rows table
  inside_file v i k =
      let h = k.0 in
      let g = good_at v i h k.1 in
      let len : length_at file t (record_at file t (first_of file t v + i)).parent ≡ length_at file t v = ap (length_at file t) (at_v v i h k.1) in
      (omega (arith, g.child, ap (λ (x : Link). x.child) (segment_at v i h k.1), rows_long), omega (arith, g.within, len, end_at v i h k.1, ap (λ (x : Vertex). x.len) (row_is v h)))

  area_is : (v : ℕ) → v < length rows → area (take t.lengths file) (vertex_at rows v) ≡ part (start_at file t v) (length_at file t v) file
  area_is v h =
      ap (λ (x : Vertex). area (take t.lengths file) x) (row_is v h)
      ∙ part_take (start_at file t v) (length_at file t v) t.lengths file (start_end file t w v (omega (arith, rows_long)))

  blank_file : Blank rows table (take t.lengths file)
  blank_file v i k =
      let h = k.0 in
      let r = record_at file t (first_of file t v + i) in
      let g = good_at v i h k.1 in
      let par = at_v v i h k.1 in
      let len : length_at file t r.parent ≡ length_at file t v = ap (length_at file t) par in
      let start : start_at file t r.parent ≡ start_at file t v = ap (start_at file t) par in
      ap (λ (l : Link). zeros (field_of (area (take t.lengths file) (vertex_at rows v)) l)) (segment_at v i h k.1)
      ∙ (ap (λ (bs : List ℕ). zeros (field_of bs (link_from r))) (area_is v h)
      ∙ (ap (λ (n : ℕ). zeros (part r.position n (part (start_at file t v) (length_at file t v) file))) g.wide
      ∙ (ap zeros (part_part (start_at file t v) (length_at file t v) r.position r.width file (omega (arith, g.within, len)))
      ∙ (ap (λ (n : ℕ). zeros (part (n + r.position) r.width file)) (sym start) ∙ g.zero))))

  -- each vertex of the tables is the file's
  links_are : (v : ℕ) → v < length rows → segment table (vertex_at rows v) ≡ (node_of file t v).links
  links_are v h =
      let f = first_of file t v in
      let n = first_of file t (v + 1) - f in
      ap (λ (x : Vertex). segment table x) (row_is v h)
      ∙ (ap (λ (zs : List Link). take n zs) (drop-map link_from f (records_of file t)) ∙ (take-map link_from n (drop f (records_of file t)) ∙ ap (λ (rs : List LinkRecord). map link_from rs) (sym (kept_stretch file t ok v))))

  pub nodes_file : map (node (take t.lengths file) table) rows ≡ nodes_of file t
  nodes_file =
      let f = node (take t.lengths file) table in
      let m = length-map rows f in
      let n = length-map-range_with_len (node_of file t) 0 t.vertices in
      ext_get_or no_node (map f rows) (nodes_of file t) (omega (arith, m, n, rows_long))
      (λ v h.
      let lt : v < length rows = omega (arith, m) in
      get_or-map f rows v no_vertex no_node lt ∙ (same_node _ _ _ _ (area_is v lt) (links_are v lt) ∙ sym (get_or-map-range_with_len (node_of file t) 0 t.vertices v v no_node (omega (arith, rows_long)) (omega arith))))

  pub tables_file : Tables rows table (take t.lengths file) t.lengths t.links
  tables_file = record { below = below_file; apart = apart_file; placed = placed_file; covered = covered_file; ordered = ordered_file; inside = inside_file; blank = blank_file }

  pub area_long : length (take t.lengths file) ≡ t.lengths
  area_long = length-take-le t.lengths file (omega (arith, w.lengths_end, w.records_end_lem))
