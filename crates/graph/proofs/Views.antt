-- What the view says of the tables.
use Rattle.std.proofs.Common.{◌≡◌, ℕ, zero, suc, ◌+◌, ◌<◌, ◌≤◌, List, [], ◌∷◌, ◌++◌, map, length, take, drop, vec_items, vec_len, sum, sym, refl, ap, ◌∙◌, subst, add-one, arith, take-add}
use Rattle.std.specs.List.{flat_map}
use Rattle.std.proofs.lemmas.List.{length-map, length-take-le, length-drop, get_or-map, map_more, flat_map_more, take_all}
use Rattle.std.proofs.lemmas.List.Sums.{sum_by_more, sum_by-take-le}
use Rattle.graph.specs.declared.vertex.Vertex.{Vertex}
use Rattle.graph.specs.declared.vertex.Capacity.{Capacity}
use Rattle.serialize.specs.declared.link.Link.{Link}
use Rattle.graph.specs.declared.tables.Graph.{Graph}
use Rattle.serialize.specs.Objects.{Node, no_node, node_at, part, Ascends, LinksFit, SoundObjects, bytes_at, links_at, all_links}
use Rattle.graph.specs.Sound.{vertex_at, no_vertex, segment, counts, links_before, link_total, Below, Apart, Placed, Ordered, Inside, Blank}
use Rattle.graph.specs.Model.{node, view}

pub length_part : {X : Type 0} (from n : ℕ) (xs : List X) → from + n ≤ length xs → length (part from n xs) ≡ n
length_part from n xs h = length-take-le n (drop from xs) (simp length-drop (omega arith))

-- a segment ends within the table
segment_ends : (rs : List Vertex) → Placed rs → (v : ℕ) → v < length rs → (vertex_at rs v).first_link + (vertex_at rs v).link_count ≤ link_total rs
segment_ends rs placed v h =
    let n = length-map rs (λ (r : Vertex). r.link_count) in
    omega (arith, placed v h, get_or-map (λ (r : Vertex). r.link_count) rs v no_vertex 0 h, sum_by_more (λ x. x) (counts rs) v 0 (omega (arith, n)), sum_by-take-le (λ x. x) (counts rs) (v + 1))

abbrev pub made : List ℕ → List Link → Node
made b ls = record { bytes = b; links = ls }

pub same_node : (b b' : List ℕ) (ls ls' : List Link) → b ≡ b' → ls ≡ ls' → made b ls ≡ made b' ls'
same_node b b' ls ls' p q = cc

abbrev pub row_of : Graph → ℕ → Vertex
row_of g v = vertex_at (vec_items g.vertices) v

abbrev pub node_of : Graph → ℕ → Node
node_of g v = node (vec_items g.bytes) (vec_items g.links) (row_of g v)

module _ (g : Graph) where
  pub count_is : length (view g).nodes ≡ vec_len g.vertices
  unfolding view
  count_is = length-map (vec_items g.vertices) (node (vec_items g.bytes) (vec_items g.links)) ∙ sym g.vertices.ok.0

  pub mark_is : (view g).mark ≡ vec_len g.bytes
  unfolding view
  mark_is = refl

  pub capacity_is : (view g).capacity ≡ g.capacity
  unfolding view
  capacity_is = refl

  pub node_is : (v : ℕ) → v < vec_len g.vertices → node_at (view g).nodes v ≡ node_of g v
  unfolding view
  node_is v h = get_or-map (node (vec_items g.bytes) (vec_items g.links)) (vec_items g.vertices) v no_vertex no_node (omega (arith, g.vertices.ok.0))

  pub bytes_long : (v : ℕ) → v < vec_len g.vertices → length (bytes_at (view g).nodes v) ≡ (row_of g v).len
  bytes_long v h =
      ap (λ (x : Node). length x.bytes) (node_is v h)
      ∙ length_part (row_of g v).head (row_of g v).len (vec_items g.bytes) (omega (arith, g.below v (omega (arith, g.vertices.ok.0)), g.bytes.ok.0))

  pub links_end : (v : ℕ) → v < vec_len g.vertices → (row_of g v).first_link + (row_of g v).link_count ≤ vec_len g.links
  links_end v h = omega (arith, segment_ends (vec_items g.vertices) g.placed v (omega (arith, g.vertices.ok.0)), g.covered)

  pub links_long : (v : ℕ) → v < vec_len g.vertices → length (links_at (view g).nodes v) ≡ (row_of g v).link_count
  links_long v h =
      ap (λ (x : Node). length x.links) (node_is v h)
      ∙ length_part (row_of g v).first_link (row_of g v).link_count (vec_items g.links) (omega (arith, links_end v h, g.links.ok.0))

  pub links_up : (v : ℕ) → v < vec_len g.vertices → Ascends (links_at (view g).nodes v)
  links_up v h =
      subst (λ (x : Node). Ascends x.links) (sym (node_is v h)) (λ i j lt l. g.ordered v i j (omega (arith, g.vertices.ok.0), lt, l))

-- what always holds of the tables, but for their capacities
pub record Tables (rs : List Vertex) (ls : List Link) (bs : List ℕ) (mark total : ℕ) : Type 0 where
  pub below : Below rs mark
  pub apart : Apart rs
  pub placed : Placed rs
  pub covered : link_total rs ≡ total
  pub ordered : Ordered rs ls
  pub inside : Inside rs ls
  pub blank : Blank rs ls bs

-- the same of equal tables
pub same_tables : {rs rs' : List Vertex} {ls ls' : List Link} {bs bs' : List ℕ} {mark mark' total total' : ℕ} → Tables rs ls bs mark total
    → rs' ≡ rs → ls' ≡ ls → bs' ≡ bs → mark' ≡ mark → total' ≡ total → Tables rs' ls' bs' mark' total'
same_tables {rs} {rs'} {ls} {ls'} {bs} {bs'} {mark} {mark'} {total} {total'} x er el eb em et =
    subst (λ (a : List Vertex). Tables a ls' bs' mark' total') (sym er)
    (subst (λ (a : List Link). Tables rs a bs' mark' total') (sym el)
    (subst (λ (a : List ℕ). Tables rs ls a mark' total') (sym eb)
    (subst (λ (a : ℕ). Tables rs ls bs a total') (sym em) (subst (λ (a : ℕ). Tables rs ls bs mark a) (sym et) x))))

-- what a graph stands for, from its tables
pub view_made : (g : Graph) (rs : List Vertex) (ls : List Link) (bs : List ℕ) (nodes : List Node) (mark : ℕ) (capacity : Capacity)
    → vec_items g.vertices ≡ rs → vec_items g.links ≡ ls → vec_items g.bytes ≡ bs → map (node bs ls) rs ≡ nodes → vec_len g.bytes ≡ mark → g.capacity ≡ capacity
    → view g ≡ record { nodes = nodes; mark = mark; capacity = capacity }
unfolding view
view_made g rs ls bs nodes mark capacity er el eb en em ec =
    let is : map (node (vec_items g.bytes) (vec_items g.links)) (vec_items g.vertices) ≡ nodes =
    ap (λ (a : List Vertex). map (node (vec_items g.bytes) (vec_items g.links)) a) er
    ∙ (ap (λ (a : List Link). map (node (vec_items g.bytes) a) rs) el ∙ (ap (λ (a : List ℕ). map (node a ls) rs) eb ∙ en)) in
    cc

-- the objects of every graph are sound
pub sound_objects : (g : Graph) → SoundObjects (view g).nodes
sound_objects g v h =
    let n = count_is g in
    let lt : v < vec_len g.vertices = omega arith in
    let small : v < length (vec_items g.vertices) = omega (arith, g.vertices.ok.0) in
    let long : length (vec_items g.vertices) ≡ length (view g).nodes = sym g.vertices.ok.0 ∙ sym n in (
      links_up g v lt,
      subst (λ (x : Node). LinksFit (length (view g).nodes) x) (sym (node_is g v lt)) (λ i k.
          let a = g.inside v i (small, k) in
          (omega (arith, a.0, long), omega (arith, a.1, bytes_long g v lt, ap (λ (x : Node). length x.bytes) (node_is g v lt)), g.blank v i (small, k))),
    )

-- the first segments are the front of the link table
module _ (rs : List Vertex) (ls : List Link) (bs : List ℕ) (placed : Placed rs) (covered : link_total rs ≡ length ls) where
  front_joined : (v : ℕ) → v ≤ length rs → flat_map (λ (x : Node). x.links) (map (node bs ls) (take v rs)) ≡ take (links_before rs v) ls
  front_joined zero h = refl
  front_joined (suc v) h =
      let f : Vertex → Node = node bs ls in
      let g : Node → List Link = λ x. x.links in
      let r = vertex_at rs v in
      let n = length-map rs (λ (r : Vertex). r.link_count) in
      let at = get_or-map (λ (r : Vertex). r.link_count) rs v no_vertex 0 h in
      let sum_more : links_before rs (v + 1) ≡ links_before rs v + r.link_count = sum_by_more (λ x. x) (counts rs) v 0 (omega (arith, n)) ∙ ap (λ (k : ℕ). links_before rs v + k) at in
      let e = add-one v in
      let rows : map f (take (v + 1) rs) ≡ map f (take v rs) ++ f r ∷ [] = map_more f rs v no_vertex h in
      let seg : segment ls r ≡ part (links_before rs v) r.link_count ls = ap (λ (k : ℕ). part k r.link_count ls) (placed v h) in
      let is : flat_map g (map f (take (v + 1) rs)) ≡ take (links_before rs (v + 1)) ls =
      ap (flat_map g) rows
      ∙ (sym (flat_map_more g [] (map f (take v rs)) (f r))
      ∙ (ap (λ (xs : List Link). xs ++ segment ls r) (front_joined v (omega arith))
      ∙ (ap (λ (xs : List Link). take (links_before rs v) ls ++ xs) seg ∙ (sym (take-add (links_before rs v) r.link_count ls) ∙ ap (λ (k : ℕ). take k ls) (sym sum_more))))) in
      subst (λ (k : ℕ). flat_map g (map f (take k rs)) ≡ take (links_before rs k) ls) e is

pub all_joined : (g : Graph) → all_links (view g).nodes ≡ vec_items g.links
unfolding view
all_joined g =
    let rs = vec_items g.vertices in
    let ls = vec_items g.links in
    let all = link_total rs in
    let n : all ≡ length ls = g.covered ∙ g.links.ok.0 in
    let m = length-map rs (λ (r : Vertex). r.link_count) in
    ap (λ (zs : List Vertex). flat_map (λ (x : Node). x.links) (map (node (vec_items g.bytes) ls) zs)) (sym (take_all (length rs) rs (omega arith)))
    ∙ (front_joined rs ls (vec_items g.bytes) g.placed n (length rs) (omega arith)
    ∙ (ap (λ (k : ℕ). take k ls) (ap sum (take_all (length rs) (counts rs) (omega (arith, m)))) ∙ take_all all ls (omega arith)))
