-- How many links there are after a cut.
use Rattle.std.proofs.Common.{◌≡◌, ℕ, ◌+◌, ◌<◌, Bool, cond, List, [], ◌∷◌, ◌++◌, map, length, set, Some, None, sum_by, count_by, Option, sym, refl, ap, ◌∙◌, subst, inl, inr, arith}
use Rattle.std.specs.List.{flat_map, AllByRecursion}
use Rattle.std.proofs.lemmas.List.{get_or-set_other, get_or_append_left, length-set, length-append}
use Rattle.std.proofs.lemmas.List.Sums.{sum_by-cons, sum_by-append}
use Rattle.serialize.specs.Objects.{Node, node_at, no_node}
use Rattle.walk.specs.Computed.{children}
use Rattle.fields.specs.Arrays.{present}
use Rattle.markbase.specs.Values.{Subtable}
use Rattle.pieces.specs.Keeping.{mark_anchors, base_anchors, links}
use Rattle.splitting.specs.Vertices.{Meaning, subtable_vertex, coverage_vertex, marks_vertex, bases_vertex, vertices, extension_vertex, top_of, own_vertices}
use Rattle.splitting.specs.Leaving.{kept_piece, rewritten, new_vertices}
use Rattle.splitting.proofs.Tally.{tally, tally_set, tally_append}
use Rattle.splitting.proofs.Members.{Distinct}
use Rattle.splitting.proofs.Parts.{Links}
use Rattle.splitting.proofs.Holding.{four_of}

-- 1 for a vertex that passes
abbrev pub one : (ℕ → Bool) → ℕ → ℕ
one test c = cond (test c) 1 0

-- where the links of a piece's vertices lead
pub record Kids (w : Meaning) (q : Subtable) : Type 0 where
  pub fields : children (subtable_vertex q) ≡ q.table.mark_coverage ∷ q.table.base_coverage ∷ q.table.mark_array ∷ q.table.base_array ∷ []
  pub marks : children (coverage_vertex w q) ≡ []
  pub mark_records : children (marks_vertex q) ≡ present (mark_anchors q.contents)
  pub base_rows : children (bases_vertex q) ≡ present (base_anchors q.contents)

module _ (test : ℕ → Bool) where
  count_cons : (x : ℕ) (xs : List ℕ) → count_by test (x ∷ xs) ≡ one test x + count_by test xs
  count_cons x xs = sum_by-cons (one test) x xs

  -- the four links of a subtable
  abbrev four : Subtable → ℕ
  four q = one test q.table.mark_coverage + one test q.table.base_coverage + one test q.table.mark_array + one test q.table.base_array

  abbrev marks_of : Subtable → ℕ
  marks_of q = links test (mark_anchors q.contents)

  abbrev bases_of : Subtable → ℕ
  bases_of q = links test (base_anchors q.contents)

  count_four : (a b c d : ℕ) → count_by test (a ∷ b ∷ c ∷ d ∷ []) ≡ one test a + one test b + one test c + one test d
  count_four a b c d = omega (arith, count_cons a (b ∷ c ∷ d ∷ []), count_cons b (c ∷ d ∷ []), count_cons c (d ∷ []), count_cons d [])

  abbrev kids_of : Node → ℕ
  kids_of x = count_by test (children x)

  fields_count : {w : Meaning} {q : Subtable} → Kids w q → kids_of (subtable_vertex q) ≡ four q
  fields_count {w} {q} k = ap (count_by test) k.fields ∙ count_four q.table.mark_coverage q.table.base_coverage q.table.mark_array q.table.base_array

  -- the links of a piece's four vertices
  vertices_count : {w : Meaning} {q : Subtable} → Kids w q → tally test (vertices w q) ≡ four q + marks_of q + bases_of q
  vertices_count {w} {q} k =
      let a = subtable_vertex q in
      let b = coverage_vertex w q in
      let c = marks_vertex q in
      let d = bases_vertex q in
      let b0 : kids_of b ≡ 0 = ap (count_by test) k.marks in
      let c0 : kids_of c ≡ marks_of q = ap (count_by test) k.mark_records in
      let d0 : kids_of d ≡ bases_of q = ap (count_by test) k.base_rows in
      let s1 = sum_by-cons kids_of a (b ∷ c ∷ d ∷ []) in
      let s2 = sum_by-cons kids_of b (c ∷ d ∷ []) in
      let s3 = sum_by-cons kids_of c (d ∷ []) in
      let s4 = sum_by-cons kids_of d [] in
      omega (arith, fields_count k, b0, c0, d0, s1, s2, s3, s4)

  -- an offset to a piece, the link of its extension and the links of its subtable lead to each own vertex, and to the base coverage
  tops_count : (q : Subtable) → one test (top_of q) + tally test (extension_vertex q) + four q ≡ count_by test (own_vertices q) + one test q.table.base_coverage
  tops_count q = by q.extension refl
    where
      by : (e : Option ℕ) → q.extension ≡ e → one test (top_of q) + tally test (extension_vertex q) + four q ≡ count_by test (own_vertices q) + one test q.table.base_coverage
      by None e =
          let c4 = count_four q.vertex q.table.mark_coverage q.table.mark_array q.table.base_array in
          rw e (omega (arith, c4))
      by (Some x) e =
          let c4 = count_four q.vertex q.table.mark_coverage q.table.mark_array q.table.base_array in
          let c5 = count_cons x (q.vertex ∷ q.table.mark_coverage ∷ q.table.mark_array ∷ q.table.base_array ∷ []) in
          let c1 = count_cons q.vertex [] in
          rw e (omega (arith, c4, c5, c1))

  -- all links that new pieces bring, with those of the lookup to them
  pub pieces_count : (w : Meaning) (qs : List Subtable) → AllByRecursion (Kids w) qs
      → count_by test (map top_of qs) + tally test (flat_map (vertices w) qs ++ flat_map extension_vertex qs) ≡ count_by test (flat_map own_vertices qs) + sum_by (λ (q : Subtable). one test q.table.base_coverage) qs + sum_by marks_of qs + sum_by bases_of qs
  pieces_count w [] k = refl
  pieces_count w (q ∷ qs) k =
      let rest = pieces_count w qs k.1 in
      let here = vertices_count k.0 in
      let tops = tops_count q in
      let a1 = count_cons (top_of q) (map top_of qs) in
      let a2 = tally_append test (flat_map (vertices w) (q ∷ qs)) (flat_map extension_vertex (q ∷ qs)) in
      let a3 = tally_append test (vertices w q) (flat_map (vertices w) qs) in
      let a4 = tally_append test (extension_vertex q) (flat_map extension_vertex qs) in
      let a5 = tally_append test (flat_map (vertices w) qs) (flat_map extension_vertex qs) in
      let b1 = sum_by-append (one test) (own_vertices q) (flat_map own_vertices qs) in
      let b2 = sum_by-cons (λ (u : Subtable). one test u.table.base_coverage) q qs in
      let b3 = sum_by-cons marks_of q qs in
      let b4 = sum_by-cons bases_of q qs in
      omega (arith, rest, here, tops, a1, a2, a3, a4, a5, b1, b2, b3, b4)

-- one vertex after another is written anew
module _ (test : ℕ → Bool) (nodes : List Node) where
  set_count : (a : ℕ) (x : Node) (old : ℕ) → a < length nodes → count_by test (children (node_at nodes a)) ≡ old → tally test (set nodes a x) + old ≡ tally test nodes + count_by test (children x)
  set_count a x old l e = subst (λ (n : ℕ). tally test (set nodes a x) + n ≡ tally test nodes + count_by test (children x)) e (tally_set test nodes a x l)

module _ (test : ℕ → Bool) (nodes : List Node) (a b c d : ℕ) (x y z u : Node) where
  -- four of them, of which no two are the same
  pub sets_count : a < length nodes → b < length nodes → c < length nodes → d < length nodes → (b ≡ a → ⊥) → (c ≡ a → ⊥) → (c ≡ b → ⊥) → (d ≡ a → ⊥) → (d ≡ b → ⊥) → (d ≡ c → ⊥)
      → tally test (set (set (set (set nodes a x) b y) c z) d u)
      + (count_by test (children (node_at nodes a)) + count_by test (children (node_at nodes b)) + count_by test (children (node_at nodes c)) + count_by test (children (node_at nodes d)))
      ≡ tally test nodes + (count_by test (children x) + count_by test (children y) + count_by test (children z) + count_by test (children u))
  sets_count la lb lc ld ba ca cb da db dc =
      let n1 = set nodes a x in
      let n2 = set n1 b y in
      let n3 = set n2 c z in
      let l1 = length-set nodes a x in
      let l2 = length-set n1 b y in
      let l3 = length-set n2 c z in
      let e1 : node_at n1 b ≡ node_at nodes b = get_or-set_other nodes a b x no_node ba in
      let e2 : node_at n2 c ≡ node_at nodes c = get_or-set_other n1 b c y no_node cb ∙ get_or-set_other nodes a c x no_node ca in
      let e3 : node_at n3 d ≡ node_at nodes d = get_or-set_other n2 c d z no_node dc ∙ get_or-set_other n1 b d y no_node db ∙ get_or-set_other nodes a d x no_node da in
      let kids : Node → ℕ = λ m. count_by test (children m) in
      let t0 = set_count test nodes a x (kids (node_at nodes a)) la refl in
      let t1 = set_count test n1 b y (kids (node_at nodes b)) (omega (arith, l1)) (ap kids e1) in
      let t2 = set_count test n2 c z (kids (node_at nodes c)) (omega (arith, l1, l2)) (ap kids e2) in
      let t3 = set_count test n3 d u (kids (node_at nodes d)) (omega (arith, l1, l2, l3)) (ap kids e3) in
      omega (arith, t0, t1, t2, t3)

module _ (test : ℕ → Bool) (w : Meaning) (nodes : List Node) (v : ℕ) (t : Subtable) (p : ℕ) (distinct : Distinct (v ∷ four_of t)) (inside : AllByRecursion (λ u. u < length nodes) (v ∷ four_of t)) (old : Links nodes t) (new : Kids w (kept_piece t p)) where
  abbrev kept : Subtable
  kept = kept_piece t p

  -- a subtable written anew in its own vertices: only its arrays have other links
  rewritten_count : tally test (rewritten w nodes kept) + (marks_of test t + bases_of test t) ≡ tally test nodes + (marks_of test kept + bases_of test kept)
  rewritten_count =
      let a = t.vertex in
      let b = t.table.mark_coverage in
      let c = t.table.mark_array in
      let d = t.table.base_array in
      let d1 = distinct.1.0 in
      let d2 = distinct.1.1.0 in
      let d3 = distinct.1.1.1.0 in
      let sets = sets_count test nodes a b c d (subtable_vertex kept) (coverage_vertex w kept) (marks_vertex kept) (bases_vertex kept)
      inside.1.0 inside.1.1.0 inside.1.1.1.0 inside.1.1.1.1.0
      (λ e. d1 (inl e)) (λ e. d1 (inr (inl e))) (λ e. d2 (inl e)) (λ e. d1 (inr (inr (inl e)))) (λ e. d2 (inr (inl e))) (λ e. d3 (inl e)) in
      let o1 : kids_of test (node_at nodes a) ≡ four test t = ap (count_by test) old.fields ∙ count_four test b t.table.base_coverage c d in
      let o2 : kids_of test (node_at nodes b) ≡ 0 = ap (count_by test) old.marks in
      let o3 : kids_of test (node_at nodes c) ≡ marks_of test t = ap (count_by test) old.mark_records in
      let o4 : kids_of test (node_at nodes d) ≡ bases_of test t = ap (count_by test) old.base_rows in
      let n1 = fields_count test new in
      let n2 : kids_of test (coverage_vertex w kept) ≡ 0 = ap (count_by test) new.marks in
      let n3 : kids_of test (marks_vertex kept) ≡ marks_of test kept = ap (count_by test) new.mark_records in
      let n4 : kids_of test (bases_vertex kept) ≡ bases_of test kept = ap (count_by test) new.base_rows in
      omega (arith, sets, o1, o2, o3, o4, n1, n2, n3, n4)

  rewritten_long : length (rewritten w nodes kept) ≡ length nodes
  rewritten_long =
      length-set _ t.table.base_array (bases_vertex kept)
      ∙ (length-set _ t.table.mark_array (marks_vertex kept) ∙ (length-set _ t.table.mark_coverage (coverage_vertex w kept) ∙ length-set nodes t.vertex (subtable_vertex kept)))

  -- the lookup is none of them
  lookup_same : node_at (rewritten w nodes kept) v ≡ node_at nodes v
  lookup_same =
      let d0 = distinct.0 in
      get_or-set_other _ t.table.base_array v (bases_vertex kept) no_node (λ e. d0 (inr (inr (inr (inl (sym e))))))
      ∙ (get_or-set_other _ t.table.mark_array v (marks_vertex kept) no_node (λ e. d0 (inr (inr (inl (sym e)))))
      ∙ (get_or-set_other _ t.table.mark_coverage v (coverage_vertex w kept) no_node (λ e. d0 (inr (inl (sym e))))
      ∙ get_or-set_other nodes t.vertex v (subtable_vertex kept) no_node (λ e. d0 (inl (sym e)))))

  -- all links after a cut: those before it, those to the own vertices of new pieces, and those to the base coverage
  pub cut_count : (news : List Subtable) (x : Node) (tops new-tops : List ℕ) → AllByRecursion (Kids w) news → children (node_at nodes v) ≡ tops → children x ≡ new-tops
      → count_by test new-tops ≡ count_by test tops + count_by test (map top_of news)
      → marks_of test kept + sum_by (marks_of test) news ≡ marks_of test t → bases_of test kept + sum_by (bases_of test) news ≡ bases_of test t
      → tally test (set (rewritten w nodes kept ++ new_vertices w news) v x) ≡ tally test nodes + (count_by test (flat_map own_vertices news) + sum_by (λ (q : Subtable). one test q.table.base_coverage) news)
  cut_count news x tops new-tops kids was is more marks bases =
      let r = rewritten w nodes kept in
      let n = new_vertices w news in
      let long = rewritten_long in
      let here : v < length (r ++ n) = omega (arith, inside.0, long, length-append r n) in
      let same : node_at (r ++ n) v ≡ node_at nodes v = get_or_append_left r n no_node v (omega (arith, inside.0, long)) ∙ lookup_same in
      let o : kids_of test (node_at (r ++ n) v) ≡ count_by test tops = ap (kids_of test) same ∙ ap (count_by test) was in
      let i : kids_of test x ≡ count_by test new-tops = ap (count_by test) is in
      let s = tally_set test (r ++ n) v x here in
      let a = tally_append test r n in
      omega (arith, o, i, s, a, rewritten_count, pieces_count test w news kids, more, marks, bases)
