-- The links that a cut adds, vertex by vertex.
use Rattle.std.proofs.Common.{◌≡◌, ℕ, suc, ◌+◌, ◌*◌, ◌<◌, ◌≤◌, Bool, true, eqb, List, [], ◌∷◌, ◌++◌, map, length, sum_by, count_by, sym, refl, ap, ◌∙◌, arith}
use Rattle.std.specs.List.{flat_map, AllByRecursion}
use Rattle.std.proofs.lemmas.List.{map-append}
use Rattle.std.proofs.lemmas.List.Sums.{sum_by-cons, sum_by-append}
use Rattle.std.proofs.lemmas.Bool.{ne_eqb, cond-false}
use Rattle.markbase.specs.declared.lookup_type.LookupType.{LookupType}
use Rattle.markbase.specs.declared.lookup_type.LookupType.TheVariants.{MarkToBase, Extension}
use Rattle.markbase.specs.Values.{Contents, Subtable}
use Rattle.pieces.specs.Keeping.{contents_of}
use Rattle.splitting.specs.Vertices.{top_of, own_vertices}
use Rattle.splitting.specs.Leaving.{piece_vertices}
use Rattle.splitting.specs.Needs.{piece_links}
use Rattle.splitting.proofs.Counting.{one}
use Rattle.splitting.proofs.Tally.{sum_over_map}
use Rattle.splitting.proofs.Placing.{Shaped}

-- what new pieces add to the links that pass a test
abbrev pub added : (ℕ → Bool) → List Subtable → ℕ
added test news = count_by test (flat_map own_vertices news) + sum_by (λ (q : Subtable). one test q.table.base_coverage) news

sum_none : {X : Type 0} (g : X → ℕ) (xs : List X) → AllByRecursion (λ x. g x ≡ 0) xs → sum_by g xs ≡ 0
sum_none g [] h = refl
sum_none g (x ∷ xs) h = omega (arith, sum_by-cons g x xs, h.0, sum_none g xs h.1)

-- a vertex is counted only as itself
one_none : (u c : ℕ) → (c ≡ u → ⊥) → one (λ d. eqb d u) c ≡ 0
one_none u c h = cond-false _ _ _ (ne_eqb c u h)

all_each : {X : Type 0} (P Q : X → Type 0) → ((x : X) → P x → Q x) → (xs : List X) → AllByRecursion P xs → AllByRecursion Q xs
all_each P Q f [] h = tt
all_each P Q f (x ∷ xs) h = (f x h.0, all_each P Q f xs h.1)

module _ (n b : ℕ) (news : List Subtable) (numbers : AllByRecursion (λ (q : Subtable). AllByRecursion (λ u. n ≤ u) (own_vertices q)) news) (covers : AllByRecursion (λ (q : Subtable). q.table.base_coverage ≡ b) news) where
  covers_none : (u : ℕ) → (b ≡ u → ⊥) → sum_by (λ (q : Subtable). one (λ d. eqb d u) q.table.base_coverage) news ≡ 0
  covers_none u h = sum_none _ news (all_each (λ (q : Subtable). q.table.base_coverage ≡ b) _ (λ q e. one_none u q.table.base_coverage (λ d. h (sym e ∙ d))) news covers)

  -- nothing is added to an old vertex that is not the base coverage
  pub none_added : (u : ℕ) → u < n → (b ≡ u → ⊥) → added (λ d. eqb d u) news ≡ 0
  none_added u l h = omega (arith, old_none news numbers, covers_none u h)
    where
      old_none : (qs : List Subtable) → AllByRecursion (λ (q : Subtable). AllByRecursion (λ y. n ≤ y) (own_vertices q)) qs → count_by (λ d. eqb d u) (flat_map own_vertices qs) ≡ 0
      old_none [] k = refl
      old_none (q ∷ qs) k =
          omega (
            arith,
            sum_by-append (one (λ d. eqb d u)) (own_vertices q) (flat_map own_vertices qs),
            sum_none (one (λ d. eqb d u)) (own_vertices q) (all_each (λ y. n ≤ y) (λ y. one (λ d. eqb d u) y ≡ 0) (λ y m. one_none u y (λ e. omega arith)) (own_vertices q) k.0),
            old_none qs k.1,
          )

  -- one link at most is added to a new one
  pub once_added : (u : ℕ) → n ≤ u → b < n → count_by (λ d. eqb d u) (flat_map own_vertices news) ≤ 1 → added (λ d. eqb d u) news ≤ 1
  once_added u l m c = omega (arith, covers_none u (λ e. omega arith))

-- all links together
own_count : (kind : LookupType) (q : Subtable) → Shaped kind q → count_by (λ d. true) (own_vertices q) ≡ piece_vertices kind
own_count MarkToBase q e = rw e
own_count Extension q e = let h = e.1 in rw h

pub all_added : (kind : LookupType) (news : List Subtable) → AllByRecursion (Shaped kind) news → added (λ d. true) news ≡ piece_links kind * length news
all_added kind [] h = by kind
  where
    by : (kind : LookupType) → 0 ≡ piece_links kind * 0
    by MarkToBase = refl
    by Extension = refl
all_added kind (q ∷ news) h =
    let rest = all_added kind news h.1 in
    let own = own_count kind q h.0 in
    let a = sum_by-append (one (λ d. true)) (own_vertices q) (flat_map own_vertices news) in
    let b = sum_by-cons (λ (q : Subtable). one (λ d. true) q.table.base_coverage) q news in
    by kind own rest a b
  where
    by : (kind : LookupType) → count_by (λ d. true) (own_vertices q) ≡ piece_vertices kind → added (λ d. true) news ≡ piece_links kind * length news
        → count_by (λ d. true) (flat_map own_vertices (q ∷ news)) ≡ count_by (λ d. true) (own_vertices q) + count_by (λ d. true) (flat_map own_vertices news)
        → sum_by (λ (q : Subtable). one (λ d. true) q.table.base_coverage) (q ∷ news) ≡ 1 + sum_by (λ (q : Subtable). one (λ d. true) q.table.base_coverage) news
        → added (λ d. true) (q ∷ news) ≡ piece_links kind * suc (length news)
    by MarkToBase own rest a b = omega arith
    by Extension own rest a b = omega arith

-- new tops come in between
pub more_tops : (test : ℕ → Bool) (before : List Subtable) (t kept : Subtable) (news after : List Subtable) → top_of kept ≡ top_of t
    → count_by test (map top_of (before ++ (kept ∷ (news ++ after)))) ≡ count_by test (map top_of (before ++ t ∷ after)) + count_by test (map top_of news)
more_tops test before t kept news after same =
    let a = ap (count_by test) (map-append top_of before (kept ∷ (news ++ after))) in
    let b = ap (count_by test) (map-append top_of before (t ∷ after)) in
    let c = sum_by-append (one test) (map top_of before) (map top_of (kept ∷ (news ++ after))) in
    let d = sum_by-append (one test) (map top_of before) (map top_of (t ∷ after)) in
    let e = sum_by-cons (one test) (top_of kept) (map top_of (news ++ after)) in
    let g = sum_by-cons (one test) (top_of t) (map top_of after) in
    let h = ap (count_by test) (map-append top_of news after) in
    let i = sum_by-append (one test) (map top_of news) (map top_of after) in
    let j = ap (one test) same in
    omega (arith, a, b, c, d, e, g, h, i, j)

-- a sum over subtables that looks at their contents only
pub sum_contents : (g : Contents → ℕ) (kept : Subtable) (news : List Subtable) (cs : List Contents) (whole : ℕ) → contents_of (kept ∷ news) ≡ cs → sum_by g cs ≡ whole → g kept.contents + sum_by (λ (q : Subtable). g q.contents) news ≡ whole
sum_contents g kept news cs whole same sum =
    omega (arith, sym (sum_by-cons (λ (q : Subtable). g q.contents) kept news), sym (sum_over_map g (λ (q : Subtable). q.contents) (kept ∷ news)), ap (sum_by g) same, sum)
