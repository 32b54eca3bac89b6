-- One subtable of a lookup that stands: its own vertices, and those of the others.
use Rattle.std.proofs.Common.{◌≡◌, ℕ, ◌<◌, ◌⊎◌, List, [], ◌∷◌, ◌++◌, length, Some, None, Option, sym, refl, ap, ◌∙◌, subst, inl, inr}
use Rattle.std.specs.List.{flat_map, AllByRecursion}
use Rattle.std.proofs.lemmas.List.{append_assoc}
use Rattle.serialize.specs.Objects.{Node}
use Rattle.markbase.specs.Values.{Subtable}
use Rattle.splitting.specs.Vertices.{own_vertices}
use Rattle.splitting.proofs.Members.{In, Distinct, in_left, in_right, all_in, joined_in, distinct_append}
use Rattle.splitting.proofs.Owned.{own, Owned}
use Rattle.splitting.proofs.Holding.{four_of, four_own}

-- joined over two lists
joined_parts : {X Y : Type 0} (g : X → List Y) (xs ys : List X) → flat_map g (xs ++ ys) ≡ flat_map g xs ++ flat_map g ys
joined_parts g [] ys = refl
joined_parts g (x ∷ xs) ys = ap (λ zs. g x ++ zs) (joined_parts g xs ys) ∙ sym (append_assoc (g x) (flat_map g xs) (flat_map g ys))

-- of distinct own vertices the four are distinct
four_distinct : (t : Subtable) → Distinct (own_vertices t) → Distinct (four_of t)
four_distinct t d = by t.extension d
  where
    by : (e : Option ℕ) → Distinct (elim e [ None ↦ four_of t | Some x ↦ x ∷ four_of t ]) → Distinct (four_of t)
    by None d = d
    by (Some x) d = d.1

-- and the extension is none of them
extension_apart : (t : Subtable) (e : ℕ) → t.extension ≡ Some e → Distinct (own_vertices t) → In e (four_of t) → ⊥
extension_apart t e h d = (subst (λ (o : Option ℕ). Distinct (elim o [ None ↦ four_of t | Some x ↦ x ∷ four_of t ])) h d).0

-- t, with others before and behind it
module _ (nodes : List Node) (v : ℕ) (before : List Subtable) (t : Subtable) (after : List Subtable) (o : Owned nodes v (before ++ t ∷ after)) where
  abbrev all : List ℕ
  all = flat_map own_vertices (before ++ t ∷ after)

  -- what is own of one is own of the lookup
  pub own_here : (u : Subtable) (y : ℕ) → In u (before ++ t ∷ after) → In y (own_vertices u) → In y (own v (before ++ t ∷ after))
  own_here u y i j = inr (joined_in own_vertices y u (before ++ t ∷ after) i j)

  pub t_here : In t (before ++ t ∷ after)
  t_here = in_right t before (t ∷ after) (inl refl)

  abbrev Elsewhere : Subtable → Type 0
  Elsewhere u = In u before ⊎ In u after

  pub there : (u : Subtable) → Elsewhere u → In u (before ++ t ∷ after)
  there u (inl i) = in_left u before (t ∷ after) i
  there u (inr i) = in_right u before (t ∷ after) (inr i)

  parted : Distinct (flat_map own_vertices before ++ (own_vertices t ++ flat_map own_vertices after))
  parted = subst Distinct (joined_parts own_vertices before (t ∷ after)) o.distinct.1

  abbrev front : Distinct (flat_map own_vertices before) × Distinct (own_vertices t ++ flat_map own_vertices after) × ((y : ℕ) → In y (flat_map own_vertices before) → In y (own_vertices t ++ flat_map own_vertices after) → ⊥)
  front = distinct_append (flat_map own_vertices before) (own_vertices t ++ flat_map own_vertices after) parted

  abbrev back : Distinct (own_vertices t) × Distinct (flat_map own_vertices after) × ((y : ℕ) → In y (own_vertices t) → In y (flat_map own_vertices after) → ⊥)
  back = distinct_append (own_vertices t) (flat_map own_vertices after) front.1

  -- no own vertex of another is one of t
  pub others_apart : (u : Subtable) → Elsewhere u → (y : ℕ) → In y (own_vertices u) → In y (own_vertices t) → ⊥
  others_apart u (inl i) y j k = front.2 y (joined_in own_vertices y u before i j) (in_left y (own_vertices t) (flat_map own_vertices after) k)
  others_apart u (inr i) y j k = back.2 y k (joined_in own_vertices y u after i j)

  -- none is the lookup
  pub not_lookup : (u : Subtable) (y : ℕ) → In u (before ++ t ∷ after) → In y (own_vertices u) → y ≡ v → ⊥
  not_lookup u y i j e = o.distinct.0 (joined_in own_vertices v u (before ++ t ∷ after) i (subst (λ (z : ℕ). In z (own_vertices u)) e j))

  -- t's own four and the lookup are five vertices
  pub distinct_four : Distinct (v ∷ four_of t)
  distinct_four = (λ i. not_lookup t v t_here (four_own t v i) refl, four_distinct t back.0)

  pub inside_own : (u : Subtable) → In u (before ++ t ∷ after) → (y : ℕ) → In y (own_vertices u) → y < length nodes
  inside_own u i y j = all_in y (λ z. z < length nodes) (own v (before ++ t ∷ after)) o.inside (own_here u y i j)

  pub inside_four : AllByRecursion (λ y. y < length nodes) (v ∷ four_of t)
  inside_four =
      let at : (y : ℕ) → In y (four_of t) → y < length nodes = λ y i. inside_own t t_here y (four_own t y i) in
      (o.inside.0, (at t.vertex (inl refl), (at t.table.mark_coverage (inr (inl refl)), (at t.table.mark_array (inr (inr (inl refl))), (at t.table.base_array (inr (inr (inr (inl refl)))), tt)))))

  -- the extension of t is none of its four
  pub extension_not_four : (e : ℕ) → t.extension ≡ Some e → In e (four_of t) → ⊥
  extension_not_four e h = extension_apart t e h back.0

  -- no base coverage is own
  pub cover_not_own : (u : Subtable) → In u (before ++ t ∷ after) → (In u.table.base_coverage (own v (before ++ t ∷ after)) → ⊥)
  cover_not_own u i = all_in u (λ (z : Subtable). In z.table.base_coverage (own v (before ++ t ∷ after)) → ⊥) (before ++ t ∷ after) o.covers i

  pub cover_inside : (u : Subtable) → In u (before ++ t ∷ after) → u.table.base_coverage < length nodes
  cover_inside u i = all_in u (λ (z : Subtable). z.table.base_coverage < length nodes) (before ++ t ∷ after) o.below i
