-- The vertices that a lookup has for itself: none of them stands for two parts, and nothing else leads to them.
use Rattle.std.proofs.Common.{◌≡◌, ℕ, ◌+◌, ◌<◌, ◌≤◌, cond, eqb, ◌⊎◌, List, [], ◌∷◌, ◌++◌, map, length, Some, None, sum_by, Option, sym, refl, ap, ◌∙◌, subst, inl, inr, ⊎_elim, arith}
use Rattle.std.specs.List.{flat_map, AllByRecursion}
use Rattle.std.proofs.lemmas.List.{length-map}
use Rattle.std.proofs.lemmas.List.Sums.{sum_by-cons}
use Rattle.std.proofs.lemmas.Bool.{cases_lt}
use Rattle.serialize.specs.Objects.{Node, node_at, incoming}
use Rattle.walk.specs.Computed.{children}
use Rattle.walk.specs.Reach.{Leads, Reach, here, step}
use Rattle.fields.specs.Arrays.{present}
use Rattle.markbase.specs.declared.table.MarkBasePosFormat1.{MarkBasePosFormat1}
use Rattle.markbase.specs.Values.{Contents, Subtable}
use Rattle.lookups.specs.Tables.{Fields}
use Rattle.written.specs.Laws.{LinksLead}
use Rattle.pieces.specs.Keeping.{mark_anchors, base_anchors, anchors}
use Rattle.splitting.specs.Vertices.{top_of, own_vertices}
use Rattle.splitting.specs.Standing.{Stands}
use Rattle.splitting.proofs.Members.{In, Distinct, often, in_either, all_in, all_from_in, in_map, map_in, in_joined, joined_in, count_from_in, in_from_count, distinct_from_count, pigeonhole}
use Rattle.splitting.proofs.Tally.{sum_over_map, sum_over_joined, incoming_past, leads_from_child, child_below, parents_counted, no_parent, one_parent}
use Rattle.splitting.proofs.Parts.{Links, links_of_lem, lookup_leads}

-- the lookup's own vertices: itself, and the parts of its subtables but for the base coverages
abbrev pub own : ℕ → List Subtable → List ℕ
own v ts = v ∷ flat_map own_vertices ts

-- they are distinct, and stand apart from the base coverages and from the anchors
pub record Owned (nodes : List Node) (v : ℕ) (ts : List Subtable) : Type 0 where
  pub distinct : Distinct (own v ts)
  pub inside : AllByRecursion (λ u. u < length nodes) (own v ts)
  -- a base coverage is none of them
  pub covers : AllByRecursion (λ (t : Subtable). In t.table.base_coverage (own v ts) → ⊥) ts
  pub below : AllByRecursion (λ (t : Subtable). t.table.base_coverage < length nodes) ts
  -- nothing that an anchor reaches is one of them
  pub apart : AllByRecursion (λ (t : Subtable). (x w : ℕ) → In x (present (anchors t.contents)) → Reach nodes x w → In w (own v ts) → ⊥) ts
  pub anchored : AllByRecursion (λ (t : Subtable). AllByRecursion (λ x. x < length nodes) (present (anchors t.contents))) ts
  pub few : length ts ≤ length nodes

-- the extension of a subtable, if it has one
abbrev before : Subtable → List ℕ
before t = elim t.extension [ None ↦ [] | Some e ↦ e ∷ [] ]

-- its vertices that lead to own vertices
abbrev heads : Subtable → List ℕ
heads t = elim t.extension [ None ↦ t.vertex ∷ [] | Some e ↦ e ∷ t.vertex ∷ [] ]

-- its own vertices that do not
abbrev ends : Subtable → List ℕ
ends t = t.table.mark_coverage ∷ t.table.mark_array ∷ t.table.base_array ∷ []

-- a subtable of these parts
abbrev make : Option ℕ → ℕ → MarkBasePosFormat1 → Contents → Subtable
make e v table c = record { extension = e; vertex = v; table = table; contents = c }

-- sums over these lists
sum_before : (f : ℕ → ℕ) (e : Option ℕ) (v : ℕ) (b : MarkBasePosFormat1) (c : Contents) → sum_by f (before (make e v b c)) ≤ f (top_of (make e v b c))
sum_before f None v b c = omega arith
sum_before f (Some e) v b c = omega arith

sum_own : (f : ℕ → ℕ) (e : Option ℕ) (v : ℕ) (b : MarkBasePosFormat1) (c : Contents) → sum_by f (own_vertices (make e v b c)) ≡ sum_by f (heads (make e v b c)) + sum_by f (ends (make e v b c))
sum_own f None v b c = omega arith
sum_own f (Some e) v b c = omega arith

-- each of these lists holds own vertices only
before_own : (w : ℕ) (e : Option ℕ) (v : ℕ) (b : MarkBasePosFormat1) (c : Contents) → In w (before (make e v b c)) → In w (own_vertices (make e v b c))
before_own w None v b c i = absurd i
before_own w (Some e) v b c (inl h) = inl h
before_own w (Some e) v b c (inr i) = absurd i

heads_own : (w : ℕ) (e : Option ℕ) (v : ℕ) (b : MarkBasePosFormat1) (c : Contents) → In w (heads (make e v b c)) → In w (own_vertices (make e v b c))
heads_own w None v b c (inl h) = inl h
heads_own w None v b c (inr i) = absurd i
heads_own w (Some e) v b c (inl h) = inl h
heads_own w (Some e) v b c (inr (inl h)) = inr (inl h)
heads_own w (Some e) v b c (inr (inr i)) = absurd i

ends_own : (w : ℕ) (e : Option ℕ) (v : ℕ) (b : MarkBasePosFormat1) (c : Contents) → In w (ends (make e v b c)) → In w (own_vertices (make e v b c))
ends_own w None v b c i = inr i
ends_own w (Some e) v b c i = inr (inr i)

top_own : (e : Option ℕ) (v : ℕ) (b : MarkBasePosFormat1) (c : Contents) → In (top_of (make e v b c)) (own_vertices (make e v b c))
top_own None v b c = inl refl
top_own (Some e) v b c = inl refl

pub present_append : (xs ys : List (Option ℕ)) → present (xs ++ ys) ≡ present xs ++ present ys
present_append [] ys = refl
present_append (Some x ∷ xs) ys = ap (λ (l : List ℕ). x ∷ l) (present_append xs ys)
present_append (None ∷ xs) ys = present_append xs ys

module _ (nodes : List Node) where
  -- how often w is a child of a vertex
  abbrev held : ℕ → ℕ → ℕ
  held w u = often w (children (node_at nodes u))

  -- it is 1 where w is x
  abbrev one : ℕ → ℕ → ℕ
  one w x = cond (eqb x w) 1 0

  -- the top, and where the extension leads: the heads
  sum_heads : (w : ℕ) (e : Option ℕ) (v : ℕ) (b : MarkBasePosFormat1) (c : Contents) → Links nodes (make e v b c)
      → one w (top_of (make e v b c)) + sum_by (held w) (before (make e v b c)) ≡ often w (heads (make e v b c))
  sum_heads w None v b c l = omega arith
  sum_heads w (Some e) v b c l = omega (arith, ap (often w) (l.extended e refl))

  -- the top, and where the heads lead: all parts
  sum_parts : (w : ℕ) (e : Option ℕ) (v : ℕ) (b : MarkBasePosFormat1) (c : Contents) → Links nodes (make e v b c)
      → one w (top_of (make e v b c)) + sum_by (held w) (heads (make e v b c)) ≡ one w b.base_coverage + often w (own_vertices (make e v b c))
  sum_parts w None v b c l = omega (arith, ap (often w) l.fields)
  sum_parts w (Some e) v b c l = omega (arith, ap (often w) l.fields, ap (often w) (l.extended e refl))

  -- an own vertex of a subtable is its top, or a child of one that leads to own vertices
  parent_at : (w : ℕ) (e : Option ℕ) (v : ℕ) (b : MarkBasePosFormat1) (c : Contents) → Links nodes (make e v b c) → In w (own_vertices (make e v b c))
      → (top_of (make e v b c) ≡ w) ⊎ ((p : ℕ) × In p (heads (make e v b c)) × In w (children (node_at nodes p)))
  parent_at w None v b c l (inl h) = inl h
  parent_at w None v b c l (inr i) = inr (v, inl refl, subst (In w) (sym l.fields) (⊎_elim (λ h. inl h) (λ j. inr (inr j)) i))
  parent_at w (Some e) v b c l (inl h) = inl h
  parent_at w (Some e) v b c l (inr (inl h)) = inr (e, inl refl, subst (In w) (sym (l.extended e refl)) (inl h))
  parent_at w (Some e) v b c l (inr (inr i)) = inr (v, inr (inl refl), subst (In w) (sym l.fields) (⊎_elim (λ h. inl h) (λ j. inr (inr j)) i))

  -- an anchor is a child of one of the arrays
  array_at : (t : Subtable) → Links nodes t → (x : ℕ) → In x (present (anchors t.contents)) → (a : ℕ) × In a (ends t) × Leads nodes a x
  array_at t l x i =
      let c = t.contents in
      let j : In x (present (mark_anchors c) ++ present (base_anchors c)) = subst (In x) (present_append (mark_anchors c) (base_anchors c)) i in
      ⊎_elim (λ k. (t.table.mark_array, inr (inl refl), leads_from_child nodes t.table.mark_array x (subst (In x) (sym l.mark_records) k)))
      (λ k. (t.table.base_array, inr (inr (inl refl)), leads_from_child nodes t.table.base_array x (subst (In x) (sym l.base_rows) k)))
      (in_either x (present (mark_anchors c)) (present (base_anchors c)) j)

sum_add : {X : Type 0} (f g h : X → ℕ) (xs : List X) → ((x : X) → In x xs → f x + g x ≡ h x) → sum_by f xs + sum_by g xs ≡ sum_by h xs
sum_add f g h [] e = refl
sum_add f g h (x ∷ xs) e = omega (arith, sum_by-cons f x xs, sum_by-cons g x xs, sum_by-cons h x xs, e x (inl refl), sum_add f g h xs (λ y i. e y (inr i)))

sum_below : {X : Type 0} (f g : X → ℕ) (xs : List X) → ((x : X) → f x ≤ g x) → sum_by f xs ≤ sum_by g xs
sum_below f g [] e = omega arith
sum_below f g (x ∷ xs) e = omega (arith, sum_by-cons f x xs, sum_by-cons g x xs, e x, sum_below f g xs e)

-- if each element stands there once at most, none is repeated
once_distinct : (xs : List ℕ) → ((w : ℕ) → In w xs → often w xs ≤ 1) → Distinct xs
once_distinct xs h = distinct_from_count xs (λ w. ⊎_elim (λ l. h w (in_from_count w xs (omega arith))) (λ l. l) (cases_lt 1 (often w xs)))

module _ (lead : LinksLead) {nodes : List Node} {v : ℕ} {f : Fields} {ts : List Subtable} (s : Stands nodes v f ts) where
  -- each of a list is led to as often as it stands there
  abbrev Led : List ℕ → Type 0
  Led xs = (w : ℕ) → often w xs ≤ incoming nodes w

  -- then they are vertices, and distinct if one link at most leads to each
  led_inside : (xs : List ℕ) → Led xs → AllByRecursion (λ u. u < length nodes) xs
  led_inside xs l =
      all_from_in (λ u. u < length nodes) xs (λ w i. ⊎_elim (λ h. h) (λ h. absurd (omega (arith, count_from_in w xs i, l w, incoming_past nodes s.sound w h))) (cases_lt w (length nodes)))

  led_distinct : (xs : List ℕ) → Led xs → ((w : ℕ) → In w xs → incoming nodes w ≤ 1) → Distinct (v ∷ xs)
  led_distinct xs l h =
      let not : In v xs → ⊥ = λ i. omega (arith, count_from_in v xs i, l v, s.root) in
      (not, once_distinct xs (λ w i. omega (arith, l w, h w i)))

  -- one step down: the lookup and some vertices of the subtables lead to others
  led_on : (g h : Subtable → List ℕ) → ((w : ℕ) (t : Subtable) → In t ts → one nodes w (top_of t) + sum_by (held nodes w) (g t) ≡ often w (h t))
      → Distinct (v ∷ flat_map g ts) → Led (flat_map g ts) → Led (flat_map h ts)
  led_on g h per d l w =
      omega (
        arith,
        parents_counted nodes w (v ∷ flat_map g ts) d (s.here, led_inside (flat_map g ts) l),
        sum_by-cons (held nodes w) v (flat_map g ts),
        ap (often w) (lookup_leads lead s),
        sum_over_map (one nodes w) top_of ts,
        sum_over_joined (held nodes w) g ts,
        sum_over_joined (one nodes w) h ts,
        sum_add (λ (t : Subtable). one nodes w (top_of t)) (λ (t : Subtable). sum_by (held nodes w) (g t)) (λ (t : Subtable). often w (h t)) ts (per w),
      )

  -- of a subtable of the lookup
  links_at_lem : (t : Subtable) → In t ts → Links nodes t
  links_at_lem t i = all_in t (Links nodes) ts (links_of_lem lead s) i

  once_at : (t : Subtable) → In t ts → (w : ℕ) → In w (own_vertices t) → incoming nodes w ≤ 1
  once_at t i w j = all_in w (λ u. incoming nodes u ≤ 1) (own_vertices t) (all_in t (λ (x : Subtable). AllByRecursion (λ u. incoming nodes u ≤ 1) (own_vertices x)) ts s.once i) j

  once_in : (g : Subtable → List ℕ) → ((w : ℕ) (t : Subtable) → In w (g t) → In w (own_vertices t)) → (w : ℕ) → In w (flat_map g ts) → incoming nodes w ≤ 1
  once_in g h w i = let r = in_joined g w ts i in once_at r.0 r.1 w (h w r.0 r.2)

  -- the tops, and of them the extensions
  led_tops : Led (map top_of ts)
  led_tops w = omega (arith, parents_counted nodes w (v ∷ []) (λ j. j, tt) (s.here, tt), ap (often w) (lookup_leads lead s))

  led_before : Led (flat_map before ts)
  led_before w =
      omega (
        arith,
        led_tops w,
        sum_over_map (one nodes w) top_of ts,
        sum_over_joined (one nodes w) before ts,
        sum_below (λ (t : Subtable). often w (before t)) (λ (t : Subtable). one nodes w (top_of t)) ts (λ t. sum_before (one nodes w) t.extension t.vertex t.table t.contents),
      )

  -- the extensions and the subtables
  led_heads : Led (flat_map heads ts)
  led_heads =
      led_on before heads (λ w t i. sum_heads nodes w t.extension t.vertex t.table t.contents (links_at_lem t i))
      (led_distinct (flat_map before ts) led_before (once_in before (λ w t. before_own w t.extension t.vertex t.table t.contents))) led_before

  -- all parts
  abbrev all_parts : Subtable → List ℕ
  all_parts t = t.table.base_coverage ∷ own_vertices t

  led_all : Led (flat_map all_parts ts)
  led_all =
      led_on heads all_parts
      (λ w t i. sum_parts nodes w t.extension t.vertex t.table t.contents (links_at_lem t i) ∙ sym (sum_by-cons (one nodes w) t.table.base_coverage (own_vertices t)))
      (led_distinct (flat_map heads ts) led_heads (once_in heads (λ w t. heads_own w t.extension t.vertex t.table t.contents))) led_heads

  abbrev covering : List ℕ
  covering = map (λ (t : Subtable). t.table.base_coverage) ts

  -- own vertices and base coverages together
  led_both : (w : ℕ) → often w covering + often w (flat_map own_vertices ts) ≤ incoming nodes w
  led_both w =
      omega (
        arith,
        led_all w,
        sum_over_joined (one nodes w) all_parts ts,
        sum_over_joined (one nodes w) own_vertices ts,
        sum_over_map (one nodes w) (λ (t : Subtable). t.table.base_coverage) ts,
        sum_add (λ (t : Subtable). one nodes w t.table.base_coverage) (λ (t : Subtable). often w (own_vertices t)) (λ (t : Subtable). often w (all_parts t)) ts
            (λ t i. sym (sum_by-cons (one nodes w) t.table.base_coverage (own_vertices t))),
      )

  -- heads and ends together
  led_split : (w : ℕ) → often w (flat_map heads ts) + often w (flat_map ends ts) ≤ incoming nodes w
  led_split w =
      omega (
        arith,
        led_both w,
        sum_over_joined (one nodes w) own_vertices ts,
        sum_over_joined (one nodes w) heads ts,
        sum_over_joined (one nodes w) ends ts,
        sum_add (λ (t : Subtable). often w (heads t)) (λ (t : Subtable). often w (ends t)) (λ (t : Subtable). often w (own_vertices t)) ts
            (λ t i. sym (sum_own (one nodes w) t.extension t.vertex t.table t.contents)),
      )

  -- the own vertices alone
  led_own : Led (flat_map own_vertices ts)
  led_own w = omega (arith, led_both w)

  -- what leads to an own vertex is the lookup, an extension or a subtable
  heads_only : (u w : ℕ) → Leads nodes u w → In w (own v ts) → In u (v ∷ flat_map heads ts)
  heads_only u w h (inl e) = absurd (no_parent nodes u w (subst (λ (x : ℕ). incoming nodes x ≡ 0) e s.root) h)
  heads_only u w h (inr i) =
      let r = in_joined own_vertices w ts i in
      let t = r.0 in
      let same : (p : ℕ) → In w (children (node_at nodes p)) → p ≡ u = λ p j. one_parent nodes p u w (once_at t r.1 w r.2) (leads_from_child nodes p w j) h in
      ⊎_elim (λ e. inl (same v (subst (In w) (sym (lookup_leads lead s)) (map_in top_of w t ts e r.1))))
      (λ q. inr (subst (λ (x : ℕ). In x (flat_map heads ts)) (same q.0 q.2) (joined_in heads q.0 t ts r.1 q.1)))
      (parent_at nodes w t.extension t.vertex t.table t.contents (links_at_lem t r.1) r.2)

  heads_are_own : (u : ℕ) → In u (v ∷ flat_map heads ts) → In u (own v ts)
  heads_are_own u (inl e) = inl e
  heads_are_own u (inr i) = let r = in_joined heads u ts i in inr (joined_in own_vertices u r.0 ts r.1 (heads_own u r.0.extension r.0.vertex r.0.table r.0.contents r.2))

  -- only own vertices reach own vertices
  pub reach_own : (x w : ℕ) → Reach nodes x w → In w (own v ts) → In x (own v ts)
  reach_own x w here i = i
  reach_own x w (step {v = y} l r) i = heads_are_own x (heads_only x y l (reach_own y w r i))

  own_distinct : Distinct (own v ts)
  own_distinct = led_distinct (flat_map own_vertices ts) led_own (once_in own_vertices (λ w t i. i))

  -- a mark coverage or an array is none of those that lead to own vertices
  end_no_head : (t : Subtable) → In t ts → (a : ℕ) → In a (ends t) → In a (v ∷ flat_map heads ts) → ⊥
  end_no_head t i a j (inl e) =
      own_distinct.0 (joined_in own_vertices v t ts i (subst (λ (x : ℕ). In x (own_vertices t)) (sym e) (ends_own a t.extension t.vertex t.table t.contents j)))
  end_no_head t i a j (inr k) =
      omega (arith, led_split a, count_from_in a (flat_map heads ts) k, count_from_in a (flat_map ends ts) (joined_in ends a t ts i j), once_at t i a (ends_own a t.extension t.vertex t.table t.contents j))

  own_apart : (t : Subtable) → In t ts → (x w : ℕ) → In x (present (anchors t.contents)) → Reach nodes x w → In w (own v ts) → ⊥
  own_apart t i x w j r k = let a = array_at nodes t (links_at_lem t i) x j in end_no_head t i a.0 a.1 (heads_only a.0 x a.2 (reach_own x w r k))

  -- a base coverage is none of the own vertices: it would be counted twice
  cover_in : (t : Subtable) → In t ts → In t.table.base_coverage covering
  cover_in t i = map_in (λ (x : Subtable). x.table.base_coverage) t.table.base_coverage t ts refl i

  cover_apart : (t : Subtable) → In t ts → In t.table.base_coverage (own v ts) → ⊥
  cover_apart t i (inl e) = let b = t.table.base_coverage in omega (arith, count_from_in b covering (cover_in t i), led_both b, s.root, ap (incoming nodes) e)
  cover_apart t i (inr k) =
      let b = t.table.base_coverage in
      omega (arith, count_from_in b covering (cover_in t i), count_from_in b (flat_map own_vertices ts) k, led_both b, once_in own_vertices (λ w x j. j) b k)

  tops_distinct : Distinct (map top_of ts)
  tops_distinct =
      (led_distinct (map top_of ts) led_tops
      (λ w i. let r = in_map top_of w ts i in let t = r.0 in once_at t r.1 w (subst (λ (x : ℕ). In x (own_vertices t)) r.2 (top_own t.extension t.vertex t.table t.contents)))).1

  -- a lookup that stands has its own vertices for itself
  pub owned : Owned nodes v ts
  owned = record {
    distinct = own_distinct;
    inside = (s.here, led_inside (flat_map own_vertices ts) led_own);
    covers = all_from_in _ ts cover_apart;
    below = all_from_in _ ts (λ t i. all_in t.table.base_coverage (λ u. u < length nodes) covering (led_inside covering (λ w. omega (arith, led_both w))) (cover_in t i));
    apart = all_from_in _ ts own_apart;
    anchored = all_from_in _ ts (λ t i. all_from_in _ (present (anchors t.contents)) (λ x j. let a = array_at nodes t (links_at_lem t i) x j in child_below nodes s.sound a.0 x a.2));
    few = omega (arith, length-map ts top_of, pigeonhole (length nodes) (map top_of ts) tops_distinct (led_inside (map top_of ts) led_tops));
  }
