-- Membership of lists, and lists without repetition.
use Rattle.std.proofs.Common.{◌≡◌, ℕ, zero, suc, ◌+◌, ◌<◌, ◌≤◌, Bool, cond, eqb, ◌⊎◌, List, [], ◌∷◌, ◌++◌, map, length, get_or, set, replicate, sum_by, count_by, sym, refl, ap, ◌∙◌, subst, inl, inr, ⊎_elim, arith}
use Rattle.std.specs.List.{ContainsAt as Has, flat_map, AllByRecursion}
use Rattle.std.proofs.lemmas.List.{length-set, length-replicate, get_or-set_other, get_or-replicate}
use Rattle.std.proofs.ByRecursion.{All-from_get_or, sum_by_le}
use Rattle.std.proofs.lemmas.List.Sums.{sum_by-cons, sum_by-set}
use Rattle.std.proofs.lemmas.Bool.{cases_eq, eq-eqb, ne_eqb}

-- x is an element
abbrev pub In : {X : Type 0} → X → List X → Type 0
In x [] = ⊥
In x (y ∷ ys) = (y ≡ x) ⊎ In x ys

-- no element stands there twice
abbrev pub Distinct : List ℕ → Type 0
Distinct [] = Unit {0}
Distinct (x ∷ xs) = (In x xs → ⊥) × Distinct xs

module _ {X : Type 0} (x : X) where
  pub in_left : (xs ys : List X) → In x xs → In x (xs ++ ys)
  in_left [] ys i = absurd i
  in_left (y ∷ xs) ys (inl e) = inl e
  in_left (y ∷ xs) ys (inr i) = inr (in_left xs ys i)

  pub in_right : (xs ys : List X) → In x ys → In x (xs ++ ys)
  in_right [] ys i = i
  in_right (y ∷ xs) ys i = inr (in_right xs ys i)

  pub in_either : (xs ys : List X) → In x (xs ++ ys) → In x xs ⊎ In x ys
  in_either [] ys i = inr i
  in_either (y ∷ xs) ys (inl e) = inl (inl e)
  in_either (y ∷ xs) ys (inr i) = ⊎_elim (λ j. inl (inr j)) (λ j. inr j) (in_either xs ys i)

  -- the place of an element
  pub in_place : (xs : List X) (d : X) → In x xs → (c : ℕ) × (c < length xs) × (get_or xs c d ≡ x)
  in_place [] d i = absurd i
  in_place (y ∷ xs) d (inl e) = (0, omega arith, e)
  in_place (y ∷ xs) d (inr i) = let p = in_place xs d i in (suc p.0, omega (arith, p.1), p.2)

  pub in_at : (xs : List X) (d : X) (c : ℕ) → c < length xs → get_or xs c d ≡ x → In x xs
  in_at [] d c l e = absurd (omega arith)
  in_at (y ∷ xs) d zero l e = inl e
  in_at (y ∷ xs) d (suc c) l e = inr (in_at xs d c (omega arith) e)

  -- the same by places
  pub in_has : (xs : List X) → In x xs → Has xs x
  in_has [] i = absurd i
  in_has (y ∷ xs) (inl e) = (0, omega arith, λ d. e)
  in_has (y ∷ xs) (inr i) = let p = in_has xs i in (suc p.0, omega (arith, p.1), λ d. p.2 d)

  pub has_in : (xs : List X) → Has xs x → In x xs
  has_in xs h = in_at xs x h.0 h.1 (h.2 x)

  -- what holds of all elements holds of this one
  pub all_in : (P : X → Type 0) (xs : List X) → AllByRecursion P xs → In x xs → P x
  all_in P [] h i = absurd i
  all_in P (y ∷ xs) h (inl e) = subst P e h.0
  all_in P (y ∷ xs) h (inr i) = all_in P xs h.1 i

-- what holds of whatever is an element holds of all
pub all_from_in : {X : Type 0} (P : X → Type 0) (xs : List X) → ((x : X) → In x xs → P x) → AllByRecursion P xs
all_from_in P [] h = tt
all_from_in P (x ∷ xs) h = (h x (inl refl), all_from_in P xs (λ y i. h y (inr i)))

module _ {X Y : Type 0} where
  pub in_map : (f : X → Y) (y : Y) (xs : List X) → In y (map f xs) → (x : X) × In x xs × (f x ≡ y)
  in_map f y [] i = absurd i
  in_map f y (x ∷ xs) (inl e) = (x, inl refl, e)
  in_map f y (x ∷ xs) (inr i) = let r = in_map f y xs i in (r.0, inr r.1, r.2)

  pub map_in : (f : X → Y) (y : Y) (x : X) (xs : List X) → f x ≡ y → In x xs → In y (map f xs)
  map_in f y x [] e i = absurd i
  map_in f y x (z ∷ xs) e (inl d) = inl (ap f d ∙ e)
  map_in f y x (z ∷ xs) e (inr i) = inr (map_in f y x xs e i)

  pub in_joined : (f : X → List Y) (y : Y) (xs : List X) → In y (flat_map f xs) → (x : X) × In x xs × In y (f x)
  in_joined f y [] i = absurd i
  in_joined f y (x ∷ xs) i =
      ⊎_elim (λ j. (x, inl refl, j)) (λ j. let r = in_joined f y xs j in (r.0, inr r.1, r.2)) (in_either y (f x) (flat_map f xs) i)

  pub joined_in : (f : X → List Y) (y : Y) (x : X) (xs : List X) → In x xs → In y (f x) → In y (flat_map f xs)
  joined_in f y x [] i j = i
  joined_in f y x (z ∷ xs) (inl e) j = in_left y (f z) (flat_map f xs) (subst (λ (u : X). In y (f u)) (sym e) j)
  joined_in f y x (z ∷ xs) (inr i) j = in_right y (f z) (flat_map f xs) (joined_in f y x xs i j)

-- two lists behind each other repeat nothing if neither does, and if they have no element in common
pub distinct_append : (xs ys : List ℕ) → Distinct (xs ++ ys) → Distinct xs × Distinct ys × ((x : ℕ) → In x xs → In x ys → ⊥)
distinct_append [] ys d = (tt, d, λ x i j. i)
distinct_append (y ∷ xs) ys d =
    let r = distinct_append xs ys d.1 in
    let here : In y xs → ⊥ = λ i. d.0 (in_left y xs ys i) in
    let apart : (x : ℕ) → In x (y ∷ xs) → In x ys → ⊥ =
    λ x i j. ⊎_elim (λ e. d.0 (in_right y xs ys (subst (λ (z : ℕ). In z ys) (sym e) j))) (λ k. r.2 x k j) i in
    ((here, r.0), r.1, apart)

pub append_distinct : (xs ys : List ℕ) → Distinct xs → Distinct ys → ((x : ℕ) → In x xs → In x ys → ⊥) → Distinct (xs ++ ys)
append_distinct [] ys d e apart = e
append_distinct (x ∷ xs) ys d e apart =
    let here : In x (xs ++ ys) → ⊥ = λ i. ⊎_elim d.0 (apart x (inl refl)) (in_either x xs ys i) in
    (here, append_distinct xs ys d.1 e (λ y i j. apart y (inr i) j))

-- how often w stands in a list
abbrev pub often : ℕ → List ℕ → ℕ
often w xs = count_by (λ c. eqb c w) xs

count_here : (w x : ℕ) (xs : List ℕ) → x ≡ w → often w (x ∷ xs) ≡ 1 + often w xs
count_here w x xs e = sum_by-cons (λ c. cond (eqb c w) 1 0) x xs ∙ ap (λ (b : Bool). cond b 1 0 + often w xs) (eq-eqb x w e)

count_there : (w x : ℕ) (xs : List ℕ) → often w xs ≤ often w (x ∷ xs)
count_there w x xs = omega (arith, sum_by-cons (λ c. cond (eqb c w) 1 0) x xs)

-- an element is counted
pub count_from_in : (w : ℕ) (xs : List ℕ) → In w xs → 1 ≤ count_by (λ c. eqb c w) xs
count_from_in w [] i = absurd i
count_from_in w (x ∷ xs) (inl e) = omega (arith, count_here w x xs e)
count_from_in w (x ∷ xs) (inr i) = omega (arith, count_from_in w xs i, count_there w x xs)

-- what is counted is an element
pub in_from_count : (w : ℕ) (xs : List ℕ) → 1 ≤ count_by (λ c. eqb c w) xs → In w xs
in_from_count w [] h = absurd (omega arith)
in_from_count w (x ∷ xs) h =
    let there : (x ≡ w → ⊥) → In w xs = λ ne. in_from_count w xs (omega (arith, h, sum_by-cons (λ c. cond (eqb c w) 1 0) x xs, ap (λ (b : Bool). cond {A = ℕ} b 1 0) (ne_eqb x w ne))) in
    ⊎_elim (λ e. inl e) (λ ne. inr (there ne)) (cases_eq x w)

pub distinct_from_count : (xs : List ℕ) → ((w : ℕ) → count_by (λ c. eqb c w) xs ≤ 1) → Distinct xs
distinct_from_count [] h = tt
distinct_from_count (x ∷ xs) h =
    let here : In x xs → ⊥ = λ i. omega (arith, h x, count_from_in x xs i, count_here x x xs refl) in
    (here, distinct_from_count xs (λ w. omega (arith, h w, count_there w x xs)))

-- sums of functions that agree on the elements
pub sum_same : {X : Type 0} (f g : X → ℕ) (xs : List X) → ((x : X) → In x xs → f x ≡ g x) → sum_by f xs ≡ sum_by g xs
sum_same f g [] h = refl
sum_same f g (x ∷ xs) h = omega (arith, sum_by-cons f x xs, sum_by-cons g x xs, h x (inl refl), sum_same f g xs (λ y i. h y (inr i)))

-- what stands at distinct places sums up to no more than the whole
pub sum_chosen : {X : Type 0} (f : X → ℕ) (d : X) → f d ≡ 0 → (xs : List X) (us : List ℕ) → Distinct us → AllByRecursion (λ u. u < length xs) us → sum_by (λ u. f (get_or xs u d)) us ≤ sum_by f xs
sum_chosen f d z xs [] a b = omega arith
sum_chosen {X} f d z xs (u ∷ us) a b =
    let xs' = set xs u d in
    let at : List X → ℕ → ℕ = λ ys w. f (get_or ys w d) in
    let same : sum_by (at xs) us ≡ sum_by (at xs') us = sum_same (at xs) (at xs') us (λ w i. ap f (sym (get_or-set_other xs u w d d (λ e. a.0 (subst (λ (k : ℕ). In k us) e i))))) in
    let rest = sum_chosen f d z xs' us a.1 (subst (λ (n : ℕ). AllByRecursion (λ w. w < n) us) (sym (length-set xs u d)) b.1) in
    omega (arith, sum_by-cons (at xs) u us, sum_by-set f xs u d d b.0)

sum_ones : {X : Type 0} (xs : List X) → sum_by (λ (x : X). 1) xs ≡ length xs
sum_ones [] = refl
sum_ones {X} (x ∷ xs) = omega (arith, sum_by-cons (λ (y : X). 1) x xs, sum_ones xs)

-- distinct numbers below n are n at most
pub pigeonhole : (n : ℕ) (xs : List ℕ) → Distinct xs → AllByRecursion (λ x. x < n) xs → length xs ≤ n
pigeonhole n xs a b =
    let ones : List ℕ = replicate n 1 in
    let long : length ones ≡ n = length-replicate n 1 in
    let chosen = sum_chosen (λ (x : ℕ). x) 0 refl ones xs a (subst (λ (m : ℕ). AllByRecursion (λ w. w < m) xs) (sym long) b) in
    let each = sum_same (λ u. get_or ones u 0) (λ u. 1) xs (λ u i. get_or-replicate n u 1 0 (all_in u (λ x. x < n) xs b i)) in
    let small = sum_by_le (λ (x : ℕ). x) 1 ones (All-from_get_or (λ x. x ≤ 1) ones 1 (λ i h. let e : get_or ones i 1 ≡ 1 = get_or-replicate n i 1 1 (omega arith) in omega arith)) in
    omega (arith, sum_ones xs)
