-- What stands in a list, after `map`, `kept_by` and `joined`.
use Rattle.std.proofs.Common.{◌≡◌, ℕ, zero, suc, ◌<◌, Bool, true, ◌⊎◌, List, [], ◌∷◌, ◌++◌, map, length, get_or, filter, sym, refl, ap, ◌∙◌, subst, inl, inr, ⊎_elim, arith}
use Rattle.std.specs.List.{ContainsAt as Has, flat_map}
use Rattle.std.proofs.lemmas.Bool.{cond_both, cond-true}

-- x is the first of a list, or stands behind it
abbrev pub In : {X : Type 0} → X → List X → Type 0
In x [] = ⊥
In x (y ∷ ys) = (y ≡ x) ⊎ In x ys

module _ {X : Type 0} (x : X) where
  pub in_at : (xs : List X) (d : X) (k : ℕ) → k < length xs → get_or xs k d ≡ x → In x xs
  in_at [] d k l e = absurd (omega arith)
  in_at (y ∷ xs) d zero l e = inl e
  in_at (y ∷ xs) d (suc k) l e = inr (in_at xs d k (omega arith) e)

  pub in_place : (xs : List X) (d : X) → In x xs → (k : ℕ) × (k < length xs) × (get_or xs k d ≡ x)
  in_place [] d i = absurd i
  in_place (y ∷ xs) d (inl e) = (0, omega arith, e)
  in_place (y ∷ xs) d (inr i) = let p = in_place xs d i in (suc p.0, omega (arith, p.1), p.2)

  pub in_from_has : (xs : List X) → Has xs x → In x xs
  in_from_has xs h = in_at xs x h.0 h.1 (h.2 x)

  pub has_from_in : (xs : List X) → In x xs → Has xs x
  has_from_in [] i = absurd i
  has_from_in (y ∷ xs) (inl e) = (0, omega arith, λ d. e)
  has_from_in (y ∷ xs) (inr i) = let p = has_from_in xs i in (suc p.0, omega (arith, p.1), λ d. p.2 d)

  pub in_left : (xs ys : List X) → In x xs → In x (xs ++ ys)
  in_left [] ys i = absurd i
  in_left (y ∷ xs) ys (inl e) = inl e
  in_left (y ∷ xs) ys (inr i) = inr (in_left xs ys i)

  pub in_right : (xs ys : List X) → In x ys → In x (xs ++ ys)
  in_right [] ys i = i
  in_right (y ∷ xs) ys i = inr (in_right xs ys i)

  pub in_either : (xs ys : List X) → In x (xs ++ ys) → In x xs ⊎ In x ys
  in_either [] ys i = inr i
  in_either (y ∷ xs) ys (inl e) = inl (inl e)
  in_either (y ∷ xs) ys (inr i) = ⊎_elim (λ j. inl (inr j)) (λ j. inr j) (in_either xs ys i)

  pub in_kept : (p : X → Bool) (xs : List X) → In x (filter p xs) → In x xs × (p x ≡ true)
  in_kept p [] = λ i. absurd i
  in_kept p (y ∷ xs) =
      let rest = in_kept p xs in
      cond_both (p y) (y ∷ filter p xs) (filter p xs) (λ ks. In x ks → In x (y ∷ xs) × (p x ≡ true))
      (λ t. ⊎_elim (λ e. (inl e, subst (λ (z : X). p z ≡ true) e t)) (λ i. let r = rest i in (inr r.0, r.1))) (λ t i. let r = rest i in (inr r.0, r.1))

  pub kept_in : (p : X → Bool) (xs : List X) → p x ≡ true → In x xs → In x (filter p xs)
  kept_in p [] t i = i
  kept_in p (y ∷ xs) t (inl e) = subst (In x) (sym (cond-true (p y) (y ∷ filter p xs) (filter p xs) (subst (λ (z : X). p z ≡ true) (sym e) t))) (inl e)
  kept_in p (y ∷ xs) t (inr i) =
      let rest = kept_in p xs t i in
      cond_both (p y) (y ∷ filter p xs) (filter p xs) (In x) (λ _. inr rest) (λ _. rest)

module _ {X Y : Type 0} where
  pub in_map : (f : X → Y) (y : Y) (xs : List X) → In y (map f xs) → (x : X) × In x xs × (f x ≡ y)
  in_map f y [] i = absurd i
  in_map f y (x ∷ xs) (inl e) = (x, inl refl, e)
  in_map f y (x ∷ xs) (inr i) = let r = in_map f y xs i in (r.0, inr r.1, r.2)

  pub map_in : (f : X → Y) (y : Y) (x : X) (xs : List X) → f x ≡ y → In x xs → In y (map f xs)
  map_in f y x [] e i = absurd i
  map_in f y x (z ∷ xs) e (inl d) = inl (ap f d ∙ e)
  map_in f y x (z ∷ xs) e (inr i) = inr (map_in f y x xs e i)

  pub in_joined : (f : X → List Y) (y : Y) (xs : List X) → In y (flat_map f xs) → (x : X) × In x xs × In y (f x)
  in_joined f y [] i = absurd i
  in_joined f y (x ∷ xs) i =
      ⊎_elim (λ j. (x, inl refl, j)) (λ j. let r = in_joined f y xs j in (r.0, inr r.1, r.2)) (in_either y (f x) (flat_map f xs) i)

  pub joined_in : (f : X → List Y) (y : Y) (x : X) (xs : List X) → In x xs → In y (f x) → In y (flat_map f xs)
  joined_in f y x [] i j = i
  joined_in f y x (z ∷ xs) (inl e) j = in_left y (f z) (flat_map f xs) (subst (λ (u : X). In y (f u)) (sym e) j)
  joined_in f y x (z ∷ xs) (inr i) j = in_right y (f z) (flat_map f xs) (joined_in f y x xs i j)
