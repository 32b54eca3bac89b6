-- Classes that use things: class c uses the thing f c, and a thing t has the size w t. In a run each thing counts once.
use Rattle.std.specs.Prelude.{◌≡◌, ℕ, zero, suc, ◌+◌, ◌-◌, ◌≤◌, Bool, true, false, cond, ◌==◌, refl}
use Rattle.std.proofs.Common.{sym, ap, ◌∙◌, arith}
use Rattle.std.proofs.lemmas.Bool.{eqb-true, eqb-false, eq-eqb, ne_eqb}
use Rattle.cutting.specs.Cutting.{Monotone}

module _ (f : ℕ → ℕ) where
  -- one of the n classes from a on uses the thing t
  abbrev pub uses : ℕ → ℕ → ℕ → Bool
  uses t a zero = false
  uses t a (suc n) = cond (f (a + n) == t) true (uses t a n)

  swapped : (p q r : Bool) → cond p true (cond q true r) ≡ cond q true (cond p true r)
  swapped true true r = refl
  swapped true false r = refl
  swapped false true r = refl
  swapped false false r = refl

  uses_front : (t a n : ℕ) → uses t a (suc n) ≡ cond (f a == t) true (uses t (a + 1) n)
  uses_front t a zero = let e : a + 0 ≡ a = omega arith in ap (λ x. cond (f x == t) true false) e
  uses_front t a (suc n) =
      let e : a + suc n ≡ a + 1 + n = omega arith in
      ap (λ x. cond (f x == t) true (uses t a (suc n))) e ∙ ap (λ b. cond (f (a + 1 + n) == t) true b) (uses_front t a n) ∙ swapped (f (a + 1 + n) == t) (f a == t) (uses t (a + 1) n)

module _ (f w : ℕ → ℕ) where
  -- what class c adds to the n classes from a on
  abbrev pub added : ℕ → ℕ → ℕ → ℕ
  added c a n = cond (uses f (f c) a n) 0 (w (f c))

  -- the size of what the n classes from a on use
  abbrev pub used : ℕ → ℕ → ℕ
  used a zero = 0
  used a (suc n) = used a n + added (a + n) a n

  used_front : (a n : ℕ) → used a (suc n) ≡ used (a + 1) n + added a (a + 1) n
  used_front a zero = let e : a + 0 ≡ a = omega arith in let h = ap (λ c. added c a 0) e in omega arith
  used_front a (suc n) = go (f (a + 1 + n) == f a) refl (used_front a n)
    where
      moved : added (a + suc n) a (suc n) ≡ cond (cond (f a == f (a + 1 + n)) true (uses f (f (a + 1 + n)) (a + 1) n)) 0 (w (f (a + 1 + n)))
      moved =
          let e : a + suc n ≡ a + 1 + n = omega arith in
          ap (λ c. added c a (suc n)) e ∙ ap (λ b. cond b 0 (w (f (a + 1 + n)))) (uses_front f (f (a + 1 + n)) a n)

      go : (t : Bool) → (f (a + 1 + n) == f a) ≡ t → used a (suc n) ≡ used (a + 1) n + added a (a + 1) n → used a (suc n) + added (a + suc n) a (suc n) ≡ used (a + 1) n + added (a + 1 + n) (a + 1) n + cond (cond t true (uses f (f a) (a + 1) n)) 0 (w (f a))
      go true h i =
          let s = eqb-true (f (a + 1 + n)) (f a) h in
          let m = moved ∙ ap (λ b. cond (cond b true (uses f (f (a + 1 + n)) (a + 1) n)) 0 (w (f (a + 1 + n)))) (eq-eqb (f a) (f (a + 1 + n)) (sym s)) in
          let k = ap (λ y. cond (uses f y (a + 1) n) 0 (w y)) s in
          omega arith
      go false h i =
          let m = moved ∙ ap (λ b. cond (cond b true (uses f (f (a + 1 + n)) (a + 1) n)) 0 (w (f (a + 1 + n)))) (ne_eqb (f a) (f (a + 1 + n)) (λ s. eqb-false (f (a + 1 + n)) (f a) h (sym s))) in
          omega arith

  -- fewer classes at the front, and fewer at the end, use no more
  later : (i a n : ℕ) → used (a + i) n ≤ used a (i + n)
  later zero a n =
      let p : a + 0 ≡ a = omega arith in
      let q : 0 + n ≡ n = omega arith in
      let e = ap (λ x. used x n) p in
      let h = ap (used a) q in
      omega arith
  later (suc i) a n =
      let p : a + suc i ≡ a + i + 1 = omega arith in
      let q : suc i + n ≡ i + suc n = omega arith in
      let e = ap (λ x. used x n) p in
      let h = ap (used a) q in
      let k = used_front (a + i) n in
      let l = later i a (suc n) in
      omega arith

  longer : (a n j : ℕ) → used a n ≤ used a (n + j)
  longer a n zero = let e : n + 0 ≡ n = omega arith in let h = ap (used a) e in omega arith
  longer a n (suc j) =
      let e : n + suc j ≡ suc (n + j) = omega arith in
      let h = ap (used a) e in
      let l = longer a n j in
      omega arith

  -- the size of a run
  abbrev pub sized : ℕ → ℕ → ℕ → ℕ
  sized base a b = base + used a (b - a)

  pub sized_monotone : (base : ℕ) → Monotone (sized base)
  sized_monotone base a b c d ab bc cd =
      let p : a + (b - a) ≡ b = omega arith in
      let q : b - a + (c - b) + (d - c) ≡ d - a = omega arith in
      let e = ap (λ x. used x (c - b)) p in
      let h = ap (used a) q in
      let l = later (b - a) a (c - b) in
      let m = longer a (b - a + (c - b)) (d - c) in
      omega arith
