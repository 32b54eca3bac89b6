-- Glyphs that ascend: one is found by its glyph after others are left out, and what is left ascends.
use Rattle.std.proofs.Common.{◌≡◌, ℕ, ◌+◌, ◌<◌, ◌≤◌, Bool, true, false, cond, eqb, ltb, List, [], ◌∷◌, map, length, Some, None, filter, Option, sym, refl, ap, ◌∙◌, arith}
use Rattle.std.proofs.lemmas.List.{length-map}
use Rattle.std.proofs.lemmas.List.Sums.{length-filter, count_by-le-length}
use Rattle.std.proofs.lemmas.Bool.{and_parts, and_from, ltb-true, lt-ltb, eqb-true, ne_eqb, cond-true, cond-false, cond_both}
use Rattle.coverage_writers.specs.Writing.{ascends, listed}
use Rattle.coverage_writers.proofs.Writes.{ascends_next}
use Rattle.coverage_writers.proofs.Runs.{ascends_parts}
use Rattle.markbase.specs.Hits.{find}

-- f of what is there, if it is
abbrev pub mapped : {X Y : Type 0} → (X → Y) → Option X → Option Y
mapped f (Some x) = Some (f x)
mapped f None = None

-- what is there, if it passes
abbrev pub filtered : {X : Type 0} → (X → Bool) → Option X → Option X
filtered p (Some x) = cond (p x) (Some x) None
filtered p None = None

ascends_weaker : (gs : List ℕ) (m low : ℕ) → low ≤ m → ascends m gs ≡ true → ascends low gs ≡ true
ascends_weaker [] m low a h = refl
ascends_weaker (g ∷ gs) m low a h = let p = ascends_parts m g gs h in ascends_next low g gs (omega arith) p.1 ∙ p.2

module _ {X : Type 0} (key : X → ℕ) where
  -- what keeps its glyph is found in the same place
  pub find_map : (f : X → X) → ((x : X) → key (f x) ≡ key x) → (xs : List X) (g : ℕ) → find key (map f xs) g ≡ mapped f (find key xs g)
  find_map f same [] g = refl
  find_map f same (x ∷ xs) g = ap (λ k. cond (eqb k g) (Some (f x)) (find key (map f xs) g)) (same x) ∙ go (eqb (key x) g) (find_map f same xs g)
    where
      go : (t : Bool) → find key (map f xs) g ≡ mapped f (find key xs g) → cond t (Some (f x)) (find key (map f xs) g) ≡ mapped f (cond t (Some x) (find key xs g))
      go true e = refl
      go false e = e

  -- below the lowest glyph there is none
  find_none : (g low : ℕ) (xs : List X) → g < low → ascends low (map key xs) ≡ true → find key xs g ≡ None
  find_none g low [] l h = refl
  find_none g low (x ∷ xs) l h =
      let p = ascends_parts low (key x) (map key xs) h in
      cond-false _ _ _ (ne_eqb (key x) g (λ e. omega (arith, p.0))) ∙ find_none g (key x + 1) xs (omega (arith, p.0)) p.2

  pub find_kept : (p : X → Bool) (xs : List X) (g low : ℕ) → ascends low (map key xs) ≡ true → find key (filter p xs) g ≡ filtered p (find key xs g)
  find_kept p [] g low h = refl
  find_kept p (x ∷ xs) g low h = go (find_kept p xs g (key x + 1) (ascends_parts low (key x) (map key xs) h).2) (p x) (eqb (key x) g) refl refl
    where
      go : find key (filter p xs) g ≡ filtered p (find key xs g) → (s t : Bool) → p x ≡ s → eqb (key x) g ≡ t
          → find key (cond s (x ∷ filter p xs) (filter p xs)) g ≡ filtered p (cond t (Some x) (find key xs g))
      go rest true true q e = cond-true _ _ _ e ∙ sym (cond-true _ _ _ q)
      go rest true false q e = cond-false _ _ _ e ∙ rest
      go rest false true q e =
          let here = eqb-true (key x) g e in
          let none = find_none g (key x + 1) xs (omega arith) (ascends_parts low (key x) (map key xs) h).2 in
          rest ∙ (ap (filtered p) none ∙ sym (cond-false _ _ _ q))
      go rest false false q e = rest

  ascends_kept : (p : X → Bool) (xs : List X) (low : ℕ) → ascends low (map key xs) ≡ true → ascends low (map key (filter p xs)) ≡ true
  ascends_kept p [] low h = refl
  ascends_kept p (x ∷ xs) low h =
      let parts = ascends_parts low (key x) (map key xs) h in
      let rest = ascends_kept p xs (key x + 1) parts.2 in
      cond_both (p x) (x ∷ filter p xs) (filter p xs) (λ ks. ascends low (map key ks) ≡ true)
      (λ _. ascends_next low (key x) (map key (filter p xs)) parts.0 parts.1 ∙ rest)
      (λ _. ascends_weaker (map key (filter p xs)) (key x + 1) low (omega (arith, parts.0)) rest)

  -- a coverage that lists some glyphs can list fewer of them
  pub listed_kept : (p : X → Bool) (xs : List X) → listed (map key xs) ≡ true → listed (map key (filter p xs)) ≡ true
  listed_kept p xs h =
      let parts = and_parts (ascends 0 (map key xs)) (ltb (length (map key xs)) 65536) h in
      let few = ltb-true (length (map key xs)) 65536 parts.1 in
      and_from _ _ (ascends_kept p xs 0 parts.0)
      (lt-ltb (length (map key (filter p xs))) 65536 (omega (arith, length-map xs key, length-map (filter p xs) key, length-filter p xs, count_by-le-length p xs)))

  pub keys_same : (f : X → X) → ((x : X) → key (f x) ≡ key x) → (xs : List X) → map key (map f xs) ≡ map key xs
  keys_same f same [] = refl
  keys_same f same (x ∷ xs) = λ i. same x i ∷ keys_same f same xs i
