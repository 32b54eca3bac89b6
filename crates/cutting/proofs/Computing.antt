-- The computed cutting is the greedy one.
use Rattle.std.proofs.Common.{◌≡◌, ℕ, zero, suc, ◌+◌, ◌-◌, ◌<◌, ◌≤◌, Bool, true, false, leb, List, [], ◌∷◌, Some, None, Ok, Err, Option, Result, sym, refl, ap, ◌∙◌, subst, arith}
use native.Mathlib.Decide.{dec_le}
use Rattle.std.proofs.lemmas.Bool.{leb-true, leb-false}
use Rattle.cutting.specs.Cutting.{Greedy, Monotone, EachFits, LowestExceeds, NoneFits}
use Rattle.cutting.specs.Computed.{exceeding, places, unless, greedy_cuts, Agrees}
use Rattle.cutting.proofs.Theory.{theory, alone, in_front}

module _ (size : ℕ → ℕ → ℕ) (r : ℕ) where
  -- what is found among the n classes from c on
  abbrev Found : ℕ → ℕ → Option ℕ → Type 0
  Found n c (Some x) = (c ≤ x) × (x < c + n) × (r < size x (x + 1)) × ((y : ℕ) → c ≤ y → y < x → size y (y + 1) ≤ r)
  Found n c None = (y : ℕ) → c ≤ y → y < c + n → size y (y + 1) ≤ r

  -- a class that fits is passed, whatever holds of the classes after it
  passed : (c : ℕ) → size c (c + 1) ≤ r → (P : ℕ → Type 0) → ((y : ℕ) → c + 1 ≤ y → P y → size y (y + 1) ≤ r) → (y : ℕ) → c ≤ y → P y → size y (y + 1) ≤ r
  passed c fit P f y l p = elim (dec_le (c + 1) y) [ yes b ↦ f y b p | no b ↦ let e : c ≡ y = omega arith in subst (λ (z : ℕ). size z (z + 1) ≤ r) e fit ]

  found_more : (n c : ℕ) → size c (c + 1) ≤ r → (o : Option ℕ) → Found n (c + 1) o → Found (suc n) c o
  found_more n c fit (Some x) f = (omega (arith, f.0), omega (arith, f.1), f.2, passed c fit (λ y. y < x) f.3)
  found_more n c fit None f = passed c fit (λ y. y < c + suc n) (λ y l h. f y l (omega arith))

  found : (n c : ℕ) → Found n c (exceeding size r n c)
  found zero c = λ y l h. absurd (omega arith)
  found (suc n) c = go (leb (size c (c + 1)) r) refl (found n (c + 1))
    where
      go : (t : Bool) → leb (size c (c + 1)) r ≡ t → Found n (c + 1) (exceeding size r n (c + 1)) → Found (suc n) c (elim t [ true ↦ exceeding size r n (c + 1) | false ↦ Some c ])
      go true e f = found_more n c (leb-true (size c (c + 1)) r e) (exceeding size r n (c + 1)) f
      go false e f = (omega arith, omega arith, leb-false (size c (c + 1)) r e, λ y l h. absurd (omega arith))

  places_greedy : (k : ℕ) → EachFits size r k → (n a b : ℕ) → b + n ≡ k → a < b → size a b ≤ r → Greedy size r a k (places size r n a b)
  places_greedy k each zero a b e ab fit = let bk : b ≡ k = omega arith in subst (λ (x : ℕ). Greedy size r a x []) bk (alone ab fit)
  places_greedy k each (suc n) a b e ab fit =
      go (leb (size a (b + 1)) r) refl (λ more. places_greedy k each n a (b + 1) (omega arith) (omega arith) more) (places_greedy k each n b (b + 1) (omega arith) (omega arith) (each b (omega arith)))
    where
      go : (t : Bool) → leb (size a (b + 1)) r ≡ t → (size a (b + 1) ≤ r → Greedy size r a k (places size r n a (b + 1))) → Greedy size r b k (places size r n b (b + 1))
          → Greedy size r a k (elim t [ true ↦ places size r n a (b + 1) | false ↦ b ∷ places size r n b (b + 1) ])
      go true d longer rest = longer (leb-true (size a (b + 1)) r d)
      go false d longer rest = in_front ab fit (leb-false (size a (b + 1)) r d) rest

  -- two classes that are the lowest are the same
  one_lowest : {k c d : ℕ} → LowestExceeds size r k c → LowestExceeds size r k d → c ≡ d
  one_lowest {k} {c} {d} p q =
      elim (dec_le c d) [
        | yes h ↦ elim (dec_le d c) [ yes i ↦ omega arith | no i ↦ let f = q.lowest c (omega arith) in absurd (omega (arith, p.exceeds)) ]
        | no h ↦ let f = p.lowest d (omega arith) in absurd (omega (arith, q.exceeds))
      ]

  agrees_by : Monotone size → (k : ℕ) → 0 < k → (o : Option ℕ) → Found k 0 o → exceeding size r k 0 ≡ o → Agrees size r k
  agrees_by mono k pos (Some c) f e =
      let is : greedy_cuts size r k ≡ Err c = ap (λ o. unless o (places size r (k - 1) 0 1)) e in
      let low : LowestExceeds size r k c = record { within = omega (arith, f.1); exceeds = f.2; lowest = λ x h. f.3 x (omega arith) h } in
      let none : NoneFits size r k = (theory size mono).refused r k c low.within f.2 in
      record {
        done = λ ps h. let z : ◌≡◌ {A = Result (List ℕ) ℕ} (Err c) (Ok ps) = sym is ∙ h in let y : ◌≡◌ {A = ℕ} 0 1 = cc in absurd (omega arith);
        is_done = λ ps h. absurd (none ps h.cuts h.fits);
        refused = λ d h. let z : ◌≡◌ {A = Result (List ℕ) ℕ} (Err c) (Err d) = sym is ∙ h in let same : c ≡ d = cc in subst (LowestExceeds size r k) same low;
        is_refused = λ d h. is ∙ ap Err (one_lowest low h);
      }
  agrees_by mono k pos None f e =
      let ps = places size r (k - 1) 0 1 in
      let is : greedy_cuts size r k ≡ Ok ps = ap (λ o. unless o ps) e in
      let g : Greedy size r 0 k ps = places_greedy k (λ c l. f c (omega arith) (omega arith)) (k - 1) 0 1 (omega arith) (omega arith) (f 0 (omega arith) (omega arith)) in
      record {
        done = λ qs h. let z : ◌≡◌ {A = Result (List ℕ) ℕ} (Ok ps) (Ok qs) = sym is ∙ h in let same : ps ≡ qs = cc in subst (Greedy size r 0 k) same g;
        is_done = λ qs h. is ∙ ap Ok ((theory size mono).only r k ps qs g h);
        refused = λ c h. let z : ◌≡◌ {A = Result (List ℕ) ℕ} (Ok ps) (Err c) = sym is ∙ h in let y : ◌≡◌ {A = ℕ} 0 1 = cc in absurd (omega arith);
        is_refused = λ c h. let i = f c (omega arith) (omega (arith, h.within)) in absurd (omega (arith, h.exceeds));
      }

pub agrees : (size : ℕ → ℕ → ℕ) → Monotone size → (r k : ℕ) → 0 < k → Agrees size r k
agrees size mono r k pos = agrees_by size r mono k pos (exceeding size r k 0) (found size r k 0) refl
