-- The laws of greedy cuttings.
use Rattle.std.proofs.Common.{◌≡◌, ℕ, zero, suc, ◌+◌, ◌-◌, ◌<◌, ◌≤◌, ◌⊎◌, List, [], ◌∷◌, length, refl, inl, inr, arith, below_more}
use native.Mathlib.Decide.{dec_le, dec_lt}
use Rattle.cutting.specs.Cutting.{Runs, Cutting, Fits, Longest, Greedy, Monotone, Exceeds, EachFits, LowestExceeds}
use Rattle.cutting.specs.Shortest.{OneRun, Laws}

-- a cutting ends past where it begins
before_end : (a k : ℕ) (ps : List ℕ) → Cutting a k ps → a < k
before_end a k [] h = h
before_end a k (p ∷ ps) h = let i = before_end p k ps h.1 in omega arith

-- one run is a greedy cutting if it fits
pub alone : {size : ℕ → ℕ → ℕ} {r a k : ℕ} → a < k → size a k ≤ r → Greedy size r a k []
alone ak fit = record { cuts = ak; fits = fit; longest = λ h. absurd (omega arith) }

-- a run in front that fits, and does not with one class more
pub in_front : {size : ℕ → ℕ → ℕ} {r a p k : ℕ} {ps : List ℕ} → a < p → size a p ≤ r → r < size a (p + 1) → Greedy size r p k ps → Greedy size r a k (p ∷ ps)
in_front ap fit over g = record { cuts = (ap, g.cuts); fits = (fit, g.fits); longest = (λ _. over, g.longest) }

-- the cutting after the first run
behind : {size : ℕ → ℕ → ℕ} {r a p k : ℕ} {ps : List ℕ} → Greedy size r a k (p ∷ ps) → Greedy size r p k ps
behind g = record { cuts = g.cuts.1; fits = g.fits.1; longest = g.longest.1 }

module _ (size : ℕ → ℕ → ℕ) (mono : Monotone size) where
  -- a run that begins no later than a longest one and ends past it does not fit
  past : (r a k p : ℕ) (ps : List ℕ) → Cutting a k (p ∷ ps) → Longest size r a k (p ∷ ps) → (b y : ℕ) → b ≤ a → p < y → r < size b y
  past r a k p ps cut long b y ba py =
      let w = long.0 (before_end p k ps cut.1) in
      let m = mono b a (p + 1) y ba (omega arith) (omega arith) in
      omega arith

  -- of a cutting into longest runs and one that fits and begins no later, the first has no more runs
  ahead :
      (r s k : ℕ) → r ≤ s → (ps qs : List ℕ) (a b : ℕ) → b ≤ a → Cutting a k ps → Longest size s a k ps → Cutting b k qs → Fits size r b k qs → length ps ≤ length qs
  ahead r s k le [] qs a b ba cut long cut' fit = omega arith
  ahead r s k le (p ∷ ps) [] a b ba cut long cut' fit =
      let w = past s a k p ps cut long b k ba (before_end p k ps cut.1) in
      absurd (omega arith)
  ahead r s k le (p ∷ ps) (q ∷ qs) a b ba cut long cut' fit =
      elim (dec_le q p) [
        | yes h ↦ let n = ahead r s k le ps qs p q h cut.1 long.1 cut'.1 fit.1 in omega arith
        | no h ↦ let w = past s a k p ps cut long b q ba (omega arith) in absurd (omega arith)
      ]

  -- a class that alone exceeds the reach is in no run that fits
  none_fits : (r k c : ℕ) → c < k → Exceeds size r c → (ps : List ℕ) (a : ℕ) → a ≤ c → Cutting a k ps → Fits size r a k ps → ⊥
  none_fits r k c ck over [] a ac cut fit = let m = mono a c (c + 1) k ac (omega arith) (omega arith) in omega arith
  none_fits r k c ck over (p ∷ ps) a ac cut fit =
      elim (dec_lt c p) [
        | yes h ↦ let m = mono a c (c + 1) p ac (omega arith) (omega arith) in omega arith
        | no h ↦ none_fits r k c ck over ps p (omega arith) cut.1 fit.1
      ]

  -- a run a .. b that fits, with n classes after it, is grown while it fits
  grown : (r k : ℕ) → EachFits size r k → (n a b : ℕ) → b + n ≡ k → a < b → size a b ≤ r → (ps : List ℕ) × Greedy size r a k ps
  grown r k each zero a b e ab fit = let bk : b ≡ k = omega arith in ([], alone (omega arith) (rw bk at fit))
  grown r k each (suc n) a b e ab fit =
      elim (dec_le (size a (b + 1)) r) [
        | yes h ↦ grown r k each n a (b + 1) (omega arith) (omega arith) h
        | no h ↦
            let rest = grown r k each n b (b + 1) (omega arith) (omega arith) (each b (omega arith)) in
            (b ∷ rest.0, in_front ab fit (omega arith) rest.1)
      ]

  there : (r k : ℕ) → 0 < k → EachFits size r k → (ps : List ℕ) × Greedy size r 0 k ps
  there r k pos each = grown r k each (k - 1) 0 1 (omega arith) (omega arith) (each 0 pos)

  -- either each class fits alone, or there is a lowest that does not
  lowest : (r k : ℕ) → EachFits size r k ⊎ ((c : ℕ) × LowestExceeds size r k c)
  lowest r zero = inl (λ c h. absurd (omega arith))
  lowest r (suc k) =
      elim (lowest r k) [
        | inl each ↦
            elim (dec_le (size k (k + 1)) r) [ yes h ↦ inl (λ c lt. below_more (λ x. size x (x + 1) ≤ r) k each h c (omega arith)) | no h ↦ inr (k, record { within = omega arith; exceeds = omega arith; lowest = each }) ]
        | inr found ↦ inr (found.0, record { within = omega arith; exceeds = found.1.exceeds; lowest = found.1.lowest })
      ]

  -- two greedy cuttings from one class on are the same
  only : (r k : ℕ) (ps qs : List ℕ) (a b : ℕ) → a ≡ b → Greedy size r a k ps → Greedy size r b k qs → ps ≡ qs
  only r k [] [] a b e g h = refl
  only r k [] (q ∷ qs) a b e g h =
      let w = past r b k q qs h.cuts h.longest a k (omega arith) (before_end q k qs h.cuts.1) in
      absurd (omega (arith, g.fits))
  only r k (p ∷ ps) [] a b e g h =
      let w = past r a k p ps g.cuts g.longest b k (omega arith) (before_end p k ps g.cuts.1) in
      absurd (omega (arith, h.fits))
  only r k (p ∷ ps) (q ∷ qs) a b e g h =
      let pq : p ≡ q = same (past r a k p ps g.cuts g.longest b q (omega arith)) (past r b k q qs h.cuts h.longest a p (omega arith)) in
      let rest = only r k ps qs p q pq (behind g) (behind h) in
      cc
    where
      same : (p < q → r < size b q) → (q < p → r < size a p) → p ≡ q
      same f f' =
          elim (dec_le p q) [
            | yes x ↦ elim (dec_le q p) [ yes y ↦ omega arith | no y ↦ let w = f (omega arith) in absurd (omega (arith, h.fits.0)) ]
            | no x ↦ let w = f' (omega arith) in absurd (omega (arith, g.fits.0))
          ]

  one : (s x y : ℕ) → x < y → size x y ≤ s → OneRun size s x y
  one s x y xy fit = (alone xy fit, λ qs h. only s y qs [] x x refl h (alone xy fit))

  -- each run of a cutting that fits is one run at every larger reach
  again : (r s k : ℕ) → r ≤ s → (ps : List ℕ) (a : ℕ) → Cutting a k ps → Fits size r a k ps → Runs (OneRun size s) a k ps
  again r s k le [] a cut fit = one s a k cut (omega arith)
  again r s k le (p ∷ ps) a cut fit = (one s a p cut.0 (omega arith), again r s k le ps p cut.1 fit.1)

  pub theory : Laws size
  theory = record {
    refused = λ r k c ck over ps. none_fits r k c ck over ps 0 (omega arith);
    there = there;
    exactly = λ r k pos none.
        elim (lowest r k) [ inl each ↦ let g = there r k pos each in absurd (none g.0 g.1.cuts g.1.fits) | inr found ↦ found ];
    only = λ r k ps qs. only r k ps qs 0 0 refl;
    fewest = λ r k ps qs g. ahead r r k (omega arith) ps qs 0 0 (omega arith) g.cuts g.longest;
    falls = λ r s k ps qs le g h. ahead r s k le qs ps 0 0 (omega arith) h.cuts h.longest g.cuts g.fits;
    again = λ r s k ps le g. again r s k le ps 0 g.cuts g.fits;
  }
