-- The ranges of a table as rows: a first glyph, a last, and the index of the first.
use Rattle.std.proofs.Common.{◌≡◌, ℕ, zero, suc, ◌+◌, ◌-◌, ◌<◌, ◌≤◌, cond, List, [], ◌∷◌, ◌++◌, length, Some, None, refl, ap, ◌∙◌, subst, ⊎_elim, arith, length-append}
use Rattle.std.proofs.lemmas.Bool.{cases_lt, cases_eq, eq-eqb, ne_eqb}
use Rattle.layout.specs.Format.{run}
use Rattle.layout.specs.Lookup.{index_in, glyph_at}

-- n rows, by their columns: the first starts at `low` at the earliest, has `seen` glyphs before it, and all together cover gs
abbrev pub Rows : ℕ → (ℕ → ℕ) → (ℕ → ℕ) → (ℕ → ℕ) → ℕ → ℕ → List ℕ → Type 0
Rows zero s e i low seen gs = gs ≡ []
Rows (suc n) s e i low seen gs =
    (low ≤ s 0) × (s 0 ≤ e 0) × (i 0 ≡ seen)
    × ((rest : List ℕ) × (gs ≡ run (s 0) (e 0 + 1 - s 0) ++ rest) × Rows n (λ k. s (suc k)) (λ k. e (suc k)) (λ k. i (suc k)) (e 0 + 1) (seen + (e 0 + 1 - s 0)) rest)

-- the same rows by other columns
pub rows_as : (n : ℕ) (s e i t f j : ℕ → ℕ) (low seen : ℕ) (gs hs : List ℕ) → ((k : ℕ) → s k ≡ t k) → ((k : ℕ) → e k ≡ f k) → ((k : ℕ) → i k ≡ j k) → gs ≡ hs → Rows n s e i low seen gs → Rows n t f j low seen hs
rows_as n s e i t f j low seen gs hs a b c d r =
    subst (λ (x : (ℕ → ℕ) × (ℕ → ℕ) × (ℕ → ℕ) × List ℕ). Rows n x.0 x.1 x.2 low seen x.3) (λ m. (λ k. a k m, λ k. b k m, λ k. c k m, d m)) r

-- what holds of each row: it is in order, and not before where the rows begin
pub rows_at : (n : ℕ) (s e i : ℕ → ℕ) (low seen : ℕ) (gs : List ℕ) → Rows n s e i low seen gs → (k : ℕ) → k < n → (low ≤ s k) × (s k ≤ e k) × (seen ≤ i k)
rows_at zero s e i low seen gs r k h = absurd (omega arith)
rows_at (suc n) s e i low seen gs r zero h = (r.0, r.1, omega arith)
rows_at (suc n) s e i low seen gs r (suc k) h =
    let a = rows_at n _ _ _ _ _ r.3.0 r.3.2 k (omega arith) in
    (omega arith, a.1, omega arith)

-- two rows are apart, by their glyphs and by their indices
pub rows_apart : (n : ℕ) (s e i : ℕ → ℕ) (low seen : ℕ) (gs : List ℕ) → Rows n s e i low seen gs → (j k : ℕ) → j < k → k < n → (e j < s k) × (i j + (e j - s j) < i k)
rows_apart zero s e i low seen gs r j k h l = absurd (omega arith)
rows_apart (suc n) s e i low seen gs r j zero h l = absurd (omega arith)
rows_apart (suc n) s e i low seen gs r zero (suc k) h l =
    let a = rows_at n _ _ _ _ _ r.3.0 r.3.2 k (omega arith) in
    (omega arith, omega arith)
rows_apart (suc n) s e i low seen gs r (suc j) (suc k) h l = rows_apart n _ _ _ _ _ r.3.0 r.3.2 j k (omega arith) (omega arith)

-- the first row has the index of the first glyph, and each next one is counted on from the row before
pub rows_first : (n : ℕ) (s e i : ℕ → ℕ) (low seen : ℕ) (gs : List ℕ) → Rows n s e i low seen gs → 0 < n → i 0 ≡ seen
rows_first zero s e i low seen gs r h = absurd (omega arith)
rows_first (suc n) s e i low seen gs r h = r.2

pub rows_next : (n : ℕ) (s e i : ℕ → ℕ) (low seen : ℕ) (gs : List ℕ) → Rows n s e i low seen gs → (k : ℕ) → suc k < n → i (suc k) ≡ i k + (e k + 1 - s k)
rows_next zero s e i low seen gs r k h = absurd (omega arith)
rows_next (suc zero) s e i low seen gs r k h = absurd (omega arith)
rows_next (suc (suc n)) s e i low seen gs r zero h = omega (arith, r.3.2.2)
rows_next (suc (suc n)) s e i low seen gs r (suc k) h = rows_next (suc n) (λ m. s (suc m)) (λ m. e (suc m)) (λ m. i (suc m)) (e 0 + 1) (seen + (e 0 + 1 - s 0)) r.3.0 r.3.2 k (omega arith)

-- no index passes its glyph
pub rows_small : (n : ℕ) (s e i : ℕ → ℕ) (low seen : ℕ) (gs : List ℕ) → Rows n s e i low seen gs → seen ≤ low → (k : ℕ) → k < n → i k ≤ s k
rows_small zero s e i low seen gs r few k h = absurd (omega arith)
rows_small (suc n) s e i low seen gs r few zero h = omega arith
rows_small (suc n) s e i low seen gs r few (suc k) h = rows_small n _ _ _ _ _ r.3.0 r.3.2 (omega arith) k (omega arith)

-- each row before it has a glyph at least
pub rows_many : (n : ℕ) (s e i : ℕ → ℕ) (low seen : ℕ) (gs : List ℕ) → Rows n s e i low seen gs → (k : ℕ) → k < n → seen + k ≤ i k
rows_many zero s e i low seen gs r k h = absurd (omega arith)
rows_many (suc n) s e i low seen gs r zero h = omega arith
rows_many (suc n) s e i low seen gs r (suc k) h = omega (arith, rows_many n _ _ _ _ _ r.3.0 r.3.2 k (omega arith))

index_here : (g i : ℕ) (x : ℕ) (xs : List ℕ) → x ≡ g → index_in g i (x ∷ xs) ≡ Some i
index_here g i x xs e = ap (λ t. cond t (Some i) (index_in g (i + 1) xs)) (eq-eqb x g e)

index_later : (g i : ℕ) (x : ℕ) (xs : List ℕ) → (x ≡ g → ⊥) → index_in g i (x ∷ xs) ≡ index_in g (i + 1) xs
index_later g i x xs e = ap (λ t. cond t (Some i) (index_in g (i + 1) xs)) (ne_eqb x g e)

-- the index of a glyph in a run, and of one outside it
index_in_run : (k g i s : ℕ) (rest : List ℕ) → s ≤ g → g < s + k → index_in g i (run s k ++ rest) ≡ Some (i + (g - s))
index_in_run zero g i s rest a b = absurd (omega arith)
index_in_run (suc k) g i s rest a b =
    ⊎_elim (λ e. let z : i ≡ i + (g - s) = omega arith in index_here g i s _ e ∙ ap Some z)
    (λ e. let z : i + 1 + (g - (s + 1)) ≡ i + (g - s) = omega arith in index_later g i s _ e ∙ index_in_run k g (i + 1) (s + 1) rest (omega arith) (omega arith) ∙ ap Some z)
    (cases_eq s g)

index_past_run : (k g i s : ℕ) (rest : List ℕ) → (s ≤ g → g < s + k → ⊥) → index_in g i (run s k ++ rest) ≡ index_in g (i + k) rest
index_past_run zero g i s rest a = let z : i ≡ i + 0 = omega arith in ap (λ j. index_in g j rest) z
index_past_run (suc k) g i s rest a =
    let z : i + 1 + k ≡ i + suc k = omega arith in
    index_later g i s _ (λ e. a (omega arith) (omega arith)) ∙ index_past_run k g (i + 1) (s + 1) rest (λ p q. a (omega arith) (omega arith)) ∙ ap (λ j. index_in g j rest) z

-- the glyph at an index in a run, and past it
glyph_in_run : (k x s : ℕ) (rest : List ℕ) → x < k → glyph_at (run s k ++ rest) x ≡ Some (s + x)
glyph_in_run zero x s rest h = absurd (omega arith)
glyph_in_run (suc k) zero s rest h = let z : s ≡ s + 0 = omega arith in ap Some z
glyph_in_run (suc k) (suc x) s rest h = let z : s + 1 + x ≡ s + suc x = omega arith in glyph_in_run k x (s + 1) rest (omega arith) ∙ ap Some z

glyph_past_run : (k x s : ℕ) (rest : List ℕ) → glyph_at (run s k ++ rest) (k + x) ≡ glyph_at rest x
glyph_past_run zero x s rest = let z : 0 + x ≡ x = omega arith in ap (glyph_at rest) z
glyph_past_run (suc k) x s rest = let z : suc k + x ≡ suc (k + x) = omega arith in ap (glyph_at (run s (suc k) ++ rest)) z ∙ glyph_past_run k x (s + 1) rest

pub length_run : (k s : ℕ) → length (run s k) ≡ k
length_run zero s = refl
length_run (suc k) s = ap suc (length_run k (s + 1))

-- a glyph in the k-th row
pub rows_found : (n : ℕ) (s e i : ℕ → ℕ) (low seen : ℕ) (gs : List ℕ) → Rows n s e i low seen gs → (k g : ℕ) → k < n → s k ≤ g → g ≤ e k → index_in g seen gs ≡ Some (i k + (g - s k))
rows_found zero s e i low seen gs r k g h a b = absurd (omega arith)
rows_found (suc n) s e i low seen gs r zero g h a b =
    let z : seen + (g - s 0) ≡ i 0 + (g - s 0) = omega arith in
    ap (index_in g seen) r.3.1 ∙ index_in_run (e 0 + 1 - s 0) g seen (s 0) r.3.0 a (omega arith) ∙ ap Some z
rows_found (suc n) s e i low seen gs r (suc k) g h a b =
    let t = rows_at n _ _ _ _ _ r.3.0 r.3.2 k (omega arith) in
    ap (index_in g seen) r.3.1 ∙ index_past_run (e 0 + 1 - s 0) g seen (s 0) r.3.0 (λ p q. omega arith) ∙ rows_found n _ _ _ _ _ r.3.0 r.3.2 k g (omega arith) a b

-- a glyph in no row
pub rows_absent : (n : ℕ) (s e i : ℕ → ℕ) (low seen : ℕ) (gs : List ℕ) → Rows n s e i low seen gs → (g : ℕ) → ((k : ℕ) → k < n → s k ≤ g → g ≤ e k → ⊥) → index_in g seen gs ≡ None
rows_absent zero s e i low seen gs r g no_row = ap (index_in g seen) r
rows_absent (suc n) s e i low seen gs r g no_row =
    ap (index_in g seen) r.3.1 ∙ index_past_run (e 0 + 1 - s 0) g seen (s 0) r.3.0 (λ p q. no_row 0 (omega arith) p (omega arith))
    ∙ rows_absent n _ _ _ _ _ r.3.0 r.3.2 g (λ k h. no_row (suc k) (omega arith))

-- an index in the k-th row, at x behind those seen
pub rows_glyph : (n : ℕ) (s e i : ℕ → ℕ) (low seen : ℕ) (gs : List ℕ) → Rows n s e i low seen gs → (k x : ℕ) → k < n → i k ≤ seen + x → seen + x ≤ i k + (e k - s k) → glyph_at gs x ≡ Some (s k + (seen + x - i k))
rows_glyph zero s e i low seen gs r k x h a b = absurd (omega arith)
rows_glyph (suc n) s e i low seen gs r zero x h a b =
    let z : s 0 + x ≡ s 0 + (seen + x - i 0) = omega arith in
    ap (λ l. glyph_at l x) r.3.1 ∙ glyph_in_run (e 0 + 1 - s 0) x (s 0) r.3.0 (omega arith) ∙ ap Some z
rows_glyph (suc n) s e i low seen gs r (suc k) x h a b =
    let m = e 0 + 1 - s 0 in
    let t = rows_at n _ _ _ _ _ r.3.0 r.3.2 k (omega arith) in
    let y : x ≡ m + (x - m) = omega arith in
    let z : s (suc k) + (seen + m + (x - m) - i (suc k)) ≡ s (suc k) + (seen + x - i (suc k)) = omega arith in
    ap (λ l. glyph_at l x) r.3.1 ∙ ap (glyph_at (run (s 0) m ++ r.3.0)) y ∙ glyph_past_run m (x - m) (s 0) r.3.0
    ∙ rows_glyph n _ _ _ _ _ r.3.0 r.3.2 k (x - m) (omega arith) (omega arith) (omega arith) ∙ ap Some z

-- an index in no row
pub rows_beyond : (n : ℕ) (s e i : ℕ → ℕ) (low seen : ℕ) (gs : List ℕ) → Rows n s e i low seen gs → (x : ℕ) → ((k : ℕ) → k < n → i k ≤ seen + x → seen + x ≤ i k + (e k - s k) → ⊥) → glyph_at gs x ≡ None
rows_beyond zero s e i low seen gs r x no_row = ap (λ l. glyph_at l x) r
rows_beyond (suc n) s e i low seen gs r x no_row =
    let m = e 0 + 1 - s 0 in
    let far : m ≤ x = ⊎_elim (λ h. absurd (no_row 0 (omega arith) (omega arith) (omega arith))) (λ h. h) (cases_lt x m) in
    let y : x ≡ m + (x - m) = omega arith in
    ap (λ l. glyph_at l x) r.3.1 ∙ ap (glyph_at (run (s 0) m ++ r.3.0)) y ∙ glyph_past_run m (x - m) (s 0) r.3.0
    ∙ rows_beyond n _ _ _ _ _ r.3.0 r.3.2 (x - m) (λ k h a b. no_row (suc k) (omega arith) (omega arith) (omega arith))

-- how many glyphs there are: those before the last row, and its own
pub rows_count : (n : ℕ) (s e i : ℕ → ℕ) (low seen : ℕ) (gs : List ℕ) → Rows (suc n) s e i low seen gs → i n + (e n + 1 - s n) ≡ seen + length gs
rows_count zero s e i low seen gs r =
    let a = ap length r.3.1 ∙ length-append (run (s 0) (e 0 + 1 - s 0)) r.3.0 in
    omega (arith, length_run (e 0 + 1 - s 0) (s 0), ap length r.3.2)
rows_count (suc n) s e i low seen gs r =
    let a = ap length r.3.1 ∙ length-append (run (s 0) (e 0 + 1 - s 0)) r.3.0 in
    omega (arith, length_run (e 0 + 1 - s 0) (s 0), rows_count n (λ k. s (suc k)) (λ k. e (suc k)) (λ k. i (suc k)) (e 0 + 1) (seen + (e 0 + 1 - s 0)) r.3.0 r.3.2)
