-- Pieces are formed, a piece of a piece is a piece, and the piece of all classes is the whole.
use Rattle.std.proofs.Common.{◌≡◌, ℕ, ◌+◌, ◌-◌, ◌<◌, ◌≤◌, Bool, true, false, cond, ◌&&◌, ltb, leb, ◌⊎◌, List, [], ◌∷◌, map, length, get_or, take, drop, None, Decides, filter, Option, refl, ap, ◌∙◌, ap₂, inl, inr, arith}
use Rattle.std.specs.List.{AllByRecursion}
use Rattle.std.proofs.lemmas.Bool.{le-leb, lt-leb, lt-ltb, le-ltb, leb-true, ltb-true, and_parts, and_from, and_left, and_right, cond-true, cond-false, both_ways}
use Rattle.std.proofs.lemmas.List.{get_or-take, get_or-drop, length-take, length-drop, drop-take, take-take, drop-drop, take_all}
use Rattle.std.proofs.lemmas.Bool.Decides.{same_from_decides, Decides-like, Decides-ltb, nat_tests}
use Rattle.std.proofs.ByRecursion.{All-map, kept_by_passes, All-weaker}
use Rattle.coverage_writers.specs.Writing.{listed}
use Rattle.cutting.specs.Cutting.{Runs, Cutting}
use Rattle.markbase.specs.Values.{Mark, Base, Contents}
use Rattle.pieces.specs.Pieces.{in_run, renumbered, row_part, piece, Formed}
use Rattle.pieces.specs.Keeping.{PiecesCompose, WholePiece}
use Rattle.pieces.proofs.Glyphs.{listed_kept, keys_same}

-- a class of the run, and one outside
pub in_yes : (a b : ℕ) (m : Mark) → a ≤ m.class → m.class < b → in_run a b m ≡ true
in_yes a b m x y = and_from _ _ (le-leb a m.class x) (lt-ltb m.class b y)

pub in_no : (a b : ℕ) (m : Mark) → (m.class < a) ⊎ (b ≤ m.class) → in_run a b m ≡ false
in_no a b m (inl x) = and_left _ _ (lt-leb a m.class x)
in_no a b m (inr y) = and_right _ _ (le-ltb m.class b y)

in_under : (a b : ℕ) (m : Mark) → in_run a b m ≡ true → m.class - a < b - a
in_under a b m e =
    let p = and_parts (leb a m.class) (ltb m.class b) e in
    omega (arith, leb-true a m.class p.0, ltb-true m.class b p.1)

-- a class of the run has the same anchor in its part of the row
pub get_d_part : (a b c : ℕ) (row : List (Option ℕ)) → a ≤ c → c < b → get_or (take (b - a) (drop a row)) (c - a) None ≡ get_or row c None
get_d_part a b c row x y =
    let back : a + (c - a) ≡ c = omega arith in
    get_or-take (b - a) (drop a row) (c - a) None (omega arith) ∙ (get_or-drop a row (c - a) None ∙ ap (λ i. get_or row i None) back)

part_long : (a b : ℕ) (row : List (Option ℕ)) → b ≤ length row → length (take (b - a) (drop a row)) ≡ b - a
part_long a b row h = simp (length-take, length-drop) (omega arith)

pub piece_formed : (k : ℕ) (c : Contents) (a b : ℕ) → Formed k c → a < b → b ≤ k → Formed (b - a) (piece c a b)
piece_formed k c a b ok ab bk =
    record {
      some = omega arith;
      few = omega (arith, ok.few);
      marks = ap listed (keys_same (λ (m : Mark). m.glyph) (renumbered a) (λ _. refl) (filter (in_run a b) c.marks)) ∙ listed_kept (λ (m : Mark). m.glyph) (in_run a b) c.marks ok.marks;
      bases = ap listed (keys_same (λ (s : Base). s.glyph) (row_part a b) (λ _. refl) c.bases) ∙ ok.bases;
      classed = All-map (λ (m : Mark). m.class < b - a) (renumbered a) _ (All-weaker (λ m. in_run a b m ≡ true) _ (λ m e. in_under a b m e) _ (kept_by_passes (in_run a b) c.marks));
      rows = All-map (λ (s : Base). length s.row ≡ b - a) (row_part a b) c.bases (All-weaker _ _ (λ s e. part_long a b s.row (omega arith)) c.bases ok.rows);
    }

-- a cutting ends past where it begins
pub before_end : (a k : ℕ) (ps : List ℕ) → Cutting a k ps → a < k
before_end a k [] h = h
before_end a k (p ∷ ps) h = let i = before_end p k ps h.1 in omega arith

pub pieces_formed : (k : ℕ) (c : Contents) → Formed k c → (ps : List ℕ) (a : ℕ) → Cutting a k ps → Runs (λ a b. Formed (b - a) (piece c a b)) a k ps
pieces_formed k c ok [] a cut = piece_formed k c a k ok cut (omega arith)
pieces_formed k c ok (p ∷ ps) a cut =
    let end = before_end p k ps cut.1 in
    (piece_formed k c a p ok cut.0 (omega arith), pieces_formed k c ok ps p cut.1)

-- what is kept of what is kept
kept_kept : {X : Type 0} (p q : X → Bool) (f g h : X → X) (r : X → Bool) → ((x : X) → p x ≡ true → (q (f x) ≡ r x) × (g (f x) ≡ h x)) → ((x : X) → p x ≡ false → r x ≡ false)
    → (xs : List X) → map g (filter q (map f (filter p xs))) ≡ map h (filter r xs)
kept_kept p q f g h r both out [] = refl
kept_kept p q f g h r both out (x ∷ xs) = go (kept_kept p q f g h r both out xs) (p x) (r x) refl refl
  where
    go : map g (filter q (map f (filter p xs))) ≡ map h (filter r xs) → (s t : Bool) → p x ≡ s → r x ≡ t
        → map g (filter q (map f (cond s (x ∷ filter p xs) (filter p xs)))) ≡ map h (cond t (x ∷ filter r xs) (filter r xs))
    go rest true true e d = ap (map g) (cond-true _ _ _ ((both x e).0 ∙ d)) ∙ ap₂ ◌∷◌ (both x e).1 rest
    go rest true false e d = ap (map g) (cond-false _ _ _ ((both x e).0 ∙ d)) ∙ rest
    go rest false true e d = absurd (both_ways (r x) (out x e) d)
    go rest false false e d = rest

decides_leb : (a b : ℕ) → Decides (leb a b) (a ≤ b)
decides_leb a b = (leb-true a b, le-leb a b)

run_shift : (a b c d x : ℕ) → (leb a x && ltb x b) ≡ true → (leb c (x - a) && ltb (x - a) d) ≡ (leb (a + c) x && ltb x (a + d))
run_shift a b c d x e =
    let p = leb-true a x (and_parts (leb a x) (ltb x b) e).0 in
    ap₂ ◌&&◌ (same_from_decides _ _ (decides_leb c (x - a)) (Decides-like (leb (a + c) x) (λ h. omega arith) (λ h. omega arith) (decides_leb (a + c) x)))
    (same_from_decides _ _ (Decides-ltb (x - a) d) (Decides-like (ltb x (a + d)) (λ h. omega arith) (λ h. omega arith) (Decides-ltb x (a + d))))

run_out : (a b c d x : ℕ) → a + d ≤ b → (leb a x && ltb x b) ≡ false → (leb (a + c) x && ltb x (a + d)) ≡ false
run_out a b c d x db e = grind (arith, nat_tests)

part_part : (a b c d : ℕ) (row : List (Option ℕ)) → c ≤ d → a + d ≤ b → take (d - c) (drop c (take (b - a) (drop a row))) ≡ take (a + d - (a + c)) (drop (a + c) row)
part_part a b c d row cd db =
    let split : b - a ≡ c + (b - a - c) = omega arith in
    let long : d - c ≡ a + d - (a + c) = omega arith in
    ap (λ n. take (d - c) (drop c (take n (drop a row)))) split
    ∙ (ap (take (d - c)) (drop-take c (b - a - c) (drop a row))
    ∙ (take-take (d - c) (b - a - c) (drop c (drop a row)) (omega arith)
    ∙ ap₂ take long (drop-drop c a row)))

alike : (c d : Contents) → c.marks ≡ d.marks → c.bases ≡ d.bases → c ≡ d
alike c d p q = λ i. record { marks = p i; bases = q i }

mapped_twice : {X : Type 0} (f g h : X → X) → ((x : X) → g (f x) ≡ h x) → (xs : List X) → map g (map f xs) ≡ map h xs
mapped_twice f g h e [] = refl
mapped_twice f g h e (x ∷ xs) = ap₂ ◌∷◌ (e x) (mapped_twice f g h e xs)

pub pieces_compose : PiecesCompose
pieces_compose c a b x y xy yb =
    alike (piece (piece c a b) x y) (piece c (a + x) (a + y))
    (kept_kept (in_run a b) (in_run x y) (renumbered a) (renumbered x) (renumbered (a + x)) (in_run (a + x) (a + y))
    (λ m e. (run_shift a b x y m.class e, let s : m.class - a - x ≡ m.class - (a + x) = omega arith in ap (λ n. record { glyph = m.glyph; class = n; anchor = m.anchor }) s))
    (λ m e. run_out a b x y m.class yb e) c.marks)
    (mapped_twice (row_part a b) (row_part x y) (row_part (a + x) (a + y)) (λ s. ap (λ r. record { glyph = s.glyph; row = r }) (part_part a b x y s.row xy yb)) c.bases)

whole_marks : (k : ℕ) (ms : List Mark) → AllByRecursion (λ (m : Mark). m.class < k) ms → map (renumbered 0) (filter (in_run 0 k) ms) ≡ ms
whole_marks k [] h = refl
whole_marks k (m ∷ ms) h =
    let s : m.class - 0 ≡ m.class = omega arith in
    ap (map (renumbered 0)) (cond-true _ _ _ (in_yes 0 k m (omega arith) h.0))
    ∙ ap₂ ◌∷◌ (ap (λ n. record { glyph = m.glyph; class = n; anchor = m.anchor }) s) (whole_marks k ms h.1)

whole_bases : (k : ℕ) (bs : List Base) → AllByRecursion (λ (s : Base). length s.row ≡ k) bs → map (row_part 0 k) bs ≡ bs
whole_bases k [] h = refl
whole_bases k (s ∷ bs) h = ap₂ ◌∷◌ (ap (λ r. record { glyph = s.glyph; row = r }) (take_all (k - 0) s.row (omega (arith, h.0)))) (whole_bases k bs h.1)

pub whole_piece : WholePiece
whole_piece k c ok = alike (piece c 0 k) c (whole_marks k c.marks ok.classed) (whole_bases k c.bases ok.rows)
