-- How long the tables are that are written.
use Rattle.std.proofs.Common.{◌≡◌, ℕ, ◌*◌, List, [], ◌∷◌, length, Some, None, Option, sym, refl, ap, ◌∙◌, mul_assoc, mul_comm, mul-zero, mul-suc, arith}
use Rattle.std.proofs.lemmas.List.{length-append}
use Rattle.std.proofs.ByRecursion.{All-weaker}
use Rattle.std.specs.List.{AllByRecursion}
use Rattle.serialize.specs.declared.link.LinkWidth.TheVariants.{Two}
use Rattle.written.specs.Writing.{Written, each, as_word, as_offset, as_nullable, as_mark}
use Rattle.written.specs.Laws.{Lengths}
use Rattle.written.proofs.Back.{all_of}

-- as many as there are, of w bytes each
pub each_long : {A : Type 0} (f : A → Written) (w : ℕ) (as' : List A) → AllByRecursion (λ a. length (f a).bytes ≡ w) as' → length (each f as').bytes ≡ w * length as'
each_long f w [] h = sym (mul-zero w)
each_long f w (a ∷ as') h = length-append (f a).bytes (each f as').bytes ∙ omega (arith, h.0, each_long f w as' h.1, mul-suc w (length as'))

-- the same, where all values take w bytes
pub all_long : {A : Type 0} (f : A → Written) (w : ℕ) → ((a : A) → length (f a).bytes ≡ w) → (as' : List A) → length (each f as').bytes ≡ w * length as'
all_long f w h as' = each_long f w as' (all_of (λ a. length (f a).bytes ≡ w) as' h)

-- an offset or a null
pub nullable_long : (o : Option ℕ) → length (as_nullable o).bytes ≡ 2
nullable_long (Some child) = refl
nullable_long None = refl

-- a mark
pub mark_long : (m : ℕ × Option ℕ) → length (as_mark m).bytes ≡ 4
mark_long m = omega (arith, nullable_long m.1)

-- the anchors of a base
pub row_long : (k : ℕ) (row : List (Option ℕ)) → length row ≡ k → length (each as_nullable row).bytes ≡ 2 * k
row_long k row h = all_long as_nullable 2 nullable_long row ∙ ap (λ n. 2 * n) h

-- the tables
pub lengths : Lengths
lengths = record {
  marks = λ ms. omega (arith, all_long as_mark 4 mark_long ms);
  bases = λ k rows h.
      let n = length rows in
      let each' = each_long (each as_nullable) (2 * k) rows (All-weaker (λ row. length row ≡ k) (λ row. length (each as_nullable row).bytes ≡ 2 * k) (row_long k) rows h) in
      omega (arith, each' ∙ mul_assoc 2 k n ∙ ap (λ m. 2 * m) (mul_comm k n) ∙ sym (mul_assoc 2 n k));
  table = λ t. refl;
  behind = λ child. refl;
  lookups = λ l.
      let offsets = (each (as_offset Two) l.offsets).bytes in
      let filter = (each as_word l.filter).bytes in
      omega (arith, length-append offsets filter, all_long (as_offset Two) 2 (λ c. refl) l.offsets, all_long as_word 2 (λ w. refl) l.filter);
}
