-- What is written is read back.
use Rattle.std.proofs.Common.{◌≡◌, ℕ, suc, ◌+◌, ◌/◌, ◌%◌, ◌<◌, ◌≤◌, Bool, true, false, eqb, ltb, leb, List, [], ◌∷◌, ◌++◌, length, replicate, is_some, Some, None, Ok, Option, unwrap_or, sym, refl, ap, add-zero, add_assoc, arith}
use Rattle.std.proofs.lemmas.List.{append_assoc, append-nil, length-append, length-replicate, drop_at}
use Rattle.std.proofs.ByRecursion.{All-weaker}
use Rattle.std.proofs.lemmas.Bool.{le-leb, leb-true, eq-eqb, lt-ltb}
use Rattle.std.proofs.lemmas.Bool.Decides.{nat_tests}
use Rattle.std.specs.List.{AllByRecursion}
use Rattle.serialize.specs.declared.link.Link.{Link}
use Rattle.serialize.specs.declared.link.LinkWidth.{LinkWidth}
use Rattle.serialize.specs.declared.link.LinkWidth.TheVariants.{Two, Four}
use Rattle.serialize.specs.Width.{width_of}
use Rattle.fields.specs.Fields.{Rest, Reader, free, bare, word, offset, nullable, then, allowed, give, also, times, ended, ◌⟫◌}
use Rattle.fields.specs.Arrays.{mark, mark_array_reader, base_array_reader}
use Rattle.fields.proofs.Steps.{word_is, offset_is}
use Rattle.markbase.specs.declared.table.MarkBasePosFormat1.{MarkBasePosFormat1}
use Rattle.markbase.specs.declared.lookup_type.LookupType.{LookupType}
use Rattle.markbase.specs.declared.lookup_type.LookupType.TheVariants.{MarkToBase, Extension}
use Rattle.markbase.specs.LookupTypes.{type_from}
use Rattle.markbase.specs.Nodes.{read}
use Rattle.markbase.specs.Tables.{subtable, extension}
use Rattle.lookups.specs.Tables.{Fields, lookup, filters}
use Rattle.written.specs.Writing.{Written, ◌⊕◌, each, as_word, as_offset, as_nullable, as_mark, as_mark_array, as_base_array, as_subtable, as_extension, type_word, as_lookup, vertex_of}

-- wherever x stands, and whatever follows it, r reads a there and no more
pub record Back {A : Type 0} (r : Reader A) (a : A) (x : Written) : Type 0 where
  pub reads : (p : ℕ) (bs : List ℕ) (ls : List Link) → free (p + length x.bytes) ls ≡ true
      → r record { place = p; bytes = x.bytes ++ bs; links = x.links p ++ ls } ≡ Ok (a, record { place = p + length x.bytes; bytes = bs; links = ls })
  pub starts : (p : ℕ) (ls : List Link) → free (p + length x.bytes) ls ≡ true → free p (x.links p ++ ls) ≡ true

-- what starts after b starts after all that is before b
free_sooner : (a b : ℕ) (ls : List Link) → a ≤ b → free b ls ≡ true → free a ls ≡ true
free_sooner a b [] h e = refl
free_sooner a b (l ∷ ls) h e = le-leb a l.position (omega (arith, leb-true b l.position e))

-- two bytes in which no link starts
bare_here : (p b c : ℕ) (bs : List ℕ) (ls : List Link) → free (p + 2) ls ≡ true → bare 2 record { place = p; bytes = b ∷ c ∷ bs; links = ls } ≡ true
bare_here p b c bs ls e = let h = le-leb 2 (suc (suc (length bs))) (omega arith) in grind (arith, nat_tests)

-- words
pub word_back : (w : ℕ) → w < 65536 → Back word w (as_word w)
word_back w h = record {
  reads = λ p bs ls e. word_is record { place = p; bytes = w / 256 % 256 ∷ w % 256 ∷ bs; links = ls } w bs (bare_here p (w / 256 % 256) (w % 256) bs ls e) (omega arith) refl;
  starts = λ p ls e. free_sooner p (p + 2) ls (omega arith) e;
}

-- offsets
pub offset_back : (w : LinkWidth) (child : ℕ) → Back (offset w) child (as_offset w child)
offset_back w child = record {
  reads = λ p bs ls e.
      let n = length-replicate (width_of w) 0 in
      let s : Rest = record { place = p; bytes = replicate (width_of w) 0 ++ bs; links = record { position = p; child = child; width = w } ∷ ls } in
      offset_is w s ls bs (length (replicate (width_of w) 0)) (omega arith) (omega (arith, length-append (replicate (width_of w) 0) bs)) refl refl n (sym (drop_at (replicate (width_of w) 0) bs (width_of w) n)) refl;
  starts = λ p ls e. le-leb p p (omega arith);
}

module _ {A B : Type 0} {r : Reader A} {a : A} {x : Written} (first : Back r a x) where
  -- one after the other
  pub then_back : (next : A → Reader B) {b : B} {y : Written} → Back (next a) b y → Back (r ⟫ next) b (x ⊕ y)
  then_back next {b} {y} second = record {
    reads = λ p bs ls e.
        let n = add_assoc p (length x.bytes) (length y.bytes) in
        let m = length-append x.bytes y.bytes in
        let f : free (p + length x.bytes + length y.bytes) ls ≡ true = rw (n, ← m) e in
        let one = first.reads p (y.bytes ++ bs) (y.links (p + length x.bytes) ++ ls) (second.starts (p + length x.bytes) ls f) in
        let two = second.reads (p + length x.bytes) bs ls f in
        rw (append_assoc x.bytes y.bytes bs, append_assoc (x.links p) (y.links (p + length x.bytes)) ls, m, ← n, one) two;
    starts = λ p ls e.
        let n = add_assoc p (length x.bytes) (length y.bytes) in
        let m = length-append x.bytes y.bytes in
        let f : free (p + length x.bytes + length y.bytes) ls ≡ true = rw (n, ← m) e in
        rw (append_assoc (x.links p) (y.links (p + length x.bytes)) ls) (first.starts p (y.links (p + length x.bytes) ++ ls) (second.starts (p + length x.bytes) ls f));
  }

  -- a value made of the last one
  pub last_back : (f : A → B) → Back (r ⟫ λ v. give (f v)) (f a) x
  last_back f = record {
    reads = λ p bs ls e. ap (λ y. then y (λ v. give (f v))) (first.reads p bs ls e);
    starts = first.starts;
  }

-- words that are allowed
pub allowed_back : (ok : ℕ → Bool) (w : ℕ) → w < 65536 → ok w ≡ true → Back (allowed ok) w (as_word w)
allowed_back ok w h t = record {
  reads = λ p bs ls e. rw ((word_back w h).reads p bs ls e, t);
  starts = (word_back w h).starts;
}

-- offsets and nulls
pub nullable_back : (o : Option ℕ) → Back nullable o (as_nullable o)
unfolding nullable
nullable_back None = record {
  reads = λ p bs ls e. rw (bare_here p 0 0 bs ls e, (word_back 0 (omega arith)).reads p bs ls e);
  starts = (word_back 0 (omega arith)).starts;
}
nullable_back (Some child) = record {
  reads = λ p bs ls e.
      let n : bare 2 record { place = p; bytes = 0 ∷ 0 ∷ bs; links = record { position = p; child = child; width = Two } ∷ ls } ≡ false = grind (arith, nat_tests) in
      rw (n, (offset_back Two child).reads p bs ls e);
  starts = (offset_back Two child).starts;
}

-- one value more, which was read before
also_back : {A : Type 0} {r : Reader (List A)} {as' : List A} {x : Written} (a : A) → Back r as' x → Back (λ s. also a (r s)) (a ∷ as') x
also_back a back = record {
  reads = λ p bs ls e. ap (also a) (back.reads p bs ls e);
  starts = back.starts;
}

-- each of a list
pub times_back : {A : Type 0} (r : Reader A) (f : A → Written) (as' : List A) → AllByRecursion (λ a. Back r a (f a)) as' → Back (times (length as') r) as' (each f as')
times_back r f [] all = record {
  reads = λ p bs ls e. rw (add-zero p);
  starts = λ p ls e. rw (add-zero p) at e;
}
times_back r f (a ∷ as') all = then_back all.0 (λ v s. also v (times (length as') r s)) (also_back a (times_back r f as' all.1))

-- a vertex that holds just this
pub whole_back : {A : Type 0} {r : Reader A} {a : A} {x : Written} → Back r a x → read r (vertex_of x) ≡ Ok a
whole_back {r = r} {x = x} back =
    let e = back.reads 0 [] [] refl in
    let f = rw (append-nil x.bytes, append-nil (x.links 0)) at e in
    ap ended f

-- what holds of everything holds of the elements
pub all_of : {A : Type 0} (P : A → Type 0) (as' : List A) → ((a : A) → P a) → AllByRecursion P as'
all_of P [] f = tt
all_of P (a ∷ as') f = (f a, all_of P as' f)

-- marks
pub mark_back : (k : ℕ) → k ≤ 65536 → (m : ℕ × Option ℕ) → m.0 < k → Back (mark k) m (as_mark m)
mark_back k small m h = then_back (allowed_back (λ c. ltb c k) m.0 (omega arith) (lt-ltb m.0 k h)) _ (last_back (nullable_back m.1) (λ anchor. (m.0, anchor)))

-- mark arrays
pub marks_back : (k : ℕ) (ms : List (ℕ × Option ℕ)) → k ≤ 65536 → length ms < 65536 → AllByRecursion (λ m. m.0 < k) ms → Back (mark_array_reader (length ms) k) ms (as_mark_array ms)
marks_back k ms small few h =
    then_back (allowed_back (eqb (length ms)) (length ms) few (eq-eqb (length ms) (length ms) refl)) _
    (times_back (mark k) as_mark ms (All-weaker (λ m. m.0 < k) (λ m. Back (mark k) m (as_mark m)) (mark_back k small) ms h))

-- the anchors of a base
pub row_back : (k : ℕ) (row : List (Option ℕ)) → length row ≡ k → Back (times k nullable) row (each as_nullable row)
row_back k row h = rw (← h) (times_back nullable as_nullable row (all_of (λ o. Back nullable o (as_nullable o)) row nullable_back))

-- base arrays
pub bases_back : (k : ℕ) (rows : List (List (Option ℕ))) → length rows < 65536 → AllByRecursion (λ row. length row ≡ k) rows → Back (base_array_reader (length rows) k) rows (as_base_array rows)
bases_back k rows few h =
    then_back (allowed_back (eqb (length rows)) (length rows) few (eq-eqb (length rows) (length rows) refl)) _
    (times_back (times k nullable) (each as_nullable) rows (All-weaker (λ row. length row ≡ k) (λ row. Back (times k nullable) row (each as_nullable row)) (row_back k) rows h))

-- subtables
pub subtable_back : (t : MarkBasePosFormat1) → 0 < t.class_count → t.class_count < 65536 → Back subtable t (as_subtable t)
subtable_back t some few =
    then_back (allowed_back (eqb 1) 1 (omega arith) refl) _
    (then_back (offset_back Two t.mark_coverage) _
    (then_back (offset_back Two t.base_coverage) _
    (then_back (allowed_back (leb 1) t.class_count few (le-leb 1 t.class_count (omega arith))) _
    (then_back (offset_back Two t.mark_array) _
    (last_back (offset_back Two t.base_array) _)))))

-- extensions
pub extension_back : (child : ℕ) → Back extension (record { subtable = child }) (as_extension child)
extension_back child =
    then_back (allowed_back (eqb 1) 1 (omega arith) refl) _
    (then_back (allowed_back (eqb 4) 4 (omega arith) refl) _
    (last_back (offset_back Four child) _))

-- the word of a type says the type
typed : (kind : LookupType) → (type_word kind < 65536) × (type_from (type_word kind) ≡ Some kind)
unfolding type_from
typed MarkToBase = (omega arith, refl)
typed Extension = (omega arith, refl)

-- what follows the offsets of a lookup
filter_back : (l : Fields) (kind : LookupType) → kind ≡ l.kind → AllByRecursion (λ w. w < 65536) l.filter → length l.filter ≡ filters l.flag
    → Back (times (filters l.flag) word ⟫ λ filter. give record { kind = kind; flag = l.flag; offsets = l.offsets; filter = filter }) l (each as_word l.filter)
filter_back l kind e small h = rw (← h, e) (last_back (times_back word as_word l.filter (All-weaker (λ w. w < 65536) (λ w. Back word w (as_word w)) word_back l.filter small)) _)

-- lookups
pub lookup_back : (l : Fields) → l.flag < 65536 → length l.offsets < 65536 → AllByRecursion (λ w. w < 65536) l.filter → length l.filter ≡ filters l.flag → Back lookup l (as_lookup l)
lookup_back l flag few small h =
    let t = typed l.kind in
    then_back (allowed_back (λ w. is_some (type_from w)) (type_word l.kind) t.0 (ap is_some t.1)) _
    (then_back (word_back l.flag flag) _
    (then_back (word_back (length l.offsets) few) _
    (then_back (times_back (offset Two) (as_offset Two) l.offsets (all_of (λ c. Back (offset Two) c (as_offset Two c)) l.offsets (offset_back Two))) _
    (filter_back l (unwrap_or (type_from (type_word l.kind)) MarkToBase) (ap (λ o. unwrap_or o MarkToBase) t.1) small h))))
