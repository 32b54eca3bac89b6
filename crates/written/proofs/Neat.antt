-- What is written is a sound vertex, wherever its links lead to vertices.
use Rattle.std.proofs.Common.{◌≡◌, ℕ, zero, suc, ◌+◌, ◌<◌, ◌≤◌, true, List, [], ◌∷◌, ◌++◌, map, length, take, drop, replicate, Some, None, Option, sym, refl, ap, ◌∙◌, subst, add-zero, add_assoc, arith}
use Rattle.std.proofs.lemmas.List.{append_assoc, append-nil, length-append, length-replicate, drop_at, take_at}
use Rattle.std.proofs.ByRecursion.{All-get_or, All-append}
use Rattle.std.specs.List.{AllByRecursion}
use Rattle.serialize.specs.declared.link.Link.{Link}
use Rattle.serialize.specs.declared.link.LinkWidth.{LinkWidth}
use Rattle.serialize.specs.declared.link.LinkWidth.TheVariants.{Two, Four}
use Rattle.serialize.specs.Width.{width_of}
use Rattle.serialize.specs.Objects.{zeros, no_link, link_at, end_of, field_of, Ascends}
use Rattle.walk.specs.Computed.{children}
use Rattle.markbase.specs.declared.table.MarkBasePosFormat1.{MarkBasePosFormat1}
use Rattle.lookups.specs.Tables.{Fields}
use Rattle.written.specs.Writing.{Written, ◌⊕◌, each, as_word, as_offset, as_nullable, as_mark, as_mark_array, as_base_array, as_subtable, as_extension, type_word, as_lookup, vertex_of}
use Rattle.written.specs.Laws.{SoundVertex}

-- the first link starts at p or later, and each other one behind the field of the one before
abbrev pub Apart : ℕ → List Link → Type 0
Apart p [] = Unit {0}
Apart p (l ∷ ls) = (p ≤ l.position) × Apart (end_of l) ls

-- a link's field lies inside the bytes and is zero
abbrev pub Inside : List ℕ → Link → Type 0
Inside bytes l = (end_of l ≤ length bytes) × (zeros (field_of bytes l) ≡ true)

-- wherever x stands, and whatever stands around it, its links are apart and inside
pub record Neat (x : Written) : Type 0 where
  pub spaced : (p : ℕ) (ls : List Link) → Apart (p + length x.bytes) ls → Apart p (x.links p ++ ls)
  pub within : (pre post : List ℕ) → AllByRecursion (Inside (pre ++ (x.bytes ++ post))) (x.links (length pre))

-- links that are apart from b on are so from a on
apart_sooner : (a b : ℕ) (ls : List Link) → a ≤ b → Apart b ls → Apart a ls
apart_sooner a b [] h e = tt
apart_sooner a b (l ∷ ls) h e = (omega (arith, e.0), e.1)

-- zeros are zero
zeros_replicate : (n : ℕ) → zeros (replicate n 0) ≡ true
zeros_replicate zero = refl
zeros_replicate (suc n) = zeros_replicate n

-- words
pub word_neat : (w : ℕ) → Neat (as_word w)
word_neat w = record { spaced = λ p ls h. apart_sooner p (p + 2) ls (omega arith) h; within = λ pre post. tt }

-- offsets
pub offset_neat : (w : LinkWidth) (child : ℕ) → Neat (as_offset w child)
offset_neat w child = record {
  spaced = λ p ls h. (omega arith, subst (λ n. Apart (p + n) ls) (length-replicate (width_of w) 0) h);
  within = λ pre post.
      let zs = replicate (width_of w) 0 in
      let n = length-replicate (width_of w) 0 in
      let bs = pre ++ (zs ++ post) in
      let field : take (width_of w) (drop (length pre) bs) ≡ zs = ap (take (width_of w)) (drop_at pre (zs ++ post) (length pre) refl) ∙ take_at zs post (width_of w) n in
      ((omega (arith, length-append pre (zs ++ post), length-append zs post), ap zeros field ∙ zeros_replicate (width_of w)), tt);
}

-- one behind the other
pub both_neat : {x y : Written} → Neat x → Neat y → Neat (x ⊕ y)
both_neat {x} {y} one two = record {
  spaced = λ p ls h.
      let n = add_assoc p (length x.bytes) (length y.bytes) in
      let m = length-append x.bytes y.bytes in
      let f : Apart (p + length x.bytes + length y.bytes) ls = rw (n, ← m) h in
      rw (append_assoc (x.links p) (y.links (p + length x.bytes)) ls) (one.spaced p (y.links (p + length x.bytes) ++ ls) (two.spaced (p + length x.bytes) ls f));
  within = λ pre post.
      let all = pre ++ ((x.bytes ++ y.bytes) ++ post) in
      let first : AllByRecursion (Inside all) (x.links (length pre)) = rw (append_assoc x.bytes y.bytes post) (one.within pre (y.bytes ++ post)) in
      let moved : (pre ++ x.bytes) ++ (y.bytes ++ post) ≡ all = append_assoc pre x.bytes (y.bytes ++ post) ∙ ap (λ l. pre ++ l) (sym (append_assoc x.bytes y.bytes post)) in
      let second : AllByRecursion (Inside all) (y.links (length pre + length x.bytes)) = rw (← moved, ← length-append pre x.bytes) (two.within (pre ++ x.bytes) post) in
      All-append (Inside all) (x.links (length pre)) (y.links (length pre + length x.bytes)) first second;
}

-- each of a list
pub each_neat : {A : Type 0} (f : A → Written) → ((a : A) → Neat (f a)) → (as' : List A) → Neat (each f as')
each_neat f h [] = record { spaced = λ p ls e. rw (add-zero p) at e; within = λ pre post. tt }
each_neat f h (a ∷ as') = both_neat (h a) (each_neat f h as')

-- offsets and nulls
pub nullable_neat : (o : Option ℕ) → Neat (as_nullable o)
nullable_neat (Some child) = offset_neat Two child
nullable_neat None = word_neat 0

-- mark arrays
pub marks_neat : (ms : List (ℕ × Option ℕ)) → Neat (as_mark_array ms)
marks_neat ms = both_neat (word_neat (length ms)) (each_neat as_mark (λ m. both_neat (word_neat m.0) (nullable_neat m.1)) ms)

-- base arrays
pub bases_neat : (rows : List (List (Option ℕ))) → Neat (as_base_array rows)
bases_neat rows = both_neat (word_neat (length rows)) (each_neat (each as_nullable) (each_neat as_nullable nullable_neat) rows)

-- subtables
pub subtable_neat : (t : MarkBasePosFormat1) → Neat (as_subtable t)
subtable_neat t =
    both_neat (word_neat 1) (both_neat (offset_neat Two t.mark_coverage) (both_neat (offset_neat Two t.base_coverage)
    (both_neat (word_neat t.class_count) (both_neat (offset_neat Two t.mark_array) (offset_neat Two t.base_array)))))

-- extensions
pub extension_neat : (child : ℕ) → Neat (as_extension child)
extension_neat child = both_neat (word_neat 1) (both_neat (word_neat 4) (offset_neat Four child))

-- lookups
pub lookup_neat : (l : Fields) → Neat (as_lookup l)
lookup_neat l =
    both_neat (word_neat (type_word l.kind)) (both_neat (word_neat l.flag) (both_neat (word_neat (length l.offsets))
    (both_neat (each_neat (as_offset Two) (offset_neat Two) l.offsets) (each_neat as_word word_neat l.filter))))

-- every link starts at p or later
pub behind : (p : ℕ) (ls : List Link) → Apart p ls → (j : ℕ) → j < length ls → p ≤ (link_at ls j).position
behind p [] h j k = absurd (omega arith)
behind p (l ∷ ls) h zero k = h.0
behind p (l ∷ ls) h (suc j) k = let u = behind (end_of l) ls h.1 j (omega arith) in omega (arith, h.0)

-- links that are apart ascend
pub ascends : (p : ℕ) (ls : List Link) → Apart p ls → Ascends ls
ascends p [] h i j a b = absurd (omega arith)
ascends p (l ∷ ls) h i zero a b = absurd (omega arith)
ascends p (l ∷ ls) h zero (suc j) a b = behind (end_of l) ls h.1 j (omega arith)
ascends p (l ∷ ls) h (suc i) (suc j) a b = ascends (end_of l) ls h.1 i j (omega arith) (omega arith)

-- what holds of the images
all_mapped : {X Y : Type 0} (P : X → Type 0) (f : Y → X) (ys : List Y) → AllByRecursion P (map f ys) → AllByRecursion (λ y. P (f y)) ys
all_mapped P f [] h = tt
all_mapped P f (y ∷ ys) h = (h.0, all_mapped P f ys h.1)

-- a vertex that holds just this
pub sound_neat : {x : Written} → Neat x → (count : ℕ) → AllByRecursion (λ c. c < count) (children (vertex_of x)) → SoundVertex count (vertex_of x)
sound_neat {x} neat count lead =
    let ls = x.links 0 in
    let inside : AllByRecursion (Inside x.bytes) ls = rw (append-nil x.bytes) at (neat.within [] []) in
    let below = all_mapped (λ c. c < count) (λ (l : Link). l.child) ls lead in (
      ascends 0 ls (rw (append-nil ls) at (neat.spaced 0 [] tt)),
      λ i h.
          let a = All-get_or (λ (l : Link). l.child < count) ls i no_link h below in
          let b = All-get_or (Inside x.bytes) ls i no_link h inside in
          (a, b.0, b.1),
    )
