-- What a field does.
use Rattle.std.proofs.Common.{◌≡◌, ℕ, ◌+◌, ◌<◌, ◌≤◌, true, false, List, [], ◌∷◌, length, get_or, drop, Ok, Err, refl, arith}
use Rattle.std.proofs.lemmas.Bool.Decides.{nat_tests}
use Rattle.serialize.specs.declared.link.Link.{Link}
use Rattle.serialize.specs.declared.link.LinkWidth.{LinkWidth}
use Rattle.serialize.specs.Objects.{no_link}
use Rattle.serialize.specs.Width.{width_of}
use Rattle.fields.specs.Fields.{Rest, bare, front, word, belongs, linked, offset}

pub word_is : (s : Rest) (w : ℕ) (bs : List ℕ) → bare 2 s ≡ true → w ≡ front s.bytes → bs ≡ drop 2 s.bytes → word s ≡ Ok (w, record { place = s.place + 2; bytes = bs; links = s.links })
unfolding word
word_is s w bs h p q = rw (h, p, q)

pub word_broken : (s : Rest) → bare 2 s ≡ false → word s ≡ Err s.place
unfolding word
word_broken s h = rw h

linked_broken : (w : LinkWidth) (s : Rest) (ls : List Link) → (0 < length ls → belongs w s (get_or ls 0 no_link) ≡ false) → linked w s ls ≡ Err s.place
linked_broken w s [] h = refl
linked_broken w s (l ∷ ls) h = let e = h (omega arith) in rw e

linked_here : (w : LinkWidth) (s : Rest) (ls ms : List Link) (bs : List ℕ) (n : ℕ) → 0 < length ls → belongs w s (get_or ls 0 no_link) ≡ true → n ≡ width_of w → bs ≡ drop (width_of w) s.bytes → ms ≡ drop 1 ls
    → linked w s ls ≡ Ok ((get_or ls 0 no_link).child, record { place = s.place + n; bytes = bs; links = ms })
linked_here w s [] ms bs n o h d p q = absurd (omega arith)
linked_here w s (l ∷ ls) ms bs n o h d p q = rw (h, d, p, q)

module _ (w : LinkWidth) (s : Rest) where
  pub offset_broken : (0 < length s.links → belongs w s (get_or s.links 0 no_link) ≡ false) → offset w s ≡ Err s.place
  unfolding offset
  offset_broken h = linked_broken w s s.links h

  pub offset_none : length s.links < 1 → offset w s ≡ Err s.place
  offset_none h = offset_broken (λ o. absurd (omega arith))

  pub offset_short : length s.bytes < width_of w → offset w s ≡ Err s.place
  offset_short h = offset_broken (λ o. grind (arith, nat_tests))

  pub offset_elsewhere : ((get_or s.links 0 no_link).position ≡ s.place → ⊥) → offset w s ≡ Err s.place
  offset_elsewhere h = offset_broken (λ o. grind (arith, nat_tests))

  pub offset_other : (width_of (get_or s.links 0 no_link).width ≡ width_of w → ⊥) → offset w s ≡ Err s.place
  offset_other h = offset_broken (λ o. grind (arith, nat_tests))

  pub offset_is : (ms : List Link) (bs : List ℕ) (n : ℕ) → 0 < length s.links → width_of w ≤ length s.bytes → (get_or s.links 0 no_link).position ≡ s.place → width_of (get_or s.links 0 no_link).width ≡ width_of w
      → n ≡ width_of w → bs ≡ drop (width_of w) s.bytes → ms ≡ drop 1 s.links → offset w s ≡ Ok ((get_or s.links 0 no_link).child, record { place = s.place + n; bytes = bs; links = ms })
  unfolding offset
  offset_is ms bs n o a b c d p q = linked_here w s s.links ms bs n o (grind (arith, nat_tests)) d p q
