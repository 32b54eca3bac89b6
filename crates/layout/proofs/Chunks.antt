-- The records of a table as arrays: the words of each stand where its place says.
use Rattle.std.proofs.Common.{◌≡◌, ℕ, zero, suc, ◌+◌, ◌*◌, ◌<◌, List, get_or, drop, ap, ◌∙◌, arith}
use Rattle.std.proofs.lemmas.List.{get_or-take, get_or-drop}
use Rattle.std.specs.Simd.{first_chunks}
use Rattle.layout.specs.Format.{word}
use Rattle.layout.specs.Records.{word_at}

-- a word behind the first n bytes
pub word_drop : (n : ℕ) (bs : List ℕ) (p q : ℕ) → n + p ≡ q → word_at (drop n bs) p ≡ word_at bs q
word_drop n bs p q e =
    let f : n + (p + 1) ≡ q + 1 = omega arith in
    λ i. word ((get_or-drop n bs p 0 ∙ ap (λ x. get_or bs x 0) e) i) ((get_or-drop n bs (p + 1) 0 ∙ ap (λ x. get_or bs x 0) f) i)

-- a word of the k-th array of n bytes
pub word_chunk : (n m : ℕ) (bs : List ℕ) (k p : ℕ) (d : List ℕ) → k < m → p + 1 < n → word_at (get_or (first_chunks n m bs) k d) p ≡ word_at bs (n * k + p)
word_chunk n zero bs k p d h l = absurd (omega arith)
word_chunk n (suc m) bs zero p d h l =
    let z : p ≡ n * 0 + p = omega arith in
    (λ i. word (get_or-take n bs p 0 (omega arith) i) (get_or-take n bs (p + 1) 0 l i)) ∙ ap (word_at bs) z
word_chunk n (suc m) bs (suc k) p d h l =
    let z : n + (n * k + p) ≡ n * suc k + p = omega arith in
    word_chunk n m (drop n bs) k p d (omega arith) l ∙ word_drop n bs (n * k + p) (n * suc k + p) z
