-- The records of a table, by their bytes: what the reader's and the view's own steps promise one another.
use Rattle.std.specs.Prelude.{◌≡◌, ℕ, ◌+◌, ◌-◌, ◌*◌, ◌≤◌, cond, List, length, drop, Some, None, Ok, Err, Option, ◌==◌, slice_index}
use Rattle.layout.specs.Format.{Read, word}

-- the place of the first broken field, if there is one
abbrev pub fault_of : Read → Option ℕ
fault_of (Ok gs) = None
fault_of (Err p) = Some p

-- the word at a byte place
abbrev pub word_at : List ℕ → ℕ → ℕ
word_at bs p = word (slice_index bs p) (slice_index bs (p + 1))

-- the word at the front
abbrev pub front : List ℕ → ℕ
front bs = word (slice_index bs 0) (slice_index bs 1)

-- the range from s to e stands at the front of bs, where it may start at `low` at the earliest, and has `seen` glyphs before it
pub record RangeAt (bs : List ℕ) (low seen s e : ℕ) : Type 0 where
  pub whole : 6 ≤ length bs
  pub start : s ≡ front bs
  pub above : low ≤ s
  pub end : e ≡ front (drop 2 bs)
  pub ordered : s ≤ e
  pub index : seen ≡ front (drop 4 bs)

-- how many ranges a table has, of which each glyph of format 1 is one
abbrev pub range_count : List ℕ → ℕ
range_count bs = word_at bs 2

-- the first glyph of the k-th range
abbrev pub start_of : List ℕ → ℕ → ℕ
start_of bs k = cond (word_at bs 0 == 1) (word_at bs (4 + 2 * k)) (word_at bs (4 + 6 * k))

-- the last glyph of the k-th range
abbrev pub end_of : List ℕ → ℕ → ℕ
end_of bs k = cond (word_at bs 0 == 1) (word_at bs (4 + 2 * k)) (word_at bs (6 + 6 * k))

-- the index of the first glyph of the k-th range
abbrev pub index_of : List ℕ → ℕ → ℕ
index_of bs k = cond (word_at bs 0 == 1) k (word_at bs (8 + 6 * k))

-- the index of the last glyph of the k-th range
abbrev pub last_index : List ℕ → ℕ → ℕ
last_index bs k = index_of bs k + (end_of bs k - start_of bs k)
