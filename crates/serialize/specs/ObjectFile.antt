-- Object files, from the format: bytes in number order, lengths, link records, a trailer; all numbers of four bytes.
use Rattle.std.specs.Prelude.{ℕ, zero, suc, ◌+◌, ◌-◌, ◌*◌, Bool, true, cond, ◌&&◌, ◌||◌, List, map, length, take, is_some, Some, None, sum, filter, Option, ◌==◌, nat_eq, nat_le, nat_lt, slice_index}
use Rattle.std.specs.List.{range_with_len}
use Rattle.std.specs.Option.{unwrap_or}
use Rattle.serialize.specs.declared.link.Link.{Link}
use Rattle.serialize.specs.declared.link.LinkWidth.TheVariants.{Two}
use Rattle.serialize.specs.declared.object_file.Trailer.{Trailer}
use Rattle.serialize.specs.declared.object_file.LinkRecord.{LinkRecord}
use Rattle.serialize.specs.Width.{width_from}
use Rattle.serialize.specs.Objects.{Node, part, zeros}

-- the number that four bytes spell, the highest first
abbrev pub u32_at : List ℕ → ℕ → ℕ
u32_at file p = slice_index file p * 16777216 + slice_index file (p + 1) * 65536 + slice_index file (p + 2) * 256 + slice_index file (p + 3)

-- the trailer's tag, which is MKOB
abbrev pub tag_of : List ℕ → ℕ
tag_of file = u32_at file (length file - 20)

-- the trailer's numbers: the places of the lengths and of the records, and how many of each there are
abbrev pub numbers_of : List ℕ → Trailer
numbers_of file = record {
  lengths = u32_at file (length file - 20 + 4);
  records = u32_at file (length file - 20 + 8);
  vertices = u32_at file (length file - 20 + 12);
  links = u32_at file (length file - 20 + 16);
}

-- the length of a vertex
abbrev pub length_at : List ℕ → Trailer → ℕ → ℕ
length_at file t v = u32_at file (t.lengths + 4 * v)

-- the lengths of all vertices
abbrev pub lengths_of : List ℕ → Trailer → List ℕ
lengths_of file t = map (length_at file t) (range_with_len 0 t.vertices)

-- where a vertex's bytes begin
abbrev pub start_at : List ℕ → Trailer → ℕ → ℕ
start_at file t v = sum (take v (lengths_of file t))

-- a link record
abbrev pub record_at : List ℕ → Trailer → ℕ → LinkRecord
record_at file t i = record {
  parent = u32_at file (t.records + 16 * i);
  position = u32_at file (t.records + 16 * i + 4);
  child = u32_at file (t.records + 16 * i + 8);
  width = u32_at file (t.records + 16 * i + 12);
}

-- all link records
abbrev pub records_of : List ℕ → Trailer → List LinkRecord
records_of file t = map (record_at file t) (range_with_len 0 t.links)

-- the parts follow one another to the file's end
abbrev pub gapless : ℕ → Trailer → Bool
gapless len t = t.lengths + 4 * t.vertices == t.records && t.records + 16 * t.links + 20 == len

-- a file's trailer, if it has one, its parts have no gaps and the lengths add up to the place where they stand
unfoldable pub trailer_of : List ℕ → Option Trailer
trailer_of file =
    cond (nat_le 20 (length file) && (tag_of file == 0x4D4B4F42 && (gapless (length file) (numbers_of file) && sum (lengths_of file (numbers_of file)) == (numbers_of file).lengths)))
    (Some (numbers_of file)) None

-- what a record keeps alone: both vertices exist, its field has two, three or four bytes, lies in its parent, and is zero
abbrev pub sound_alone : List ℕ → Trailer → LinkRecord → Bool
sound_alone file t r =
    nat_lt r.parent t.vertices && (nat_lt r.child t.vertices && (is_some (width_from r.width) && (nat_le (r.position + r.width) (length_at file t r.parent)
    && zeros (part (start_at file t r.parent + r.position) r.width file))))

-- what it keeps with one before it: a higher parent, or the same and a field behind the other's
abbrev pub follows : LinkRecord → LinkRecord → Bool
follows p r = nat_lt p.parent r.parent || (p.parent == r.parent && nat_le (p.position + p.width) r.position)

-- whether a test holds of every number below n
abbrev pub every : ℕ → (ℕ → Bool) → Bool
every zero p = true
every (suc n) p = every n p && p n

-- the lowest number below n at which a test fails
abbrev pub lowest_failing : ℕ → (ℕ → Bool) → Option ℕ
lowest_failing zero p = None
lowest_failing (suc n) p = elim (lowest_failing n p) [ None ↦ cond (p n) None (Some n) | Some i ↦ Some i ]

-- a record keeps every rule, alone and with those before it
abbrev pub keeps_rules : List ℕ → Trailer → ℕ → Bool
keeps_rules file t i = sound_alone file t (record_at file t i) && every i (λ j. follows (record_at file t j) (record_at file t i))

-- the first record that does not
unfoldable pub first_broken : List ℕ → Trailer → Option ℕ
first_broken file t = lowest_failing t.links (keeps_rules file t)

-- the link that a record stands for
abbrev pub link_from : LinkRecord → Link
link_from r = record { position = r.position; child = r.child; width = unwrap_or (width_from r.width) Two }

-- a vertex of the file: its bytes, and the links of the records that name it as parent
abbrev pub node_of : List ℕ → Trailer → ℕ → Node
node_of file t v = record {
  bytes = part (start_at file t v) (length_at file t v) file;
  links = map link_from (filter (λ (r : LinkRecord). nat_eq r.parent v) (records_of file t));
}

-- all vertices of the file
abbrev pub nodes_of : List ℕ → Trailer → List Node
nodes_of file t = map (node_of file t) (range_with_len 0 t.vertices)
