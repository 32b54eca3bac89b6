-- Objects: vertices with their bytes and their links.
use Rattle.std.specs.Prelude.{◌≡◌, ℕ, ◌+◌, ◌*◌, ◌<◌, ◌≤◌, Bool, true, cond, ◌&&◌, List, [], ◌∷◌, length, take, drop, Some, None, count_by, Option, ◌==◌, nat_eq, slice_index, slice_index_or}
use Rattle.std.specs.List.{flat_map}
use Rattle.serialize.specs.declared.link.Link.{Link}
use Rattle.serialize.specs.declared.link.LinkWidth.TheVariants.{Two}
use Rattle.serialize.specs.Width.{width_of}

-- a vertex: its bytes, and its links in ascending order of their positions
pub record Node : Type 0 where
  pub bytes : List ℕ
  pub links : List Link

-- what stands past the last vertex
abbrev pub no_node : Node
no_node = record { bytes = []; links = [] }

-- a vertex by its number
abbrev pub node_at : List Node → ℕ → Node
node_at nodes v = slice_index_or nodes v no_node

-- a vertex's bytes
abbrev pub bytes_at : List Node → ℕ → List ℕ
bytes_at nodes v = (node_at nodes v).bytes

-- a vertex's links
abbrev pub links_at : List Node → ℕ → List Link
links_at nodes v = (node_at nodes v).links

-- the links of all vertices, in their order
abbrev pub all_links : List Node → List Link
all_links nodes = flat_map (λ (x : Node). x.links) nodes

-- how many links of a list lead to a vertex
abbrev pub leading_to : List Link → ℕ → ℕ
leading_to links v = count_by (λ (l : Link). nat_eq l.child v) links

-- how many links of all vertices lead to a vertex
abbrev pub incoming : List Node → ℕ → ℕ
incoming nodes v = leading_to (all_links nodes) v

-- n elements from a place on
abbrev pub part : {X : Type 0} → ℕ → ℕ → List X → List X
part from n xs = take n (drop from xs)

-- whether all bytes are zero
abbrev pub zeros : List ℕ → Bool
zeros [] = true
zeros (b ∷ bs) = b == 0 && zeros bs

-- the number that two bytes spell, the higher first
abbrev pub word_at : List ℕ → ℕ → ℕ
word_at bytes p = slice_index bytes p * 256 + slice_index bytes (p + 1)

-- what stands past the last link
abbrev pub no_link : Link
no_link = record { position = 0; child = 0; width = Two }

-- a link by its index
abbrev pub link_at : List Link → ℕ → Link
link_at links i = slice_index_or links i no_link

-- where a link's field ends
abbrev pub end_of : Link → ℕ
end_of l = l.position + width_of l.width

-- the bytes of a link's field
abbrev pub field_of : List ℕ → Link → List ℕ
field_of bytes l = part l.position (width_of l.width) bytes

-- the link whose field begins at a position
abbrev pub link_in : List Link → ℕ → Option Link
link_in [] p = None
link_in (l ∷ ls) p = cond (l.position == p) (Some l) (link_in ls p)

-- fields follow one another and do not overlap
abbrev pub Ascends : List Link → Type 0
Ascends links = (i j : ℕ) → i < j → j < length links → end_of (link_at links i) ≤ (link_at links j).position

-- a link's child is one of count vertices, and its field lies inside the bytes and is zero
abbrev pub FieldFits : ℕ → List ℕ → Link → Type 0
FieldFits count bytes l = (l.child < count) × (end_of l ≤ length bytes) × (zeros (field_of bytes l) ≡ true)

-- all links of a vertex fit
abbrev pub LinksFit : ℕ → Node → Type 0
LinksFit count x = (i : ℕ) → i < length x.links → FieldFits count x.bytes (link_at x.links i)

-- an object graph: each vertex's fields ascend, do not overlap and fit
abbrev pub SoundObjects : List Node → Type 0
SoundObjects nodes = (v : ℕ) → v < length nodes → Ascends (links_at nodes v) × LinksFit (length nodes) (node_at nodes v)
