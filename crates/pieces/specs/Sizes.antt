-- The size of a run of classes is that of the piece which it makes.
use Rattle.std.specs.Prelude.{◌≡◌, ℕ, ◌+◌, ◌-◌, ◌*◌, ◌<◌, ◌≤◌, ◌⊎◌, List, length, None, count_by, Option, slice_index_or}
use Rattle.std.specs.List.{ContainsAt as Has}
use Rattle.serialize.specs.Objects.{Node, node_at, SoundObjects}
use Rattle.walk.specs.Reach.{Reached}
use Rattle.walk.specs.Computed.{reached_size}
use Rattle.cutting.specs.Cutting.{Monotone}
use Rattle.fields.specs.Arrays.{present}
use Rattle.markbase.specs.Values.{Mark, Base, Contents}
use Rattle.pieces.specs.Pieces.{piece, in_run, Formed}
use Rattle.pieces.specs.Keeping.{anchors}

-- 16, the length of the base coverage, 4, 6 for each mark, 2 for each base and class, and the lengths of all that the anchors reach, each vertex once
unfoldable pub size : List Node → ℕ → ℕ → Contents → ℕ
size nodes cover k c = 16 + cover + 4 + 6 * length c.marks + 2 * length c.bases * k + reached_size nodes (present (anchors c))

-- the size of the run a .. b
abbrev pub run_size : List Node → ℕ → Contents → ℕ → ℕ → ℕ
run_size nodes cover c a b = size nodes cover (b - a) (piece c a b)

-- o is an anchor or a null of the run: of a mark whose class is in it, or of a base for a class that is in it
abbrev pub OfRun : Contents → ℕ → ℕ → Option ℕ → Type 0
OfRun c a b o =
    ((m : Mark) × Has c.marks m × (a ≤ m.class) × (m.class < b) × (m.anchor ≡ o))
    ⊎ ((s : Base) × Has c.bases s × ((x : ℕ) × (a ≤ x) × (x < b) × (x < length s.row) × (slice_index_or s.row x None ≡ o)))

-- what the sizes of runs are, and that a run within another is not larger
pub record Sized (nodes : List Node) (cover : ℕ) (c : Contents) : Type 0 where
  pub only : (a b : ℕ) (o : Option ℕ) → Has (anchors (piece c a b)) o → OfRun c a b o
  pub all : (a b : ℕ) (o : Option ℕ) → OfRun c a b o → Has (anchors (piece c a b)) o
  pub sum : (a b : ℕ) → run_size nodes cover c a b ≡ 16 + cover + 4 + 6 * count_by (in_run a b) c.marks + 2 * length c.bases * (b - a) + reached_size nodes (present (anchors (piece c a b)))
  pub monotone : Monotone (run_size nodes cover c)
  -- runs within a piece are runs of the whole
  pub inner : (a b x y : ℕ) → x ≤ y → a + y ≤ b → run_size nodes cover (piece c a b) x y ≡ run_size nodes cover c (a + x) (a + y)
  pub whole : (k : ℕ) → Formed k c → run_size nodes cover c 0 k ≡ size nodes cover k c

-- in every object graph, whatever is held
abbrev pub RunSizes : Type 0
RunSizes = (nodes : List Node) → SoundObjects nodes → (cover : ℕ) (c : Contents) → Sized nodes cover c

-- other objects keep all that the anchors reach
pub record Agree (nodes nodes' : List Node) (roots : List ℕ) : Type 0 where
  pub within : (w : ℕ) → Reached nodes roots w → (w < length nodes) × (w < length nodes')
  pub same : (w : ℕ) → Reached nodes roots w → node_at nodes' w ≡ node_at nodes w

-- then sizes stay
abbrev pub SizesStay : Type 0
SizesStay = (nodes nodes' : List Node) → SoundObjects nodes → SoundObjects nodes' → (cover k : ℕ) (c : Contents) → Agree nodes nodes' (present (anchors c)) → size nodes' cover k c ≡ size nodes cover k c
