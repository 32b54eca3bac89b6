-- What cutting keeps.
use Rattle.std.specs.Prelude.{◌≡◌, ℕ, ◌+◌, ◌-◌, ◌≤◌, Bool, List, ◌∷◌, ◌++◌, map, Some, sum_by, count_by, Option}
use Rattle.std.specs.List.{ContainsAt as Has, flat_map, AllByRecursion}
use Rattle.cutting.specs.Cutting.{Runs, Cutting}
use Rattle.fields.specs.Arrays.{present}
use Rattle.markbase.specs.declared.hits.Hit.{Hit}
use Rattle.markbase.specs.Values.{Mark, Base, Contents, Subtable}
use Rattle.markbase.specs.Hits.{hit_of}
use Rattle.lookups.specs.Hits.{hits_in}
use Rattle.pieces.specs.Pieces.{piece, pieces, Formed}

-- what each subtable holds
abbrev pub contents_of : List Subtable → List Contents
contents_of ts = map (λ (t : Subtable). t.contents) ts

-- the anchors and nulls of the marks
abbrev pub mark_anchors : Contents → List (Option ℕ)
mark_anchors c = map (λ (m : Mark). m.anchor) c.marks

-- the anchors and nulls of the bases
abbrev pub base_anchors : Contents → List (Option ℕ)
base_anchors c = flat_map (λ (b : Base). b.row) c.bases

-- all anchors and nulls
abbrev pub anchors : Contents → List (Option ℕ)
anchors c = mark_anchors c ++ base_anchors c

-- how many of the links that anchors stand for pass a test of the vertex
abbrev pub links : (ℕ → Bool) → List (Option ℕ) → ℕ
links test os = count_by test (present os)

-- what the pieces of k classes keep
pub record Kept (k : ℕ) (c : Contents) (ps : List ℕ) : Type 0 where
  -- subtables that hold the pieces may stand in place of one that holds the whole: every pair has the same hits
  pub hits : (t : Subtable) (us before after : List Subtable) → t.contents ≡ c → contents_of us ≡ pieces k c ps → (m b : ℕ) → hits_in (before ++ (us ++ after)) m b ≡ hits_in (before ++ t ∷ after) m b
  -- the pieces are formed, each for the classes of its run
  pub formed : Runs (λ a b. Formed (b - a) (piece c a b)) 0 k ps
  -- links to anchors are moved: their number stays, whichever are counted
  pub marks : (test : ℕ → Bool) → sum_by (λ (p : Contents). links test (mark_anchors p)) (pieces k c ps) ≡ links test (mark_anchors c)
  pub bases : (test : ℕ → Bool) → sum_by (λ (p : Contents). links test (base_anchors p)) (pieces k c ps) ≡ links test (base_anchors c)
  -- an anchor of a piece is an anchor of the whole
  pub inside : AllByRecursion (λ p. (o : Option ℕ) → Has (anchors p) o → Has (anchors c) o) (pieces k c ps)

-- whatever is held, wherever it is cut
abbrev pub PiecesKeep : Type 0
PiecesKeep = (k : ℕ) (c : Contents) (ps : List ℕ) → Formed k c → Cutting 0 k ps → Kept k c ps

-- a piece of a piece is a piece
abbrev pub PiecesCompose : Type 0
PiecesCompose = (c : Contents) (a b x y : ℕ) → x ≤ y → a + y ≤ b → piece (piece c a b) x y ≡ piece c (a + x) (a + y)

-- the piece of all classes is the whole
abbrev pub WholePiece : Type 0
WholePiece = (k : ℕ) (c : Contents) → Formed k c → piece c 0 k ≡ c

-- the anchors of a hit are anchors of the subtable
pub record HitsAnchors (c : Contents) (m b : ℕ) (h : Hit) : Type 0 where
  pub mark : Has (anchors c) h.mark
  pub base : (v : ℕ) → h.base ≡ Some v → Has (anchors c) h.base

-- in every subtable
abbrev pub HitsFromAnchors : Type 0
HitsFromAnchors = (c : Contents) (m b : ℕ) (h : Hit) → hit_of c m b ≡ Some h → HitsAnchors c m b h
