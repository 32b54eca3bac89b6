-- Histories of calls, and what every history keeps.
use Rattle.std.specs.Prelude.{◌≡◌, ℕ, ◌+◌, ◌^◌, ◌<◌, ◌≤◌, Bool, true, false, List, [], ◌∷◌, ◌++◌, length, Ok, Err, Option, Result, slice_index}
use Rattle.std.specs.List.{AllByRecursion}
use Rattle.refusal.specs.declared.Refusal.{Refusal}
use Rattle.refusal.specs.declared.Refusal.TheVariants.{ClassTooLarge}
use Rattle.serialize.specs.Objects.{Node, bytes_at, SoundObjects}
use Rattle.fields.specs.Laws.{Iff}
use Rattle.cutting.specs.Cutting.{Cutting, Fits, NoneFits}
use Rattle.coverage_writers.specs.Writing.{Lawful}
use Rattle.markbase.specs.declared.hits.Hit.{Hit}
use Rattle.markbase.specs.Values.{Subtable}
use Rattle.pieces.specs.Pieces.{pieces}
use Rattle.pieces.specs.Keeping.{contents_of}
use Rattle.splitting.specs.Vertices.{Meaning}
use Rattle.splitting.specs.Cuts.{sizes_of, whole_size}
use Rattle.splitting.specs.Standing.{SameAnchor}
use Rattle.workspace.specs.Model.{Model, made_of}
use Rattle.workspace.specs.Loading.{Loads}
use Rattle.workspace.specs.Opening.{Opens, Closes}
use Rattle.workspace.specs.Attaching.{hits_of, attach_of}
use Rattle.splits.specs.Splitting.{subtables_of, Splits, SplitsAll, Extends}

-- a line of a history: a call with what it was given, and its answer; a call that cuts was given any lawful writer
pub data Line : Type 0 where
  loading : List ℕ → Result ℕ Refusal → Line
  opening : ℕ → Result ℕ Refusal → Line
  closing : Result ℕ Refusal → Line
  attaching : ℕ → ℕ → Result (Option Hit) Refusal → Line
  asking : ℕ → Line
  splitting : (w : Meaning) → Lawful w → ℕ → ℕ → Result ℕ Refusal → Line
  splitting_all : (w : Meaning) → Lawful w → ℕ → Result ℕ Refusal → Line
  extending : Result ℕ Refusal → Line

-- the call of a line leads from one model to another
abbrev pub Step : Model → Line → Model → Type 0
Step m (loading file r) m' = Loads m file r m'
Step m (opening v r) m' = Opens m v r m'
Step m (closing r) m' = Closes m r m'
Step m (attaching mark base r) m' = (r ≡ attach_of m mark base) × (m' ≡ m)
Step m (asking n) m' = (n ≡ made_of m) × (m' ≡ m)
Step m (splitting w lawful place reach r) m' = Splits w m place reach r m'
Step m (splitting_all w lawful reach r) m' = SplitsAll w m reach r m'
Step m (extending r) m' = Extends m r m'

-- whether a call was done
abbrev pub done : Result ℕ Refusal → Bool
done (Ok n) = true
done (Err e) = false

-- a line that ends what holds of the open lookup: a done `close` or `load`
abbrev pub ends : Line → Bool
ends (loading file r) = done r
ends (opening v r) = false
ends (closing r) = done r
ends (attaching mark base r) = false
ends (asking n) = false
ends (splitting w lawful place reach r) = false
ends (splitting_all w lawful reach r) = false
ends (extending r) = false

-- a history from a model, the latest line first, none of which ends it; a part of it from its beginning is a history too
pub data History (m : Model) : List Line → Model → Type 0 where
  start : History m [] m
  next : {ls : List Line} {m' m'' : Model} → History m ls m' → (l : Line) → ends l ≡ false → Step m' l m'' → History m (l ∷ ls) m''

-- a hit is the same in both: so is all that its anchors reach
abbrev pub SameHit : List Node → List Node → Hit → Type 0
SameHit nodes nodes' h = SameAnchor nodes nodes' h.mark × SameAnchor nodes nodes' h.base

-- a pair of glyphs has the same hits in the same order, and `attach` answers the same
pub record SamePair (m m' : Model) (mark base : ℕ) : Type 0 where
  pub hits : hits_of m' mark base ≡ hits_of m mark base
  pub same : AllByRecursion (SameHit m.graph.nodes m'.graph.nodes) (hits_of m mark base)
  pub attach : attach_of m' mark base ≡ attach_of m mark base

-- the subtable t stands at a place of the open lookup, behind these and before those
pub record At (m : Model) (place : ℕ) (before : List Subtable) (t : Subtable) (after : List Subtable) : Type 0 where
  pub stands : subtables_of m ≡ before ++ t ∷ after
  pub here : length before ≡ place

-- 12 is the answer exactly if no cutting of the classes of t fits the reach
abbrev pub Refuses : Model → ℕ → Subtable → ℕ → Result ℕ Refusal → Type 0
Refuses m place t reach r = Iff ((c : ℕ) × (r ≡ Err (ClassTooLarge place c))) (NoneFits (sizes_of m.graph.nodes t) reach t.table.class_count)

-- a split that answers n has left pieces of t in its place, one more than n, cut at n places; each fits the reach, and no cutting that fits has fewer runs
pub record Fewest (m m' : Model) (before : List Subtable) (t : Subtable) (after : List Subtable) (reach n : ℕ) : Type 0 where
  pub places : List ℕ
  pub parts : List Subtable
  pub cuts : Cutting 0 t.table.class_count places
  pub runs : contents_of parts ≡ pieces t.table.class_count t.contents places
  pub left : subtables_of m' ≡ before ++ (parts ++ after)
  pub count : length parts ≡ n + 1
  pub fit : AllByRecursion (λ (p : Subtable). whole_size m'.graph.nodes p ≤ reach) parts
  pub fewest : (qs : List ℕ) → Cutting 0 t.table.class_count qs → Fits (sizes_of m.graph.nodes t) reach 0 t.table.class_count qs → n ≤ length qs

-- what holds of every history from a model
pub record Keeps (m : Model) : Type 0 where
  -- every pair keeps its hits, and `attach` its answers
  pub pairs : (ls : List Line) (m' : Model) → History m ls m' → (mark base : ℕ) → SamePair m m' mark base
  -- `split` with a valid place and reach is refused by 12 exactly if no cutting fits
  pub refused : (ls : List Line) (m' : Model) → History m ls m' → (w : Meaning) → Lawful w → (place reach : ℕ) (before : List Subtable) (t : Subtable) (after : List Subtable) → At m' place before t after
      → 1 ≤ reach → reach ≤ 65535 → (r : Result ℕ Refusal) (m'' : Model) → Splits w m' place reach r m'' → Refuses m' place t reach r
  -- a done `split` leaves as few pieces as can be
  pub fewest : (ls : List Line) (m' : Model) → History m ls m' → (w : Meaning) → Lawful w → (place reach n : ℕ) (before : List Subtable) (t : Subtable) (after : List Subtable) → At m' place before t after
      → (m'' : Model) → Splits w m' place reach (Ok n) m'' → Fewest m' m'' before t after reach n

-- the law: it holds after every `open` that is done
abbrev pub OpenKeeps : Result ℕ Refusal → Model → Type 0
OpenKeeps (Ok n) m = Keeps m
OpenKeeps (Err e) m = Unit {0}

-- the law holds in all sound objects whose bytes are bytes, while vertices can be counted in a word
abbrev pub HistoriesKeep : Type 0
HistoriesKeep =
    (m : Model) → SoundObjects m.graph.nodes → ((u i : ℕ) → slice_index (bytes_at m.graph.nodes u) i < 256) → m.graph.capacity.vertices < 2 ^ 16
    → (v : ℕ) (r : Result ℕ Refusal) (m' : Model) → Opens m v r m' → OpenKeeps r m'
