-- Histories of calls, and what every history keeps.
use Rattle.std.specs.Prelude.{◌≡◌, ℕ, Bool, true, false, List, [], ◌∷◌, Some, None, Ok, Err, Option, Result}
use Rattle.std.specs.List.{AllByRecursion}
use Rattle.refusal.specs.declared.Refusal.{Refusal}
use Rattle.serialize.specs.Objects.{Node, node_at}
use Rattle.walk.specs.Reach.{Reach}
use Rattle.markbase.specs.declared.hits.Hit.{Hit}
use Rattle.workspace.specs.Model.{Model, made_of}
use Rattle.workspace.specs.Loading.{Loads}
use Rattle.workspace.specs.Opening.{Opens, Closes}
use Rattle.workspace.specs.Attaching.{hits_of, attach_of}

-- a line of a history: a call with what it was given, and its answer
pub data Line : Type 0 where
  loading : List ℕ → Result ℕ Refusal → Line
  opening : ℕ → Result ℕ Refusal → Line
  closing : Result ℕ Refusal → Line
  attaching : ℕ → ℕ → Result (Option Hit) Refusal → Line
  asking : ℕ → Line

-- the call of a line leads from one model to another
abbrev pub Step : Model → Line → Model → Type 0
Step m (loading file r) m' = Loads m file r m'
Step m (opening v r) m' = Opens m v r m'
Step m (closing r) m' = Closes m r m'
Step m (attaching mark base r) m' = (r ≡ attach_of m mark base) × (m' ≡ m)
Step m (asking n) m' = (n ≡ made_of m) × (m' ≡ m)

-- whether a call was done
abbrev pub done : Result ℕ Refusal → Bool
done (Ok n) = true
done (Err e) = false

-- a line that ends what holds of the open lookup: a done `close` or `load`
abbrev pub ends : Line → Bool
ends (loading file r) = done r
ends (opening v r) = false
ends (closing r) = done r
ends (attaching mark base r) = false
ends (asking n) = false

-- a history from a model, the latest line first, none of which ends it; a part of it from its beginning is a history too
pub data History (m : Model) : List Line → Model → Type 0 where
  start : History m [] m
  next : {ls : List Line} {m' m'' : Model} → History m ls m' → (l : Line) → ends l ≡ false → Step m' l m'' → History m (l ∷ ls) m''

-- all that a vertex reaches is the same: the same vertices, each with the same bytes and links
abbrev pub SameReached : List Node → List Node → ℕ → Type 0
SameReached nodes nodes' v = (w : ℕ) → (Reach nodes v w → Reach nodes' v w × (node_at nodes' w ≡ node_at nodes w)) × (Reach nodes' v w → Reach nodes v w)

-- the same of an anchor or a null
abbrev pub SameAnchor : List Node → List Node → Option ℕ → Type 0
SameAnchor nodes nodes' None = Unit {0}
SameAnchor nodes nodes' (Some v) = SameReached nodes nodes' v

-- a hit is the same in both: so is all that its anchors reach
abbrev pub SameHit : List Node → List Node → Hit → Type 0
SameHit nodes nodes' h = SameAnchor nodes nodes' h.mark × SameAnchor nodes nodes' h.base

-- a pair of glyphs has the same hits in the same order, and `attach` answers the same
pub record SamePair (m m' : Model) (mark base : ℕ) : Type 0 where
  pub hits : hits_of m' mark base ≡ hits_of m mark base
  pub same : AllByRecursion (SameHit m.graph.nodes m'.graph.nodes) (hits_of m mark base)
  pub attach : attach_of m' mark base ≡ attach_of m mark base

-- every history from a model keeps every pair
abbrev pub Keeps : Model → Type 0
Keeps m = (ls : List Line) (m' : Model) → History m ls m' → (mark base : ℕ) → SamePair m m' mark base

-- the law: it holds after every `open` that is done
abbrev pub OpenKeeps : Result ℕ Refusal → Model → Type 0
OpenKeeps (Ok n) m = Keeps m
OpenKeeps (Err e) m = Unit {0}
