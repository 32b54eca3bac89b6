-- What the scan of the link records knows on its way.
use Rattle.std.specs.Prelude.{◌≡◌, ℕ, ◌+◌, ◌*◌, ◌<◌, ◌≤◌, true, false, List, Some, None, Option}
use Rattle.serialize.specs.declared.object_file.Trailer.{Trailer}
use Rattle.serialize.specs.declared.object_file.Scan.{Scan}
use Rattle.serialize.specs.ObjectFile.{start_at, record_at, keeps_rules}

-- the records before i keep every rule
abbrev pub KeptBelow : List ℕ → Trailer → ℕ → Type 0
KeptBelow file t i = (j : ℕ) → j < i → keeps_rules file t j ≡ true

-- where the scan stands: at a vertex, with the place of its bytes
abbrev pub StandsAt : List ℕ → Trailer → Scan → Type 0
StandsAt file t s = (s.start ≡ start_at file t s.vertex) × (s.start ≤ s.vertex * 4294967295)

-- before record i: at the parent of the record before it, and at first at vertex 0
abbrev pub ScannedTo : List ℕ → Trailer → ℕ → Scan → Type 0
ScannedTo file t i s = StandsAt file t s × (i ≡ 0 → s.vertex ≡ 0) × ((j : ℕ) → j + 1 ≡ i → s.vertex ≡ (record_at file t j).parent)

-- the answer of the check of one record
abbrev pub Checked : List ℕ → Trailer → ℕ → Option Scan → Type 0
Checked file t i None = keeps_rules file t i ≡ false
Checked file t i (Some s) = (keeps_rules file t i ≡ true) × ScannedTo file t (i + 1) s
