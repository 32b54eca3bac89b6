-- A vertex that is read as a whole.
use Rattle.std.specs.Prelude.{ℕ, Result}
use Rattle.serialize.specs.Objects.{Node}
use Rattle.fields.specs.Fields.{Reader, whole}
use Rattle.markbase.specs.declared.data.DataBytes.{DataBytes}

-- the vertex that a view borrows
abbrev pub node_of : DataBytes → Node
node_of d = record { bytes = d.bytes.now; links = d.links.now }

-- what a vertex reads as
abbrev pub read : {A : Type 0} → Reader A → Node → Result A ℕ
read r x = whole r x.bytes x.links
