-- The hits of a mark and a base in the open lookup.
use Rattle.std.specs.Prelude.{ℕ, List, [], Some, None, Ok, Err, Option, Result}
use Rattle.refusal.specs.declared.Refusal.{Refusal}
use Rattle.refusal.specs.declared.Refusal.TheVariants.{NothingOpen}
use Rattle.markbase.specs.declared.hits.Hit.{Hit}
use Rattle.lookups.specs.declared.fault.LookupFault.{LookupFault}
use Rattle.lookups.specs.Values.{LookupValue, lookup_of}
use Rattle.lookups.specs.Hits.{hits, attach_in}
use Rattle.workspace.specs.Model.{Model}

-- the hits of a lookup that was read
abbrev pub hits_in : Result LookupValue LookupFault → ℕ → ℕ → List Hit
hits_in (Ok l) mark base = hits l mark base
hits_in (Err f) mark base = []

-- the hits of a pair in the open lookup, in the order of its subtables
abbrev pub hits_of : Model → ℕ → ℕ → List Hit
hits_of m mark base = elim m.lookup [ None ↦ [] | Some v ↦ hits_in (lookup_of m.graph.nodes v) mark base ]

-- what `attach` answers: the first of them or none, unless no lookup is open
abbrev pub attach_of : Model → ℕ → ℕ → Result (Option Hit) Refusal
attach_of m mark base = elim m.lookup [ None ↦ Err NothingOpen | Some v ↦ Ok (attach_in (lookup_of m.graph.nodes v) mark base) ]
