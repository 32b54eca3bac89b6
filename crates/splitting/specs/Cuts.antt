-- Sizes of subtables and their runs as they stand, and where a reach cuts them.
use Rattle.std.specs.Prelude.{ℕ, zero, suc, ◌+◌, List, [], ◌∷◌, map, length, Some, None, Ok, Err, Option, Result}
use Rattle.refusal.specs.declared.Refusal.{Refusal}
use Rattle.refusal.specs.declared.Refusal.TheVariants.{ClassTooLarge}
use Rattle.serialize.specs.Objects.{Node, bytes_at}
use Rattle.cutting.specs.Computed.{greedy_cuts}
use Rattle.markbase.specs.Values.{Subtable}
use Rattle.pieces.specs.Sizes.{size, run_size}

-- how long the base coverage is
abbrev pub cover_length : List Node → Subtable → ℕ
cover_length nodes t = length (bytes_at nodes t.table.base_coverage)

-- the sizes of the runs of a subtable
abbrev pub sizes_of : List Node → Subtable → ℕ → ℕ → ℕ
sizes_of nodes t = run_size nodes (cover_length nodes t) t.contents

-- the size of all its classes
abbrev pub whole_size : List Node → Subtable → ℕ
whole_size nodes t = size nodes (cover_length nodes t) t.table.class_count t.contents

-- the places of the cutting with longest runs, or the lowest class that alone exceeds the reach
abbrev pub cuts_of : List Node → ℕ → Subtable → Result (List ℕ) ℕ
cuts_of nodes reach t = greedy_cuts (sizes_of nodes t) reach t.table.class_count

-- the places, none where there is no such cutting
abbrev pub places_in : Result (List ℕ) ℕ → List ℕ
places_in (Ok ps) = ps
places_in (Err c) = []

-- the first subtable, from place i on, with a class that alone exceeds the reach, and the lowest such class
abbrev pub too_large : List Node → ℕ → ℕ → List Subtable → Option Refusal
too_large nodes reach i [] = None
too_large nodes reach i (t ∷ ts) = elim (cuts_of nodes reach t) [ Err c ↦ Some (ClassTooLarge i c) | Ok ps ↦ too_large nodes reach (i + 1) ts ]

-- each subtable of a lookup, with the places where it is cut
abbrev pub Plan : Type 0
Plan = List (Subtable × List ℕ)

-- no cuts
abbrev pub uncut : List Subtable → Plan
uncut ts = map (λ (t : Subtable). (t, [])) ts

-- every subtable is cut
abbrev pub cut_each : List Node → ℕ → List Subtable → Plan
cut_each nodes reach ts = map (λ (t : Subtable). (t, places_in (cuts_of nodes reach t))) ts

-- only the one at a place is cut
abbrev pub cut_one : List Node → ℕ → ℕ → List Subtable → Plan
cut_one nodes reach i [] = []
cut_one nodes reach zero (t ∷ ts) = (t, places_in (cuts_of nodes reach t)) ∷ uncut ts
cut_one nodes reach (suc i) (t ∷ ts) = (t, []) ∷ cut_one nodes reach i ts
