-- The tables that are written, read back and sound.
use Rattle.std.proofs.Common.{◌≡◌, ℕ, suc, ◌+◌, ◌<◌, List, [], ◌∷◌, sym, subst, arith}
use Rattle.std.proofs.ByRecursion.{All-weaker}
use Rattle.std.specs.List.{AllByRecursion}
use Rattle.walk.specs.Computed.{children}
use Rattle.fields.specs.Fields.{Reader}
use Rattle.written.specs.Writing.{Written, vertex_of}
use Rattle.written.specs.Laws.{SoundVertex, ReadsAs, LeadsTo, MarksComeBack, BasesComeBack, SubtablesComeBack, ExtensionsComeBack, LookupsComeBack}
use Rattle.written.proofs.Back.{Back, whole_back, marks_back, bases_back, subtable_back, extension_back, lookup_back}
use Rattle.written.proofs.Neat.{Neat, sound_neat, marks_neat, bases_neat, subtable_neat, extension_neat, lookup_neat}

-- what is read back wherever it stands, and is sound there
pub comes : {A : Type 0} {r : Reader A} {a : A} {x : Written} → Back r a x → Neat x → ReadsAs r a x
comes back neat = record { reads = whole_back back; sound = sound_neat neat }

-- mark arrays
pub marks_come_back : MarksComeBack
marks_come_back k ms small few h = comes (marks_back k ms small few h) (marks_neat ms)

-- base arrays
pub bases_come_back : BasesComeBack
bases_come_back k rows few h = comes (bases_back k rows few h) (bases_neat rows)

-- subtables
pub subtables_come_back : SubtablesComeBack
subtables_come_back t some few = comes (subtable_back t some few) (subtable_neat t)

-- extensions
pub extensions_come_back : ExtensionsComeBack
extensions_come_back child = comes (extension_back child) (extension_neat child)

-- lookups
pub lookups_come_back : LookupsComeBack
lookups_come_back l flag few small h = comes (lookup_back l flag few small h) (lookup_neat l)

-- some number is above all of a list
above : (cs : List ℕ) → (n : ℕ) × AllByRecursion (λ c. c < n) cs
above [] = (0, tt)
above (c ∷ cs) =
    let o = above cs in
    (suc c + o.0, (omega arith, All-weaker (λ d. d < o.0) (λ d. d < suc c + o.0) (λ d h. omega arith) cs o.1))

module _ {A : Type 0} {r : Reader A} {a : A} {x : Written} (back : ReadsAs r a x) {targets : A → List ℕ} (lead : LeadsTo r targets) where
  -- what is written leads to the vertices that the value names
  pub written_leads : children (vertex_of x) ≡ targets a
  written_leads = let o = above (children (vertex_of x)) in lead o.0 (vertex_of x) (back.sound o.0 o.1) a back.reads

  -- and is sound wherever those are vertices
  pub written_sound : (count : ℕ) → AllByRecursion (λ c. c < count) (targets a) → SoundVertex count (vertex_of x)
  written_sound count h = back.sound count (subst (AllByRecursion (λ c. c < count)) (sym written_leads) h)
