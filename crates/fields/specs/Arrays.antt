-- The records of the mark array and of the base array, field by field.
use Rattle.std.specs.Prelude.{ℕ, List, [], ◌∷◌, Some, None, Option, nat_eq, nat_lt}
use Rattle.fields.specs.Fields.{Reader, nullable, allowed, give, times, ◌⟫◌}

-- a mark: its class, below k, and its anchor or a null
abbrev pub mark : ℕ → Reader (ℕ × Option ℕ)
mark k = allowed (λ c. nat_lt c k) ⟫ λ class. nullable ⟫ λ anchor. give (class, anchor)

-- n marks of k classes
abbrev pub mark_array_reader : ℕ → ℕ → Reader (List (ℕ × Option ℕ))
mark_array_reader n k = allowed (nat_eq n) ⟫ λ count. times n (mark k)

-- n bases, each with an anchor or a null for each of k classes
abbrev pub base_array_reader : ℕ → ℕ → Reader (List (List (Option ℕ)))
base_array_reader n k = allowed (nat_eq n) ⟫ λ count. times n (times k nullable)

-- the vertices among anchors, nulls left out
abbrev pub present : List (Option ℕ) → List ℕ
present [] = []
present (Some v ∷ os) = v ∷ present os
present (None ∷ os) = present os
