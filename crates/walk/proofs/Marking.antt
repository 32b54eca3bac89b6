-- Single marks, and how many are missing.
use Rattle.std.proofs.Common.{◌≡◌, ℕ, zero, suc, ◌+◌, ◌<◌, ◌≤◌, Bool, true, false, ◌⊎◌, List, [], ◌∷◌, length, get_or, set, replicate, refl, ap, subst, inl, inr, ⊎_elim, arith}
use Rattle.std.proofs.lemmas.List.{get_or-set_same, get_or-set_other}
use Rattle.std.proofs.lemmas.Bool.{cases_eq, cases_Bool, both_ways, true≢false, false≢true}
use Rattle.walk.specs.Reach.{Marked, Clear}

pub marked? : (ms : List Bool) (v : ℕ) → Marked ms v ⊎ (Marked ms v → ⊥)
marked? ms v = ⊎_elim (λ t. inl t) (λ f. inr (both_ways (get_or ms v false) f)) (cases_Bool (get_or ms v false))

pub set_cases : (ms : List Bool) (v w : ℕ) → Marked (set ms v true) w → (w ≡ v) ⊎ Marked ms w
set_cases ms v w m = ⊎_elim (λ same. inl same) (λ ne. inr (rw (get_or-set_other ms v w true false ne) at m)) (cases_eq w v)

pub set_here : (ms : List Bool) (v : ℕ) → v < length ms → Marked (set ms v true) v
set_here ms v lt = get_or-set_same ms v true false lt

pub set_keeps : (ms : List Bool) (v w : ℕ) → Marked ms w → Marked (set ms v true) w
set_keeps [] v w m = m
set_keeps (x ∷ ms) zero zero m = refl
set_keeps (x ∷ ms) zero (suc w) m = m
set_keeps (x ∷ ms) (suc v) zero m = m
set_keeps (x ∷ ms) (suc v) (suc w) m = set_keeps ms v w m

pub none_marked : (n w : ℕ) → Marked (replicate n false) w → ⊥
none_marked zero w m = false≢true m
none_marked (suc n) zero m = false≢true m
none_marked (suc n) (suc w) m = none_marked n w m

pub clear_none : (ms : List Bool) → Clear ms → (w : ℕ) → Marked ms w → ⊥
clear_none ms clear w m = none_marked (length ms) w (subst (λ (ns : List Bool). Marked ns w) clear m)

-- what the walk's recursion ends by
abbrev pub unmarked : List Bool → ℕ
unmarked [] = 0
unmarked (true ∷ ms) = unmarked ms
unmarked (false ∷ ms) = 1 + unmarked ms

pub unmarked_set : (ms : List Bool) (v : ℕ) → v < length ms → get_or ms v false ≡ false → unmarked (set ms v true) + 1 ≡ unmarked ms
unmarked_set [] v m e = omega arith
unmarked_set (true ∷ ms) zero m e = absurd (true≢false e)
unmarked_set (false ∷ ms) zero m e = omega arith
unmarked_set (true ∷ ms) (suc v) m e = unmarked_set ms v (omega arith) e
unmarked_set (false ∷ ms) (suc v) m e = omega (arith, unmarked_set ms v (omega arith) e)

-- with more marks fewer are missing
pub unmarked_falls : (ms ns : List Bool) → length ms ≡ length ns → ((w : ℕ) → Marked ms w → Marked ns w) → unmarked ns ≤ unmarked ms
unmarked_falls [] [] e h = omega arith
unmarked_falls [] (n ∷ ns) e h = omega arith
unmarked_falls (m ∷ ms) [] e h = omega arith
unmarked_falls (true ∷ ms) (true ∷ ns) e h = unmarked_falls ms ns (omega arith) (λ w. h (suc w))
unmarked_falls (true ∷ ms) (false ∷ ns) e h = absurd (false≢true (h 0 refl))
unmarked_falls (false ∷ ms) (true ∷ ns) e h = omega (arith, unmarked_falls ms ns (omega arith) (λ w. h (suc w)))
unmarked_falls (false ∷ ms) (false ∷ ns) e h = omega (arith, unmarked_falls ms ns (omega arith) (λ w. h (suc w)))

pub set_falls : (ms : List Bool) (v : ℕ) → (set ms v true ≡ ms) ⊎ (unmarked (set ms v true) < unmarked ms)
set_falls [] v = inl refl
set_falls (true ∷ ms) zero = inl refl
set_falls (false ∷ ms) zero = inr (omega arith)
set_falls (true ∷ ms) (suc v) = ⊎_elim (λ e. inl (ap (λ ns. true ∷ ns) e)) (λ l. inr l) (set_falls ms v)
set_falls (false ∷ ms) (suc v) = ⊎_elim (λ e. inl (ap (λ ns. false ∷ ns) e)) (λ l. inr (omega arith)) (set_falls ms v)

pub unmarked_le : (ms : List Bool) → unmarked ms ≤ length ms
unmarked_le [] = omega arith
unmarked_le (true ∷ ms) = omega (arith, unmarked_le ms)
unmarked_le (false ∷ ms) = omega (arith, unmarked_le ms)

pub all_marked : (ms : List Bool) (w : ℕ) → unmarked ms ≡ 0 → w < length ms → Marked ms w
all_marked [] w e l = absurd (omega arith)
all_marked (true ∷ ms) zero e l = refl
all_marked (true ∷ ms) (suc w) e l = all_marked ms w e (omega arith)
all_marked (false ∷ ms) w e l = absurd (omega arith)
