-- Where a repetition breaks.
use Rattle.std.proofs.Common.{◌≡◌, ℕ, suc, cond, eqb, List, length, Some, None, Ok, Err, Option, Result, refl, ap, ◌∙◌}
use Rattle.fields.specs.Fields.{Rest, Reader, then, also, times}

-- what comes of a reading: E of its broken place, or V of what is left
abbrev pub onward : {A C : Type 0} → (ℕ → C) → (Rest → C) → Result (A × Rest) ℕ → C
onward E V (Ok r) = V r.1
onward E V (Err p) = E p

-- the place of the first broken field, if there is one
abbrev pub fault_of : {A : Type 0} → Result A ℕ → Option ℕ
fault_of (Ok a) = None
fault_of (Err p) = Some p

abbrev pub at_end : Rest → Option ℕ
at_end s = cond (eqb (length s.bytes) 0) None (Some s.place)

module _ {A C : Type 0} (E : ℕ → C) (V : Rest → C) where
  onward_also : (a : A) (x : Result (List A × Rest) ℕ) → onward E V (also a x) ≡ onward E V x
  onward_also a (Ok r) = refl
  onward_also a (Err p) = refl

  onward_then : (x : Result (A × Rest) ℕ) (k : Reader (List A)) → onward E V (then x (λ a s. also a (k s))) ≡ onward E (λ s. onward E V (k s)) x
  onward_then (Ok r) k = onward_also r.0 (k r.1)
  onward_then (Err p) k = refl

  -- m are to come, of which n after the next
  module _ (r : Reader A) (m n : ℕ) (s : Rest) (more : m ≡ suc n) where
    pub times_open : onward E V (times m r s) ≡ onward E (λ t. onward E V (times n r t)) (r s)
    times_open = ap (λ k. onward E V (times k r s)) more ∙ onward_then (r s) (times n r)

    pub times_step : (a : A) (t : Rest) → r s ≡ Ok (a, t) → onward E V (times m r s) ≡ onward E V (times n r t)
    times_step a t e = times_open ∙ ap (onward E (λ t. onward E V (times n r t))) e
