-- The order of the link records.
use Rattle.std.proofs.Common.{◌≡◌, ℕ, zero, suc, ◌+◌, ◌<◌, ◌≤◌, true, ◌&&◌, ◌⊎◌, List, None, sym, refl, ap, ◌∙◌, inl, inr, arith, below_more}
use Rattle.std.proofs.lemmas.Bool.Decides.{nat_tests}
use Rattle.std.proofs.lemmas.Bool.{cases_Bool, and_parts}
use Rattle.serialize.specs.declared.object_file.Trailer.{Trailer}
use Rattle.serialize.specs.declared.object_file.LinkRecord.{LinkRecord}
use Rattle.serialize.specs.declared.object_file.Scan.{Scan}
use Rattle.serialize.specs.ObjectFile.{record_at, sound_alone, follows, every, keeps_rules, first_broken}
use Rattle.serialize.specs.Scanning.{KeptBelow, ScannedTo}
use Rattle.serialize.proofs.Firsts.{every_in, every_out, every_not, none_out}

pub follows_out : (p r : LinkRecord) → follows p r ≡ true → (p.parent < r.parent) ⊎ ((p.parent ≡ r.parent) × (p.position + p.width ≤ r.position))
follows_out p r e = grind (arith, nat_tests)

pub follows_parent : (p r : LinkRecord) → follows p r ≡ true → p.parent ≤ r.parent
follows_parent p r e = grind (arith, nat_tests)

follows_on : (p q r : LinkRecord) → follows p q ≡ true → follows q r ≡ true → follows p r ≡ true
follows_on p q r e f = grind (arith, nat_tests)

module _ (file : List ℕ) (t : Trailer) where
  pub in_order : (i j : ℕ) → keeps_rules file t i ≡ true → j < i → follows (record_at file t j) (record_at file t i) ≡ true
  in_order i j k h = every_out i (λ j. follows (record_at file t j) (record_at file t i)) (and_parts _ _ k).1 j h

  -- a record that follows the last of the records before it follows them all
  pub ask_last : (n i : ℕ) (r : LinkRecord) → n + 1 ≡ i → KeptBelow file t i → follows (record_at file t n) r ≡ every i (λ j. follows (record_at file t j) r)
  ask_last n i r last kept =
      elim (cases_Bool (follows (record_at file t n) r)) [
        | inl after ↦
            after
            ∙ sym (every_in i _ (λ j h.
            below_more (λ k. follows (record_at file t k) r ≡ true) n (λ k l. follows_on (record_at file t k) (record_at file t n) r (in_order n k (kept n (omega arith)) l) after) after j (omega arith)))
        | inr off ↦ off ∙ sym (every_not i _ n (omega arith) off)
      ]

  -- the rules, of a record as it was read
  pub rules_are : (i : ℕ) (r : LinkRecord) → r ≡ record_at file t i → keeps_rules file t i ≡ (sound_alone file t r && every i (λ j. follows (record_at file t j) r))
  rules_are i r e = ap (λ (x : LinkRecord). sound_alone file t x && every i (λ j. follows (record_at file t j) x)) (sym e)

  -- where no record is broken, each keeps the rules
  pub all_keep : first_broken file t ≡ None → (k : ℕ) → k < t.links → keeps_rules file t k ≡ true
  unfolding first_broken
  all_keep none k h = none_out t.links (keeps_rules file t) none k h

  -- the scan has not passed the parent of a record in order
  pub not_passed : (i : ℕ) (s : Scan) (r : LinkRecord) → ScannedTo file t i s → every i (λ j. follows (record_at file t j) r) ≡ true → s.vertex ≤ r.parent
  not_passed zero s r to all = omega (arith, to.1 refl)
  not_passed (suc n) s r to all = omega (arith, to.2 n (omega arith), follows_parent (record_at file t n) r (every_out (suc n) (λ j. follows (record_at file t j) r) all n (omega arith)))
