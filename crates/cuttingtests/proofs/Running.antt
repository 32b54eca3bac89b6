-- A run of classes that share things takes one class more.
use Rattle.std.proofs.Common.{◌≡◌, ℕ, suc, ◌+◌, ◌-◌, ◌<◌, ◌≤◌, Bool, true, false, cond, eqb, ◌≢◌, List, length, get_or, set, replicate, sym, refl, ap, ◌∙◌, arith, get_or-set_other, get_or-set_same}
use native.Mathlib.Decide.{dec_lt}
use Rattle.std.proofs.lemmas.List.{get_or_past, get_or-replicate, length-set, length-replicate}
use Rattle.std.proofs.lemmas.Bool.{eqb-true, eqb-false}
use Rattle.cuttingtests.specs.Sizes.{uses, used, added}
use Rattle.cuttingtests.specs.Shared.{at, Run}

module _ {base : ℕ} {things sizes : List ℕ} where
  -- with no mark, the total is that of no class
  pub run_none : (n c : ℕ) → Run base things sizes (replicate n false) base c c
  run_none n c =
      let e : c - c ≡ 0 = omega arith in
      let h = ap (used (at things) (at sizes) c) e in
      record {
        forward = omega arith;
        sum = omega arith;
        small = omega arith;
        marked = λ t l. get_or-replicate n t false false (rw length-replicate at l) ∙ sym (ap (uses (at things) t c) e);
      }

  module _ {marks : List Bool} {total start end : ℕ} (s : Run base things sizes marks total start end) where
    -- the thing of the next class
    abbrev thing : ℕ
    thing = at things end

    abbrev more : ℕ
    more = cond (get_or marks thing false) 0 (at sizes thing)

    -- what a class that uses a thing adds is 0 past the marks
    zero_past : (b : Bool) → at sizes thing ≡ 0 → cond b 0 (at sizes thing) ≡ 0
    zero_past true e = refl
    zero_past false e = e

    more_is : length marks ≡ length sizes → more ≡ added (at things) (at sizes) end start (end - start)
    more_is len =
        elim (dec_lt thing (length marks)) [
          | yes h ↦ ap (λ b. cond b 0 (at sizes thing)) (s.marked thing h)
          | no h ↦
              let z = get_or_past sizes thing 0 (omega arith) in
              zero_past (get_or marks thing false) z ∙ sym (zero_past (uses (at things) thing start (end - start)) z)
        ]

    next : end + 1 - start ≡ suc (end - start)
    next = omega (arith, s.forward)

    last : start + (end - start) ≡ end
    last = omega (arith, s.forward)

    marked_more : (t : ℕ) → t < length (set marks thing true) → get_or (set marks thing true) t false ≡ uses (at things) t start (end + 1 - start)
    marked_more t l =
        go (eqb thing t) refl
        ∙ ap (λ c. cond (eqb (at things c) t) true (uses (at things) t start (end - start))) (sym last)
        ∙ ap (uses (at things) t start) (sym next)
      where
        go : (b : Bool) → eqb thing t ≡ b → get_or (set marks thing true) t false ≡ cond b true (uses (at things) t start (end - start))
        go true e = let i = eqb-true thing t e in let lt : thing < length marks = omega (arith, length-set marks thing true) in rw (sym i) (get_or-set_same marks thing true false lt)
        go false e = let ne : t ≢ thing = λ i. eqb-false thing t e (sym i) in rw get_or-set_other (s.marked t (omega (arith, length-set marks thing true)))

    pub run_more : {r : ℕ} {new : List Bool} → length marks ≡ length sizes → r ≡ more → r ≤ 4294967295 → new ≡ set marks thing true → Run base things sizes new (total + r) start (end + 1)
    run_more len is le put =
        let m = more_is len in
        let e = ap (used (at things) (at sizes) start) next in
        let f = ap (λ c. added (at things) (at sizes) c start (end - start)) last in
        record { forward = omega (arith, s.forward); sum = omega (arith, s.sum); small = omega (arith, s.small, next); marked = rw put marked_more }
