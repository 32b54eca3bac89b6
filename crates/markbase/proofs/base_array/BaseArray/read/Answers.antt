use Rattle.std.proofs.Common.{rules, ℕ, ◌+◌, ◌-◌, Some, Option, sym, ◌∙◌, arith}
use native.Mathlib.Nat.{sub-zero}
use Rattle.fields.specs.Cursors.{rest}
use Rattle.fields.specs.Fields.{Rest, times, nullable}
use Rattle.markbase.specs.Views.{rows_of}
use Rattle.markbase.proofs.Records.{fault_none}
use Rattle.markbase.proofs.Repeats.{onward, at_end, times_open, times_step}
use Rattle.markbase.proofs.base_array.BaseArray.read.Goals as goal

-- the rows after the one at i
abbrev later : ℕ → ℕ → ℕ → Rest → Option ℕ
later n k i s = onward Some at_end (times (n - (i + 1)) (times k nullable) s)

pub loop-2-init : goal.loop-2-init
loop-2-init c =
    let n = c.args.count in
    let k = c.args.class_count in
    let i = c.loop.counter in
    simp sub-zero (sym (times_open Some at_end (times k nullable) (n - i) (n - (i + 1)) (rest c.loop.cursor) (omega arith)) ∙ c.loop.invariant)

pub loop-2-preserved : goal.loop-2-preserved
loop-2-preserved c =
    let h = c.in_ok-nullable.ensures in
    let k = c.args.class_count in
    sym (times_step Some (later c.args.count k c.loop.counter) nullable (k - c.loop-2.counter) (k - (c.loop-2.counter + 1)) (rest c.loop-2.cursor) (omega arith) _ _ h.0) ∙ c.loop-2.invariant

pub returns : goal.returns
unfolding rows_of
returns c = fault_none _ (search rules)
