use Rattle.std.proofs.Common.{arith, pow-add}
use Rattle.std.proofs.lemmas.List.{at_drop_more, at_drop_all}
use Rattle.std.proofs.lemmas.Bool.Decides.{nat_tests}
use Rattle.lines.specs.Grammar.{spelled}
use Rattle.lines.specs.Reading.{numeral_of}
use Rattle.lines.proofs.Digits.{digit_in}
use Rattle.lines.proofs.command.numeral.Goals as goal

pub returns-then-is_empty : goal.returns-then-is_empty
unfolding numeral_of
returns-then-is_empty c = grind (arith, nat_tests)

pub overflow_sub-digit : goal.overflow_sub-digit
overflow_sub-digit c = (digit_in _ _ c.requires c.loop-digit-test.true).0

pub loop-digit-preserved : goal.loop-digit-preserved
loop-digit-preserved c =
    let ds = c.args.digits.now in
    let i = c.loop-digit.digit-index in
    let e = at_drop_more (spelled c.loop-digit.value) ds i 0 c.loop-digit-test.true in
    let d = digit_in ds i c.requires c.loop-digit-test.true in
    (cc, omega (arith, pow-add 10 i 1))

pub returns : goal.returns
unfolding numeral_of
returns c =
    let e = at_drop_all (spelled c.loop-digit.value) c.args.digits.now c.loop-digit.digit-index c.loop-digit-test.false in
    grind (arith, nat_tests)
