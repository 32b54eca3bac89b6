use Rattle.std.proofs.Common.{◌≡◌, ℕ, ◌-◌, List, length, take, drop, Some, None, sym, refl, ◌∙◌, rules}
use Rattle.std.proofs.lemmas.List.Sums.{prefix_len-le-length}
use Rattle.std.proofs.lemmas.List.{take_rest}
use Rattle.lines.specs.Reading.{◌⟫◌, number_at}
use Rattle.lines.proofs.Digits.{front_digits}
use Rattle.lines.proofs.Steps.{number_none, number_other, number_read, converted}
use Rattle.lines.proofs.command.number.Goals as goal
use Rattle.lines.proofs.command.number.Goals.{After-numeral}

abbrev tail : List ℕ → List ℕ
tail bs = take (length bs - 1) (drop 1 bs)

pub returns-in_default : goal.returns-in_default
returns-in_default g c =
    let e : number_at c.args.text.now ≡ None = search (rules, number_none, number_other) in
    rw e refl

pub split_at-requires : goal.split_at-requires
split_at-requires g c = search (rules, prefix_len-le-length)

pub numeral-requires : goal.numeral-requires
numeral-requires g c = rw (c.split_at.ensures.front, c.digit_count.ensures) (front_digits (tail c.args.text.now))

came : (g : _) (c : After-numeral g) → number_at c.args.text.now ≡ (c.numeral.result ⟫ λ n. Some (n, c.split_at.result.1.now))
came g c =
    let t = c.args.text.now in
    number_read t (tail t) c.split_at.result.0.now c.split_at.result.1.now c.digit_count.result c.numeral.result
    (search rules) (search rules) (take_rest t 1) c.digit_count.ensures c.split_at.ensures.front c.split_at.ensures.back c.numeral.ensures

pub returns-in_err-numeral : goal.returns-in_err-numeral
returns-in_err-numeral g c = let e = rw c.in_err-numeral.was at (came g (goal.at.returns-in_err-numeral g c).After-numeral) in rw (c.from_residual.ensures, e) refl

pub returns-in_err-value : goal.returns-in_err-value
returns-in_err-value g c = let e = rw c.in_ok-numeral.was at (came g (goal.at.returns-in_err-value g c).After-numeral) in rw (c.from_residual-in_err-value.ensures, e) (converted g.T.TryFrom.try_from_gives c.in_ok-numeral.field-0 _ _ c.try_from.ensures (sym c.ok.ensures.value ∙ c.in_err-value.was))

pub returns : goal.returns
returns g c = let e = rw c.in_ok-numeral.was at (came g (goal.at.returns g c).After-numeral) in rw e (converted g.T.TryFrom.try_from_gives c.in_ok-numeral.field-0 _ _ c.try_from.ensures (sym c.ok.ensures.value ∙ c.in_ok-value.was), refl)
