use Rattle.std.proofs.Common.{drop, ap, ◌∙◌, arith, rules}
use Rattle.std.proofs.lemmas.List.{take_rest}
use Rattle.fields.specs.Cursors.{rest}
use Rattle.fields.proofs.Steps.{offset_none, offset_short, offset_elsewhere, offset_other, offset_is}
use Rattle.fields.proofs.cursor.Cursor.role.Goals as goal

pub returns-in_default : goal.returns-in_default
returns-in_default c = offset_none c.args.width (rest c.args.self.now) (search rules)

pub returns-then-self-wide : goal.returns-then-self-wide
returns-then-self-wide c = offset_short c.args.width (rest c.args.self.now) (omega arith)

pub returns-then-link-self : goal.returns-then-link-self
returns-then-link-self c = offset_elsewhere c.args.width (rest c.args.self.now) (search rules)

pub returns-then-len-wide : goal.returns-then-len-wide
returns-then-len-wide c = offset_other c.args.width (rest c.args.self.now) (search rules)

pub returns : goal.returns
returns c =
    let s = c.args.self.now in
    let wide = c.len-wide.ensures in
    offset_is c.args.width (rest s) _ _ _ (search rules) (omega arith) (search rules) (search rules) wide
    (take_rest s.bytes.now c.len-wide.result ∙ ap (λ n. drop n s.bytes.now) wide) (take_rest s.links.now 1)
