use Rattle.std.proofs.Common.{◌≡◌, ℕ, ◌+◌, ◌-◌, ap, ◌∙◌, arith}
use Rattle.serialize.specs.Objects.{part, zeros}
use Rattle.serialize.specs.ObjectFile.{start_at}
use Rattle.std.proofs.lemmas.Bool.Decides.{nat_tests}
use Rattle.serialize.proofs.object_file.ObjectFile.is_sound.Goals as goal

pub returns : goal.returns
returns c =
    let file = c.args.self.bytes.now in
    let r = c.args.link in
    let n : c.args.start + r.position + r.width - (c.args.start + r.position) ≡ r.width = omega arith in
    let e : c.is_zero.result ≡ zeros (part (start_at file c.args.self.trailer r.parent + r.position) r.width file) =
    c.is_zero.ensures
    ∙ (ap (λ (k : ℕ). zeros (part (c.args.start + r.position) k file)) n ∙ ap (λ (k : ℕ). zeros (part (k + r.position) r.width file)) c.requires.start) in
    grind (arith, nat_tests, e, c.length.ensures, c.try_from.ensures, c.is_err.ensures.value)
