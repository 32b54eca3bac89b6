use Rattle.std.proofs.Common.{◌≡◌, ℕ, true, sym, ap, ◌∙◌, arith}
use Rattle.std.proofs.lemmas.Bool.Decides.{nat_tests}
use Rattle.serialize.specs.declared.object_file.LinkRecord.{LinkRecord}
use Rattle.serialize.specs.ObjectFile.{record_at, follows, every}
use Rattle.serialize.proofs.Files.{whole}
use Rattle.serialize.proofs.Order.{not_passed, rules_are}
use Rattle.serialize.proofs.object_file.ObjectFile.check.Goals as goal

pub returns-then-not-is_in_order : goal.returns-then-not-is_in_order
returns-then-not-is_in_order c =
    grind (arith, nat_tests, rules_are c.args.self.bytes.now c.args.self.trailer c.args.i _ c.record-link.ensures, c.is_in_order.ensures, c.then-not-is_in_order.either)

pub advance-next-requires : goal.advance-next-requires
advance-next-requires c =
    let file = c.args.self.bytes.now in
    let t = c.args.self.trailer in
    let w = whole file t c.args.self.read in
    let all : every c.args.i (λ j. follows (record_at file t j) c.record-link.result) ≡ true = sym c.is_in_order.ensures ∙ c.if-not-is_in_order.false in
    record {
      within = omega arith;
      up = (not_passed file t c.args.i c.args.scan c.record-link.result c.requires.scan all, omega arith);
      stands = c.requires.scan.0;
    }

pub returns : goal.returns
returns c =
    let file = c.args.self.bytes.now in
    let t = c.args.self.trailer in
    let is = c.record-link.ensures in
    let at = c.advance-next.ensures in (
      grind (arith, nat_tests, rules_are file t c.args.i _ is, c.is_in_order.ensures, c.is_sound.ensures),
      (at.stands, (λ e. absurd (omega arith)), λ j e. at.vertex ∙ (ap (λ (r : LinkRecord). r.parent) is ∙ ap (λ (k : ℕ). (record_at file t k).parent) (omega arith))),
    )
