use Rattle.std.proofs.Common.{◌≡◌, ◌+◌, ◌-◌, Some, Err, rules, sym, ◌∙◌, arith}
use native.Mathlib.Nat.{sub-zero}
use Rattle.serialize.specs.declared.link.LinkWidth.TheVariants.{Two}
use Rattle.fields.specs.Cursors.{rest}
use Rattle.fields.specs.Fields.{offset}
use Rattle.markbase.specs.LookupTypes.{type_from}
use Rattle.markbase.specs.Nodes.{node_of}
use Rattle.markbase.proofs.Repeats.{times_step}
use Rattle.lookups.proofs.Heads.{tail_of, lookup_opens}
use Rattle.lookups.proofs.lookup.check_fields.Goals as goal

pub loop-init : goal.loop-init
loop-init c =
    let word = c.in_ok-word.ensures in
    let flag = c.in_ok-flag.ensures in
    let count = c.in_ok-count.ensures in
    let named : type_from c.in_ok-word.word.value ≡ Some c.in_ok-kind.kind = search rules in
    simp sub-zero (sym (lookup_opens (node_of c.args.vertex) _ _ _ _ _ _ _ _ c.new-cursor.ensures word.0 named flag.0 count.0))

pub loop-preserved : goal.loop-preserved
loop-preserved c =
    let h = c.in_ok-offset.ensures in
    let n = c.in_ok-count.count.value in
    let tail = tail_of c.in_ok-kind.kind c.in_ok-flag.flag.value n in
    sym (times_step Err tail (offset Two) (n - c.loop.counter) (n - (c.loop.counter + 1)) (rest c.loop.cursor) (omega arith) _ _ h.0) ∙ c.loop.invariant
