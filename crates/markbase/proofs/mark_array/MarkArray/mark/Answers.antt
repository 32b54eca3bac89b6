use Rattle.std.proofs.Common.{ap, ◌∙◌}
use Rattle.fields.specs.Arrays.{mark}
use Rattle.fields.proofs.Seeks.{given_ok, given_value}
use Rattle.markbase.proofs.Records.{mark_at, mark_within}
use Rattle.markbase.proofs.mark_array.MarkArray.mark.Goals as goal

pub seek-cursor-requires-clause-within : goal.seek-cursor-requires-clause-within
seek-cursor-requires-clause-within c = mark_within c.args.self.now c.args.i c.requires

pub unwrap-requires : goal.unwrap-requires
unwrap-requires c =
    let m = c.args.self.now in
    let here = mark_at m c.args.i c.requires in
    given_ok _ _ _ _ _ (ap (mark m.class_count) c.seek-cursor.ensures ∙ here.1) _ c.mark.ensures

pub returns : goal.returns
returns c =
    let m = c.args.self.now in
    let here = mark_at m c.args.i c.requires in
    given_value _ _ _ _ _ (ap (mark m.class_count) c.seek-cursor.ensures ∙ here.1) _ _ c.mark.ensures c.unwrap.ensures
