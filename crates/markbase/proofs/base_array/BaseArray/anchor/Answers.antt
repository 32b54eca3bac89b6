use Rattle.std.proofs.Common.{ap, ◌∙◌}
use Rattle.fields.specs.Fields.{nullable}
use Rattle.fields.proofs.Seeks.{given_ok, given_value}
use Rattle.markbase.proofs.Records.{null_at, null_within}
use Rattle.markbase.proofs.base_array.BaseArray.anchor.Goals as goal

pub seek-cursor-requires-clause-within : goal.seek-cursor-requires-clause-within
seek-cursor-requires-clause-within c = null_within c.args.self.now c.args.base c.args.class c.requires.base c.requires.class

pub unwrap-requires : goal.unwrap-requires
unwrap-requires c =
    let m = c.args.self.now in
    let here = null_at m c.args.base c.args.class c.requires.base c.requires.class in
    given_ok _ _ _ _ _ (ap nullable c.seek-cursor.ensures ∙ here.1) _ c.nullable.ensures

pub returns : goal.returns
returns c =
    let m = c.args.self.now in
    let here = null_at m c.args.base c.args.class c.requires.base c.requires.class in
    given_value _ _ _ _ _ (ap nullable c.seek-cursor.ensures ∙ here.1) _ _ c.nullable.ensures c.unwrap.ensures
