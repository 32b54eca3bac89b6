use Rattle.std.proofs.Common.{ap, ◌∙◌}
use Rattle.serialize.specs.declared.link.LinkWidth.TheVariants.{Two}
use Rattle.fields.specs.Fields.{offset}
use Rattle.fields.proofs.Seeks.{given_ok, given_value}
use Rattle.lookups.proofs.Offsets.{subtable_at_lem}
use Rattle.lookups.proofs.lookup.Lookup.subtable.Goals as goal

pub seek-cursor-requires-clause-within : goal.seek-cursor-requires-clause-within
seek-cursor-requires-clause-within c = (subtable_at_lem c.args.self.now c.args.i c.requires).0

pub unwrap-requires : goal.unwrap-requires
unwrap-requires c =
    let here = (subtable_at_lem c.args.self.now c.args.i c.requires).1 in
    given_ok _ _ _ _ _ (ap (offset Two) c.seek-cursor.ensures ∙ here.1) _ c.offset.ensures

pub returns : goal.returns
returns c =
    let here = (subtable_at_lem c.args.self.now c.args.i c.requires).1 in
    given_value _ _ _ _ _ (ap (offset Two) c.seek-cursor.ensures ∙ here.1) _ _ c.offset.ensures c.unwrap.ensures
