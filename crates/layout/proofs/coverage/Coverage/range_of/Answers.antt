use Rattle.std.proofs.Common.{ap, subst, [], arith}
use Rattle.layout.specs.Records.{word_at}
use Rattle.layout.specs.Searches.{Tabled}
use Rattle.layout.proofs.Tables.{index_small}
use Rattle.layout.proofs.coverage.Coverage.range_of.Goals as goal

pub overflow_cast-index : goal.overflow_cast-index
overflow_cast-index c =
    let found = c.in_ok-get-in-Glyphs.ensures.lookup.3 in
    let is = subst (Tabled c.args.self.now.bytes.now) c.in-Glyphs.is c.requires in
    let r = is.1 c.args.k [] (omega (arith, is.0, found.0)) in
    omega (arith, r.start, r.index, ap (λ b. word_at b 0) (found.1 []), index_small c.args.self.now.bytes.now c.args.self.now.sound c.args.k (omega (arith, is.0, found.0)))
