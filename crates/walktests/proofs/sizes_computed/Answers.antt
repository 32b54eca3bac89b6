use Rattle.std.proofs.Common.{refl}
use Rattle.walk.specs.Computed.{reached}
use Rattle.walktests.proofs.sizes_computed.Goals as goal

pub returns : goal.returns
unfolding reached
returns c = record { none = refl; shared = refl; sides = refl; marks = refl; itself = refl; ring = refl; both = refl }
