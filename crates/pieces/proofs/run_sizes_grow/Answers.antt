use Rattle.pieces.proofs.Sizes.{run_sizes, sizes_stay}
use Rattle.pieces.proofs.run_sizes_grow.Goals as goal

pub returns : goal.returns
returns c = record { grow = run_sizes; stay = sizes_stay }
