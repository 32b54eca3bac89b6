use Rattle.std.proofs.lemmas.Result.{err_from_is_err_and}
use Rattle.workspace.proofs.supply.Supply.with_capacity.Goals as goal

pub returns-in_err-vec-5 : goal.returns-in_err-vec-5
returns-in_err-vec-5 c = let p = err_from_is_err_and c.from_residual-in_err-vec-5.result c.from_residual-in_err-vec-5.ensures.1 in rw p.1 tt

pub returns-in_err-vec-6 : goal.returns-in_err-vec-6
returns-in_err-vec-6 c = let p = err_from_is_err_and c.from_residual-in_err-vec-6.result c.from_residual-in_err-vec-6.ensures.1 in rw p.1 tt
