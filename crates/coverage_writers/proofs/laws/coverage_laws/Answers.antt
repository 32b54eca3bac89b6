use Rattle.coverage_writers.proofs.Ascends.{reads_ascending}
use Rattle.coverage_writers.proofs.Runs.{maximal}
use Rattle.coverage_writers.proofs.laws.coverage_laws.Goals as goal

pub returns-clause-ascending : goal.returns-clause-ascending
returns-clause-ascending c = reads_ascending

pub returns-clause-maximal : goal.returns-clause-maximal
returns-clause-maximal c = maximal
