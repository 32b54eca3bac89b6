use Rattle.std.proofs.Common.{arith}
use Rattle.walk.proofs.Growing.{grows}
use Rattle.walk.proofs.subgraph.add_root.Goals as goal

pub returns : goal.returns
returns c = λ roots shows.
    let call = c.find_subgraph_size in
    grows c.args.graph.now roots c.args.v call.result c.args.visited.now call.new.visited c.requires.marks (omega (arith, c.requires.marks, call.auto.visited)) shows call.ensures.closed call.ensures.size
