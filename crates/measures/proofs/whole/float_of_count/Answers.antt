-- `measures::whole::float_of_count` meets its contract.
use lib.IntN.{pos}
use Rattle.measures.proofs.Floats.{exact}
use Rattle.measures.proofs.whole.float_of_count.Goals as goal

pub int_to_float-result : goal.int_to_float-result
int_to_float-result c = exact (pos c.args.n) c.requires
