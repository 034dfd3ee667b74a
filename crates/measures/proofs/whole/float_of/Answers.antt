-- `measures::whole::float_of` meets its contract.
use Rattle.laws.proofs.Sizes.{read_back}
use Rattle.measures.proofs.Floats.{exact}
use Rattle.measures.proofs.whole.float_of.Goals as goal

pub int_to_float-result : goal.int_to_float-result
int_to_float-result c = rw (read_back c.args.a c.ranges.a.sfits) (exact c.args.a c.requires)
