-- `layerstate::write_opened` meets its contract.
use mathlib.Core.Path.{refl}
use Rattle.layerstate.specs.State.{opened_room}
use Rattle.layerstate.proofs.write_opened.Goals as goal

pub returns : goal.returns
unfolding opened_room
returns c = rw (c.clear.ensures, c.requires) refl
