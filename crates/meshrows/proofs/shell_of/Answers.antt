-- `meshrows::shell_of` meets its contract.
use mir.Facts.{to_z-of_z}
use Rattle.meshread.specs.Lines.{shell_of}
use Rattle.meshrows.proofs.shell_of.Goals as goal

pub returns : goal.returns
unfolding shell_of
returns c = rw (to_z-of_z c.ranges.volume)
