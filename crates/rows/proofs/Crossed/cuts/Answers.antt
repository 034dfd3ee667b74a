-- `rows::Crossed::cuts` meets its contract: three bits.
use Rattle.laws.proofs.Halves.{bit_shifted}
use Rattle.rows.proofs.Crossed.cuts.Goals as goal

pub returns : goal.returns
returns c =
    let a = c.args in
    rw (bit_shifted a.self.x a.i, bit_shifted a.self.y a.i, bit_shifted a.self.z a.i)
