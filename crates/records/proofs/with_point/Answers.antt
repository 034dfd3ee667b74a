-- `records::with_point` meets its contract: what it asked of the lowest point, the touches and the box is what the definition says.
use mir.Syntax.{w64}
use mir.Val.{SFits}
use mir.Facts.{to_z-of_z}
use Rattle.records.specs.Grown.{with_point, PointFits}
use Rattle.records.proofs.with_point.Goals as goal

pub overflow_add-result : goal.overflow_add-result
unfolding PointFits
overflow_add-result c = record { fits = c.requires.0 }

pub returns : goal.returns
unfolding with_point
returns c =
    let volume_fits : SFits w64 c.args.s.volume = record { sfits = c.struct_told-1.given.1.1.1.1.0.1 } in
    rw (
      c.lowest.ensures,
      c.touched.ensures,
      c.least.ensures,
      c.greatest.ensures,
      c.least-2.ensures,
      c.greatest-2.ensures,
      c.least-3.ensures,
      c.greatest-3.ensures,
      c.place_of-at.ensures,
      to_z-of_z {w = w64} volume_fits,
    )
