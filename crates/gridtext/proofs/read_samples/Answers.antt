-- `gridtext::read_samples` meets its contract: the room, then the rows.
use native.Mathlib.Omega.{arith}
use Rattle.gridtext.specs.Grid.{refused}
use Rattle.gridtext.proofs.Checks.{passed, rows_few, room_short, room_holds, rows_refused, rows_granted}
use Rattle.gridtext.proofs.read_samples.Goals as goal

pub overflow_mul-count : goal.overflow_mul-count
overflow_mul-count c = omega (arith, rows_few c.args.head c.requires)

pub overflow_mul-width : goal.overflow_mul-width
overflow_mul-width c = omega (arith, (passed c.args.head c.requires).1)

pub returns-then-samples-width : goal.returns-then-samples-width
unfolding refused
returns-then-samples-width c = room_short c.args.head _ c.args.samples.now c.requires c.if-samples-width.true

pub fill-requires : goal.fill-requires
fill-requires c = ((passed c.args.head c.requires).1, c.if-samples-width.false, rows_few c.args.head c.requires)

pub returns-in-Ok : goal.returns-in-Ok
returns-in-Ok c =
    rw (room_holds c.args.head _ c.args.samples.now c.requires c.if-samples-width.false)
    (rows_granted c.args.head _ c.args.samples.now c.fill.new.samples c.in-Ok.ensures.room _ c.in-Ok.ensures.line)

pub returns-in-Err : goal.returns-in-Err
returns-in-Err c =
    rw (room_holds c.args.head _ c.args.samples.now c.requires c.if-samples-width.false)
    (rows_refused c.args.head _ c.args.samples.now c.fill.new.samples c.in-Err.ensures.room _ c.in-Err.ensures.line)
