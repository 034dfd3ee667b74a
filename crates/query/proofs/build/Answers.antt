-- `query::build` meets its contract: the refusals by sides and lengths, and the way past them.
use mathlib.Core.Path.{◌≡◌, sym, ◌∙◌}
use mathlib.Core.Bool.{true}
use native.Mathlib.Omega.{arith}
use Rattle.grid.specs.Sides.{sides_fit}
use Rattle.grid.proofs.Sides.{sides_within, samples_most}
use Rattle.summary.specs.Blocks.{summary_length, level_start}
use Rattle.query.proofs.Ways.{built_sides, built_samples, built_room, built_granted}
use Rattle.query.proofs.build.Goals as goal
use Rattle.query.proofs.build.Goals.{Else-not-sides_fit}

-- the places on the way

-- the sides fit, past the first test
fit : (c : Else-not-sides_fit) → let a = c.args in sides_fit a.nx a.ny a.nz ≡ true
fit c = sym c.sides_fit.ensures ∙ c.if-not-sides_fit.false

pub returns-then-not-sides_fit : goal.returns-then-not-sides_fit
returns-then-not-sides_fit c =
    let a = c.args in
    built_sides a.nx a.ny a.nz a.samples.now a.room.now (sym c.sides_fit.ensures ∙ c.if-not-sides_fit.true)

pub overflow_mul-x : goal.overflow_mul-x
overflow_mul-x c =
    let a = c.args in
    omega (arith, samples_most a.nx a.ny a.nz (sides_within a.nx a.ny a.nz (fit (goal.at.overflow_mul-x c).Else-not-sides_fit)))

pub returns-then-samples-x : goal.returns-then-samples-x
returns-then-samples-x c =
    let a = c.args in
    built_samples a.nx a.ny a.nz a.samples.now a.room.now (fit (goal.at.returns-then-samples-x c).Else-not-sides_fit) c.if-samples-x.true

pub returns-then-room-ne-SUMMARY : goal.returns-then-room-ne-SUMMARY
unfolding summary_length level_start
returns-then-room-ne-SUMMARY c =
    let a = c.args in
    built_room a.nx a.ny a.nz a.samples.now a.room.now (fit (goal.at.returns-then-room-ne-SUMMARY c).Else-not-sides_fit) c.if-samples-x.false c.if-room-ne-SUMMARY.true

pub build-requires-clause-sides_fit : goal.build-requires-clause-sides_fit
build-requires-clause-sides_fit c = let a = c.args in sides_within a.nx a.ny a.nz (fit (goal.at.build-requires-clause-sides_fit c).Else-not-sides_fit)

pub build-requires-clause-list_len : goal.build-requires-clause-list_len
unfolding summary_length level_start
build-requires-clause-list_len c = c.if-room-ne-SUMMARY.false

pub returns : goal.returns
unfolding summary_length level_start
returns c =
    let a = c.args in
    built_granted a.nx a.ny a.nz a.samples.now a.room.now (fit (goal.at.returns c).Else-not-sides_fit) c.if-samples-x.false c.build.new.list c.if-room-ne-SUMMARY.false c.build.ensures
