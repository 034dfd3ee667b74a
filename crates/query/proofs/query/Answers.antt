-- `query::query` meets its contract: the refusals by sides, lengths and the lent summary, and the way past them.
use mathlib.Core.Path.{◌≡◌, sym, ◌∙◌}
use mathlib.Core.Bool.{true}
use native.Mathlib.Omega.{arith}
use Rattle.grid.specs.Sides.{sides_fit}
use Rattle.grid.proofs.Sides.{sides_within, samples_most}
use Rattle.extract.specs.Extraction.{Rooms}
use Rattle.extract.specs.Promise.{rooms}
use Rattle.query.proofs.Ways.{refused_sides, refused_samples, refused_work, refused_summary, past_summary}
use Rattle.query.proofs.query.Goals as goal
use Rattle.query.proofs.query.Goals.{Else-not-sides_fit, Start}

-- the places on the way

-- the rooms as they were lent
abbrev lent : Start → Rooms
lent s =
    rooms s.args.points.now s.args.edges.now s.args.marks.now s.args.triangles.now s.args.work.now

-- the sides fit, past the first test
fit : (c : Else-not-sides_fit) → let a = c.args in sides_fit a.nx a.ny a.nz ≡ true
fit c = sym c.sides_fit.ensures ∙ c.if-not-sides_fit.false

pub returns-then-not-sides_fit : goal.returns-then-not-sides_fit
returns-then-not-sides_fit c =
    let a = c.args in
    refused_sides a.nx a.ny a.nz a.grey a.samples.now a.summary.now (lent (goal.at.returns-then-not-sides_fit c).Start) (sym c.sides_fit.ensures ∙ c.if-not-sides_fit.true)

pub overflow_mul-count-2 : goal.overflow_mul-count-2
overflow_mul-count-2 c =
    let a = c.args in
    omega (arith, samples_most a.nx a.ny a.nz (sides_within a.nx a.ny a.nz (fit (goal.at.overflow_mul-count-2 c).Else-not-sides_fit)))

pub returns-then-samples-count : goal.returns-then-samples-count
returns-then-samples-count c =
    let a = c.args in
    refused_samples a.nx a.ny a.nz a.grey a.samples.now a.summary.now (lent (goal.at.returns-then-samples-count c).Start) (fit (goal.at.returns-then-samples-count c).Else-not-sides_fit) c.if-samples-count.true

pub returns-then-work-count : goal.returns-then-work-count
returns-then-work-count c =
    let a = c.args in
    refused_work a.nx a.ny a.nz a.grey a.samples.now a.summary.now (lent (goal.at.returns-then-work-count c).Start) (fit (goal.at.returns-then-work-count c).Else-not-sides_fit) c.if-samples-count.false c.if-work-count.true

pub is_summary-requires-clause-sides_fit : goal.is_summary-requires-clause-sides_fit
is_summary-requires-clause-sides_fit c = let a = c.args in sides_within a.nx a.ny a.nz (fit (goal.at.is_summary-requires-clause-sides_fit c).Else-not-sides_fit)

pub returns-then-not-is_summary : goal.returns-then-not-is_summary
returns-then-not-is_summary c =
    let a = c.args in
    let work = c.refused_later.new.work in
    rw c.refused_later.ensures.answer
    (refused_summary a.nx a.ny a.nz a.grey a.samples.now a.summary.now (lent (goal.at.returns-then-not-is_summary c).Start) (fit (goal.at.returns-then-not-is_summary c).Else-not-sides_fit) c.if-samples-count.false c.if-work-count.false work
    (sym c.is_summary.ensures ∙ c.if-not-is_summary.true) c.refused_later.ensures.zero)

pub answered-requires-clause-sides_fit : goal.answered-requires-clause-sides_fit
answered-requires-clause-sides_fit c = let a = c.args in sides_within a.nx a.ny a.nz (fit (goal.at.answered-requires-clause-sides_fit c).Else-not-sides_fit)

pub returns : goal.returns
returns c =
    let a = c.args in
    c.answered.ensures
    ∙ past_summary a.nx a.ny a.nz a.grey a.samples.now a.summary.now (lent (goal.at.returns c).Start) (fit (goal.at.returns c).Else-not-sides_fit) c.if-samples-count.false c.if-work-count.false
    (sym c.is_summary.ensures ∙ c.if-not-is_summary.false)
