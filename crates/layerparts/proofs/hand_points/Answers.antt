-- `layerparts::hand_points` meets its contract.
use mathlib.Core.Path.{◌≡◌, ap, ◌∙◌}
use mathlib.Core.List.{List}
use Prim.Native.Nat.{ℕ, ◌+◌}
use native.Mathlib.Omega.{arith}
use lib.ListN.{length}
use Rattle.grid.specs.Work.{lent_samples}
use Rattle.edgepoints.specs.EdgePoint.{PointRooms, point_rooms}
use Rattle.pointplaces.proofs.Placing.{room_less, places_laid, edges_laid, marks_laid}
use Rattle.rows.specs.Rows.{size_of, words_above}
use Rattle.layerstate.proofs.Kept.{layer_most}
use Rattle.layerparts.specs.Layer.{layer_edges}
use Rattle.layerparts.specs.Parts.{word_edges, lent_edges, points_laid}
use Rattle.layerparts.proofs.Counted.{points_most}
use Rattle.layerparts.proofs.Said.{edges_said}
use Rattle.layerparts.proofs.hand_points.Goals as goal
use Rattle.layerparts.proofs.hand_points.Goals.{After-place_layer}

pub place_layer-requires : goal.place_layer-requires
unfolding word_edges layer_edges
place_layer-requires c = record { given = c.requires.given; z_lt_nz = c.requires.below_lt_nz; rooms_for = room_less {count = 0 + length (word_edges c.args.sides c.args.masks.now)} (omega arith) c.requires.rooms_for }

-- the call of `place_layer`, and the start before it

-- the samples lent
abbrev lent : After-place_layer → List ℕ
lent p = let a = p.args in lent_samples a.kept.now a.samples.now

-- the rooms before it and past it
abbrev first_rooms : After-place_layer → PointRooms
first_rooms p = let a = p.args in point_rooms a.points.now a.edges.now a.marks.now

abbrev past_rooms : After-place_layer → PointRooms
past_rooms p =
    point_rooms p.place_layer.new.points p.place_layer.new.edges p.place_layer.new.marks

counted : (c : After-place_layer) → c.place_layer.result ≡ length (word_edges c.args.sides c.args.masks.now)
unfolding word_edges layer_edges
counted c = omega (arith, c.place_layer.ensures.counted)

found : (c : After-place_layer)
    → let a = c.args in
    word_edges a.sides a.masks.now ≡ lent_edges a.sides a.grey (lent c)
found c = edges_said c.args.sides c.args.grey (lent c) c.args.masks.now c.requires.given c.requires.below_lt_nz

pub overflow_cast-result : goal.overflow_cast-result
unfolding word_edges
overflow_cast-result c =
    omega (arith, counted (goal.at.overflow_cast-result c).After-place_layer, points_most (size_of c.args.sides) (words_above c.args.sides c.args.masks.now) c.args.sides.below, layer_most c.requires.given.ready.fit)

rooms_are : (r : PointRooms) {ps es ms : List ℕ} → r.points ≡ ps → r.edges ≡ es → r.marks ≡ ms → r ≡ point_rooms ps es ms
rooms_are r put listed marked i = point_rooms (put i) (listed i) (marked i)

-- the rooms past the call are those that are promised
laid_there : (c : After-place_layer)
    → let a = c.args in
    past_rooms c ≡ points_laid a.sides a.grey (lent c) (first_rooms c)
unfolding points_laid word_edges layer_edges
laid_there c =
    let a = c.args in
    let so = c.place_layer.ensures in
    let many = ap length (found c) in
    let fits = c.requires.rooms_for in
    let put = places_laid a.sides a.grey (lent c) a.masks.now _ _ _ (first_rooms c) (past_rooms c) so _ (found c) (omega (arith, many, fits.points)) in
    let listed = edges_laid a.sides a.grey (lent c) a.masks.now _ _ _ (first_rooms c) (past_rooms c) so _ (found c) (omega (arith, many, fits.edges)) in
    let marked = marks_laid a.sides a.grey (lent c) a.masks.now _ _ _ (first_rooms c) (past_rooms c) so _ (found c) (omega (arith, many, fits.marks)) in
    rooms_are (past_rooms c) put listed marked

pub returns : goal.returns
returns c = record { counted = counted (goal.at.returns c).After-place_layer ∙ ap length (found (goal.at.returns c).After-place_layer); laid = laid_there (goal.at.returns c).After-place_layer }
