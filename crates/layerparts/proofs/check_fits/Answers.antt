-- `layerparts::check_fits` meets its contract.
use mathlib.Core.Path.{◌≡◌, ap, sym, ◌∙◌}
use lib.ListN.{length}
use borrow.Author.Tests.{not-true}
use Rattle.laws.proofs.Tests.{both}
use Rattle.grid.specs.Limits.{most_points, most_triangles}
use Rattle.rows.specs.Rows.{size_of, words_above}
use Rattle.layerparts.specs.Parts.{too_many, word_edges, triangle_count}
use Rattle.layerparts.proofs.Most.{fewer, refused_points, refused_triangles, refused_none}
use Rattle.layerparts.proofs.Counted.{layer_count_lem, points_most, triangles_most}
use Rattle.layerparts.proofs.check_fits.Goals as goal
use Rattle.layerparts.proofs.check_fits.Goals.{After-exceeds, After-exceeds-2}

pub returns-then-fits_surely : goal.returns-then-fits_surely
unfolding word_edges triangle_count
returns-then-fits_surely c =
    let a = c.args in
    let sure = both _ _ (sym c.fits_surely.ensures ∙ c.if-fits_surely.true) in
    refused_none a.head a.room a.triangle_room _ _ (fewer most_points _ _ _ _ (points_most (size_of a.sides) (words_above a.sides a.masks.now) a.sides.below) (not-true _ sure.0))
    (fewer most_triangles _ _ _ _ (triangles_most (size_of a.sides) (words_above a.sides a.masks.now) a.sides.below) (not-true _ sure.1))

-- what the tests said, at the counts that the words have
points_tested : (c : After-exceeds)
    → let a = c.args in
    too_many most_points a.head.points a.room (length (word_edges a.sides a.masks.now)) ≡ c.exceeds.result
points_tested c =
    let a = c.args in
    sym (ap (too_many most_points a.head.points a.room) c.count_points-points.ensures) ∙ sym c.exceeds.ensures

triangles_tested : (c : After-exceeds-2)
    → let a = c.args in
    too_many most_triangles a.head.triangles a.triangle_room (triangle_count a.sides a.masks.now) ≡ c.exceeds-2.result
unfolding triangle_count
triangles_tested c =
    let a = c.args in
    let made = c.count_layer-made.ensures ∙ layer_count_lem a.sides a.masks.now a.sides.below in
    sym (ap (too_many most_triangles a.head.triangles a.triangle_room) made) ∙ sym c.exceeds-2.ensures

pub returns-then-exceeds : goal.returns-then-exceeds
returns-then-exceeds c =
    let a = c.args in
    refused_points a.head a.room a.triangle_room _ _ (points_tested (goal.at.returns-then-exceeds c).After-exceeds ∙ c.if-exceeds.true)

pub returns-then-exceeds-2 : goal.returns-then-exceeds-2
returns-then-exceeds-2 c =
    let a = c.args in
    refused_triangles a.head a.room a.triangle_room _ _ (points_tested (goal.at.returns-then-exceeds-2 c).After-exceeds ∙ c.if-exceeds.false) (triangles_tested (goal.at.returns-then-exceeds-2 c).After-exceeds-2 ∙ c.if-exceeds-2.true)

pub returns : goal.returns
returns c =
    let a = c.args in
    refused_none a.head a.room a.triangle_room _ _ (points_tested (goal.at.returns c).After-exceeds ∙ c.if-exceeds.false) (triangles_tested (goal.at.returns c).After-exceeds-2 ∙ c.if-exceeds-2.false)
