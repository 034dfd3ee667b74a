-- `rows::crossed_at` meets its contract: the law of its words. A stretch of the grid has its word, and so have its neighbours where they are there.
use borrow.Author.Tests.{ltb-true}
use Rattle.rows.proofs.Stretches.{behind_is, over_is, among, behind_there, over_there, word_there}
use Rattle.rows.proofs.Cut.{cut_words}
use Rattle.rows.proofs.crossed_at.Goals as goal

pub bounds-masks-word : goal.bounds-masks-word
bounds-masks-word c = let a = c.args in word_there a.sides a.masks.now a.z c.requires.ready a.at c.requires.stands c.requires.y_lt_ny

pub neighbour-behind-requires : goal.neighbour-behind-requires
neighbour-behind-requires c there =
    let a = c.args in
    let stands = c.requires.stands in
    among a.sides a.masks.now a.z c.requires.ready a.at stands _ (behind_there a.sides a.masks.now a.z c.requires.ready a.at stands (ltb-true _ _ there))
    (behind_is a.sides a.z a.at stands)

pub neighbour-over-requires : goal.neighbour-over-requires
neighbour-over-requires c there =
    let a = c.args in
    let stands = c.requires.stands in
    among a.sides a.masks.now a.z c.requires.ready a.at stands _ (over_there a.sides a.masks.now a.z c.requires.ready a.at stands c.requires.y_lt_ny (ltb-true _ _ there))
    (over_is a.sides a.z a.at stands)

pub returns : goal.returns
returns c =
    let a = c.args in
    rw (c.cubes_mask.ensures, c.stretch_mask-own.ensures, c.neighbour-over.ensures, c.neighbour-behind.ensures)
    (cut_words a.sides a.masks.now a.z c.requires.ready a.at c.requires.stands c.requires.y_lt_ny c.requires.z_lt_nz)
