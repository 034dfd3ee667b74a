-- `volumes::add_triangle` meets its contract.
use mathlib.Core.Path.{◌≡◌, sym}
use Prim.Native.Nat.{◌+◌, ◌*◌}
use native.Mathlib.Omega.{arith}
use lib.ListN.{get_or}
use Rattle.columns.specs.Room.{numbers_at, triangle_number}
use Rattle.volumes.specs.Volumes.{words_in}
use Rattle.volumes.proofs.Triangles.{turnable, changed_there, first_named, number_there}
use Rattle.volumes.proofs.add_triangle.Goals as goal
use Rattle.volumes.proofs.add_triangle.Goals.{Start}

pub bounds-work-numbers_at : goal.bounds-work-numbers_at
bounds-work-numbers_at c =
    rw (c.numbers_at.ensures, c.triangles_at.ensures) (omega (arith, first_named c.args.parts.points c.args.parts.triangles c.args.work.now c.args.k c.requires))

-- what is read is the triangle's shell number
number_read : (c : Start) → let a = c.args in
    get_or a.work.now (numbers_at a.parts.points a.parts.triangles + get_or a.work.now (4 * a.parts.points + 3 * a.k) 0) 0 ≡ triangle_number a.parts.points a.parts.triangles a.work.now a.k
number_read c = let a = c.args in sym (number_there a.parts.points a.parts.triangles a.work.now a.k c.requires)

pub words_at-requires : goal.words_at-requires
words_at-requires c = (rw (c.numbers_at.ensures, c.triangles_at.ensures) (omega (arith, number_read (goal.at.words_at-requires c).Start, c.requires.numbered)), c.requires.whole)

pub with_triangle-stored-requires : goal.with_triangle-stored-requires
with_triangle-stored-requires c =
    let a = c.args in
    rw (c.words_at.ensures, c.numbers_at.ensures, c.triangles_at.ensures, number_read (goal.at.with_triangle-stored-requires c).Start) (turnable a.parts.points a.parts.triangles a.work.now a.k c.requires)

pub put_words-requires : goal.put_words-requires
put_words-requires c = (rw (c.numbers_at.ensures, c.triangles_at.ensures) (omega (arith, number_read (goal.at.put_words-requires c).Start, c.requires.numbered)), c.requires.whole)

pub returns : goal.returns
returns c =
    let a = c.args in
    rw (c.put_words.ensures, c.with_triangle-stored.ensures, c.words_at.ensures, c.numbers_at.ensures, c.triangles_at.ensures, number_read (goal.at.returns c).Start, changed_there a.parts.points a.parts.triangles a.work.now a.k c.requires (words_in a.parts.points a.parts.triangles a.work.now (triangle_number a.parts.points a.parts.triangles a.work.now a.k)))
