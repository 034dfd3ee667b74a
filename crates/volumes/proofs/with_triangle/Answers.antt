-- `volumes::with_triangle` meets its contract: three places within the limit make no large sum.
use Prim.Native.Nat.{◌*◌, ◌≤◌}
use native.Mathlib.Omega.{arith}
use Rattle.mesh.specs.Place.{place_of}
use Rattle.records.specs.Grown.{most_product}
use Rattle.records.proofs.Sizes.{diagonals_small}
use Rattle.volumes.specs.Turns.{corners_at}
use Rattle.volumes.proofs.with_triangle.Goals as goal

pub overflow_add-result : goal.overflow_add-result
overflow_add-result c =
    let work = c.args.work.now in
    let t = corners_at work c.args.at in
    let p = c.requires in
    let small : c.diagonals.result ≤ 3 * most_product =
    rw (c.diagonals.ensures, c.place_of-a.ensures, c.place_of-b.ensures, c.place_of-c.ensures)
    (diagonals_small (place_of work t.one) (place_of work t.two) (place_of work t.three) p.one.near p.two.near p.three.near) in
    omega (arith, small, p.fits.most)
