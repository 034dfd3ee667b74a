-- `roommesh::number_shells` meets its contract: the corners of every triangle in one set, and then the ranks of the roots.
use Rattle.roommesh.proofs.Numbering.{shells_numbered}
use Rattle.roommesh.proofs.number_shells.Goals as goal

pub returns : goal.returns
returns c =
    let parts = c.split_at_mut-mesh.ensures in
    let u = rw (parts.front, parts.back, c.numbers_at.ensures, c.triangles_at.ensures) at c.unite.ensures in
    rw (parts.front, parts.back, c.numbers_at.ensures) (shells_numbered c.args.parts.points c.args.parts.triangles c.args.work.now c.requires c.unite.new.room c.rank.new.room c.count-shells.result u c.rank.ensures c.count-shells.ensures)
