-- `printing::write_records` meets its contract: the shells go into blank records, and the text is written with them.
use mathlib.Core.Path.{refl, subst, ◌∙◌}
use Prim.Native.Nat.{◌/◌}
use lib.ListN.{length, replicate}
use Rattle.grid.specs.Refusal.{told, granted_or}
use Rattle.records.specs.declared.Shell.{Shell}
use Rattle.shellnumbers.specs.Lists.{left}
use Rattle.shelllist.specs.Promise.{Shells}
use Rattle.meshtext.specs.MeshText.{Holds}
use Rattle.printing.specs.Sizes.{most_small_points}
use Rattle.printing.proofs.write_records.Goals as goal

pub returns : goal.returns
returns c =
    let a = c.args in
    let l = c.shells-listed in
    record {
      number = told l.result;
      shells = granted_or 0 l.result;
      records = l.new.records;
      made = subst (λ (s : Shell). Shells a.mesh.points.now a.mesh.triangles.now a.mesh.marks.now a.numbers.now a.work.now (replicate most_small_points s) (left (told l.result) (granted_or 0 l.result) l.new.numbers l.new.work) l.new.records) c.blank-records.ensures l.ensures;
      holds = subst (λ k. Holds (length a.mesh.marks.now) (length a.mesh.triangles.now / 3) k (length a.output.now) (told c.write_mesh.result)) c.unwrap_or-shells.ensures c.write_mesh.ensures.0;
      written = c.write_mesh.ensures.1 ∙ rw c.unwrap_or-shells.ensures refl;
    }
