-- `sameshells::same_shells` meets its contract: the columns, and then the volumes.
use mathlib.Core.Path.{sym, ◌∙◌}
use mathlib.Core.Bool.{true≢false, false≢true}
use Rattle.columns.specs.Room.{record_in}
use Rattle.sameshells.proofs.Shells.{all_same, same_fields, same_volumes, left_mesh, volumes_stand, words_there, volumes_read, mesh_left_lem}
use Rattle.sameshells.proofs.same_shells.Goals as goal

pub returns-then-not-same_columns : goal.returns-then-not-same_columns
returns-then-not-same_columns c = record {
  same = record {
    yes = λ e. absurd (false≢true e);
    so = λ e. absurd (true≢false (sym (c.same_columns.ensures.same.so (same_fields c.args.input.now c.args.from c.args.shells c.requires.0 (record_in c.args.parts.points c.args.parts.triangles c.args.work.now) e)) ∙ c.if-not-same_columns.true));
  };
  left = left_mesh c.args.shells c.args.parts.points c.args.parts.triangles c.args.work.now c.requires.1 c.same_columns.new.work c.same_columns.ensures.left;
}

pub gather_volumes-requires : goal.gather_volumes-requires
gather_volumes-requires c =
    volumes_stand c.args.shells c.args.parts.points c.args.parts.triangles c.args.work.now c.requires.1 c.same_columns.new.work c.same_columns.ensures.left

pub same_words-requires : goal.same_words-requires
same_words-requires c =
    (c.requires.0, words_there c.args.shells c.args.parts.points c.args.parts.triangles c.args.work.now c.requires.1 c.same_columns.new.work c.same_columns.ensures.left c.gather_volumes.new.work c.gather_volumes.ensures)

pub returns : goal.returns
returns c =
    let d = c.same_words.ensures in record {
      same = record {
        yes = λ e. all_same c.args.input.now c.args.from c.args.shells c.requires.0 (record_in c.args.parts.points c.args.parts.triangles c.args.work.now) (c.same_columns.ensures.same.yes (c.if-not-same_columns.false)) (λ n l. d.yes e n l ∙ volumes_read c.args.shells c.args.parts.points c.args.parts.triangles c.args.work.now c.requires.1 c.same_columns.new.work c.same_columns.ensures.left c.gather_volumes.new.work c.gather_volumes.ensures n l);
        so = λ e. d.so (λ n l. same_volumes c.args.input.now c.args.from c.args.shells c.requires.0 (record_in c.args.parts.points c.args.parts.triangles c.args.work.now) e n l ∙ sym (volumes_read c.args.shells c.args.parts.points c.args.parts.triangles c.args.work.now c.requires.1 c.same_columns.new.work c.same_columns.ensures.left c.gather_volumes.new.work c.gather_volumes.ensures n l));
      };
      left = mesh_left_lem c.args.shells c.args.parts.points c.args.parts.triangles c.args.work.now c.requires.1 c.same_columns.new.work c.same_columns.ensures.left c.gather_volumes.new.work c.gather_volumes.ensures;
    }
