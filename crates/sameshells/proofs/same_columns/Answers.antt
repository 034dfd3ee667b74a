-- `sameshells::same_columns` meets its contract: the fields of the kinds passed are those of the records.
use mathlib.Core.Path.{sym, ◌∙◌, subst}
use Prim.Native.Nat.{ℕ, ◌<◌}
use mathlib.Core.Bool.{true≢false, false≢true}
use native.Mathlib.Omega.{arith}
use Rattle.columns.specs.Columns.{kind_of}
use Rattle.columns.specs.Room.{record_in}
use Rattle.sameshells.specs.Same.{shells_at, SameField}
use Rattle.sameshells.proofs.Compared.{below_next}
use Rattle.sameshells.proofs.Columns.{field_at, number_at, stands_left, column_next, column_inside, field_same, field_not}
use Rattle.sameshells.proofs.same_columns.Goals as goal

pub gather-requires : goal.gather-requires
gather-requires c =
    stands_left c.args.shells c.args.parts.points c.args.parts.triangles c.args.work.now c.requires.1 c.loop-field.work c.loop-field.invariant.0

pub same_column-requires : goal.same_column-requires
same_column-requires c =
    (c.requires.0, rw c.column_at-column.ensures (column_inside c.args.shells c.args.parts.points c.args.parts.triangles c.args.work.now c.requires.1 c.loop-field.work c.loop-field.invariant.0 (kind_of (field_at c.loop-field.field-index)) c.gather.new.work c.gather.ensures))

pub returns-then-not-same_column : goal.returns-then-not-same_column
returns-then-not-same_column c =
    let a = c.args in
    let k = c.loop-field.field-index in
    let kind = kind_of (field_at k) in
    let few : kind < 10 = omega (arith, number_at k (omega arith)) in
    let no = c.if-not-same_column.true in record {
      same = record {
        yes = λ e. absurd (false≢true e);
        so = λ same. absurd (true≢false (sym (field_not a.shells a.parts.points a.parts.triangles a.work.now c.requires.1 c.loop-field.work c.loop-field.invariant.0 kind c.gather.new.work c.gather.ensures (shells_at a.input.now a.from a.shells) c.same_column.result (rw c.column_at-column.ensures at c.same_column.ensures) no (same kind few)) ∙ no));
      };
      left = column_next a.shells a.parts.points a.parts.triangles a.work.now c.requires.1 c.loop-field.work c.loop-field.invariant.0 kind c.gather.new.work c.gather.ensures;
    }

pub loop-field-preserved : goal.loop-field-preserved
loop-field-preserved c =
    let a = c.args in
    let k = c.loop-field.field-index in
    let kind = kind_of (field_at k) in
    let P : ℕ → Type 0 = λ n. SameField (shells_at a.input.now a.from a.shells) a.shells n (record_in a.parts.points a.parts.triangles a.work.now) in (
      column_next a.shells a.parts.points a.parts.triangles a.work.now c.requires.1 c.loop-field.work c.loop-field.invariant.0 kind c.gather.new.work c.gather.ensures,
      below_next k P c.loop-field.invariant.1
          (subst P (number_at k (omega arith)) (field_same a.shells a.parts.points a.parts.triangles a.work.now c.requires.1 c.loop-field.work c.loop-field.invariant.0 kind c.gather.new.work c.gather.ensures (shells_at a.input.now a.from a.shells) c.same_column.result (rw c.column_at-column.ensures at c.same_column.ensures) (c.if-not-same_column.false))),
    )
