-- `shelllines::write_shell` meets its contract: the letter, the four numbers, the volume and the box.
use mathlib.Core.Path.{◌≡◌, ap, ◌∙◌}
use mathlib.Core.List.{List, ◌++◌, ◌∷◌, []}
use Prim.Native.Nat.{ℕ, ◌+◌}
use native.Mathlib.Omega.{arith}
use lib.ListN.{length, set, length-set}
use lib.Seq.{sets}
use mir.Syntax.{w64}
use mir.Val.{to_z, of_z}
use borrow.Author.Rules.{rules}
use Rattle.lines.specs.Decimal.{signed}
use Rattle.lines.specs.Line.{tab, fields}
use Rattle.shelllines.specs.ShellLines.{letter_s}
use Rattle.shelllines.proofs.ShellTexts.{shell_parts, shell_written}
use Rattle.shelllines.proofs.write_shell.Goals as goal

-- the room with the letter and the tab is as long
lettered_room : (room : List ℕ) (at : ℕ) → length (set (set room at letter_s) (at + 1) tab) ≡ length room
lettered_room room at = length-set (set room at letter_s) (at + 1) tab ∙ length-set room at letter_s

pub bounds-room-at : goal.bounds-room-at
bounds-room-at c = omega (arith, shell_parts c.args.s)

pub bounds-room-at-2 : goal.bounds-room-at-2
bounds-room-at-2 c = omega (arith, shell_parts c.args.s, length-set c.args.room.now c.args.at letter_s)

pub write_fields-behind_counts-requires : goal.write_fields-behind_counts-requires
write_fields-behind_counts-requires c =
    omega (arith, shell_parts c.args.s, lettered_room c.args.room.now c.args.at, ap (λ ns. length (fields 7 ns)) c.counts_of-counts.ensures)

pub write_signed-behind_volume-requires : goal.write_signed-behind_volume-requires
write_signed-behind_volume-requires c =
    let kept : to_z w64 (of_z w64 c.args.s.volume) ≡ c.args.s.volume = search rules in
    rw kept (omega (arith, shell_parts c.args.s, lettered_room c.args.room.now c.args.at, ap (λ ns. length (fields 7 ns)) c.counts_of-counts.ensures, c.write_fields-behind_counts.ensures.place, c.write_fields-behind_counts.auto.room))

pub write_fields-requires : goal.write_fields-requires
write_fields-requires c =
    let kept : to_z w64 (of_z w64 c.args.s.volume) ≡ c.args.s.volume = search rules in
    omega (arith, ap (λ z. length (signed z)) kept, shell_parts c.args.s, lettered_room c.args.room.now c.args.at, ap (λ ns. length (fields 7 ns)) c.counts_of-counts.ensures, ap (λ ns. length (fields 0 ns)) c.box_of-sides.ensures)

pub shape_of-room : goal.shape_of-room
shape_of-room c =
    c.write_fields.auto.room ∙ (c.write_signed-behind_volume.auto.room ∙ (c.write_fields-behind_counts.auto.room ∙ lettered_room c.args.room.now c.args.at))

pub returns : goal.returns
returns c =
    let a = c.args in
    let s = a.s in
    let counts = ap (fields 7) c.counts_of-counts.ensures in
    let box = ap (fields 0) c.box_of-sides.ensures in
    let kept : to_z w64 (of_z w64 s.volume) ≡ s.volume = search rules in
    let volume = ap signed kept in (
      omega (arith, ap length box, ap length volume, ap length counts, shell_parts s),
      shell_written s a.room.now c.write_fields-behind_counts.new.room c.write_signed-behind_volume.new.room c.write_fields.new.room a.at c.write_fields-behind_counts.result c.write_signed-behind_volume.result
          (c.write_fields-behind_counts.ensures.text ∙ ap (sets (set (set a.room.now a.at letter_s) (a.at + 1) tab) (a.at + 2)) counts)
          (c.write_fields-behind_counts.ensures.place ∙ ap (λ d. a.at + 2 + length d) counts)
          (c.write_signed-behind_volume.ensures.text ∙ ap (λ d. sets c.write_fields-behind_counts.new.room c.write_fields-behind_counts.result (d ++ tab ∷ [])) volume)
          (c.write_signed-behind_volume.ensures.place ∙ ap (λ d. c.write_fields-behind_counts.result + (length d + 1)) volume)
          (c.write_fields.ensures.text ∙ ap (sets c.write_signed-behind_volume.new.room c.write_signed-behind_volume.result) box),
    )
