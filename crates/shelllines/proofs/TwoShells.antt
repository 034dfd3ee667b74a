-- Two shells, the second inside the first one's box: each has a line, of its own record.
use mathlib.Core.Path.{◌≡◌, refl}
use mathlib.Core.Bool.{cond}
use lib.Dec.{eqb}
use lib.IntN.{pos, negsuc}
use Rattle.laws.specs.Range.{join_to}
use Rattle.lines.specs.Decimal.{decimal_to, decimal, signed}
use Rattle.lines.specs.Line.{end_of, line, fields}
use Rattle.lines.proofs.Quoted.{bytes}
use Rattle.records.specs.declared.Shell.{Shell}
use Rattle.shelllines.specs.ShellLines.{shell_text, shells_text}

abbrev outer : Shell
outer =
    record {
      low = 0;
      points = 38;
      triangles = 72;
      touches = 0;
      volume = negsuc 999;
      least_x = 128;
      greatest_x = 1152;
      least_y = 256;
      greatest_y = 1280;
      least_z = 384;
      greatest_z = 1408;
    }

abbrev inner : Shell
inner =
    record {
      low = 9;
      points = 6;
      triangles = 8;
      touches = 0;
      volume = pos 500;
      least_x = 500;
      greatest_x = 700;
      least_y = 600;
      greatest_y = 800;
      least_z = 700;
      greatest_z = 900;
    }

two_lines : shells_text 2 (λ n. cond (eqb n 0) outer inner) ≡ bytes "S\t0\t38\t72\t0\t-1000\t128\t1152\t256\t1280\t384\t1408\nS\t9\t6\t8\t0\t500\t500\t700\t600\t800\t700\t900\n"
unfolding bytes decimal_to decimal signed end_of line fields join_to shell_text shells_text
two_lines = refl
