-- The four kinds of line, read as they were written.
use mathlib.Core.Path.{◌≡◌, refl, ap, sym, ◌∙◌, subst}
use mathlib.Core.List.{List, [], ◌∷◌, ◌++◌, append_assoc}
use mathlib.Core.Bool.{true, false}
use Prim.Native.Nat.{ℕ, ◌^◌, ◌≤◌, ◌<◌}
use native.Mathlib.Omega.{arith}
use lib.Dec.{leb}
use lib.IntN.{ℤ, nat_abs}
use lib.ListN.{length, get_or}
use Rattle.laws.specs.Range.{join_to}
use Rattle.laws.specs.Sum.{All}
use Rattle.laws.proofs.Ranges.{all_entries}
use Rattle.lines.specs.Decimal.{is_digit, signed}
use Rattle.lines.specs.Line.{tab, line, fields, lettered}
use Rattle.reading.specs.Reading.{most_word}
use Rattle.reading.proofs.Exact.{Exact, Built, both_exact, lettered_exact, if_exact, map_exact}
use Rattle.reading.proofs.Fields.{Numbers, fields_exact, row_exact}
use Rattle.reading.proofs.Signs.{signed_exact}
use Rattle.records.specs.declared.Shell.{Shell}
use Rattle.records.specs.Grown.{most_volume}
use Rattle.meshlines.specs.MeshLines.{letter_v, letter_t}
use Rattle.shelllines.specs.ShellLines.{letter_s, counts_of as shellCounts, box_of, shell_text}
use Rattle.meshtext.specs.MeshText.{letter_m}
use Rattle.meshread.specs.Lines.{Counts, counts_of, read_counts, edge_of, read_point, read_triangle, shell_of, read_shell}

-- line 1
abbrev pub numbers_of : Counts → List ℕ
numbers_of c = c.points ∷ c.triangles ∷ c.shells ∷ []

pub counts_exact : Exact read_counts (λ c. lettered letter_m (numbers_of c)) (λ c. Numbers most_word 3 (numbers_of c))
unfolding read_counts counts_of lettered join_to
counts_exact = map_exact counts_of numbers_of (λ c. refl) (λ ns f. all_entries ns 3 (sym f.0)) (lettered_exact letter_m (row_exact most_word 3 (omega arith)))

-- a point's line with an edge number that is not below the bound, and a triangle's line
abbrev pub PointFits : ℕ → List ℕ → Type 0
PointFits bound row = Numbers most_word 5 row × (leb bound (edge_of row) ≡ true)

pub point_exact : (bound : ℕ) → Exact (read_point bound) (lettered letter_v) (PointFits bound)
unfolding read_point lettered
point_exact bound = if_exact (λ row. leb bound (edge_of row)) (lettered_exact letter_v (row_exact most_word 5 (omega arith)))

-- the edge number is below 2^32
pub edge_small : (row : List ℕ) → Numbers most_word 5 row → edge_of row < 2 ^ 32
edge_small [] f = omega arith
edge_small (n ∷ row) f = let l = f.1.0 in omega arith

pub triangle_exact : Exact read_triangle (lettered letter_t) (Numbers most_word 3)
unfolding read_triangle lettered
triangle_exact = lettered_exact letter_t (row_exact most_word 3 (omega arith))

-- a shell's line
pub record ShellFits (s : Shell) : Type 0 where
  pub counts : All (λ n. n ≤ most_word) (shellCounts s)
  pub volume : nat_abs s.volume ≤ most_volume
  pub box : All (λ n. n ≤ most_word) (box_of s)

abbrev BehindFits : ℤ × List ℕ → Type 0
BehindFits p = (nat_abs p.0 ≤ most_volume) × Numbers most_word 6 p.1

abbrev behind : ℤ × List ℕ → List ℕ
behind p = signed p.0 ++ tab ∷ line p.1

behind_built : Built (λ volume box. (volume, box)) (λ z. signed z ++ tab ∷ []) line (λ z. nat_abs z ≤ most_volume) (Numbers most_word 6) behind BehindFits
behind_built =
    record {
      made = λ z box f g. (f, g);
      text = λ z box f g. sym (append_assoc (signed z) (tab ∷ []) (line box));
      parts = λ p f. record { one = p.0; two = p.1; fit_one = f.0; fit_two = f.1; same = refl };
    }

shell_built : Built shell_of (fields 7) behind (Numbers most_word 4) BehindFits (λ s. fields 7 (shellCounts s) ++ behind (s.volume, box_of s)) ShellFits
unfolding shell_of join_to
shell_built =
    record {
      made = λ cs p f g. record { counts = subst (All (λ n. n ≤ most_word)) (sym (four cs f.0)) f.1; volume = g.0; box = subst (All (λ n. n ≤ most_word)) (sym (six p.1 g.1.0)) g.1.1 };
      text = λ cs p f g. ap (λ ns. fields 7 ns ++ behind (p.0, box_of (shell_of cs p))) (four cs f.0) ∙ ap (λ ns. fields 7 cs ++ behind (p.0, ns)) (six p.1 g.1.0);
      parts = λ s f. record { one = shellCounts s; two = (s.volume, box_of s); fit_one = (refl, f.counts); fit_two = (f.volume, (refl, f.box)); same = refl };
    }
  where
    four : (ns : List ℕ) → length ns ≡ 4 → join_to 4 (λ i. get_or ns i 0 ∷ []) ≡ ns
    four ns e = all_entries ns 4 (sym e)

    six : (ns : List ℕ) → length ns ≡ 6 → join_to 6 (λ i. get_or ns i 0 ∷ []) ≡ ns
    six ns e = all_entries ns 6 (sym e)

tab_no_digit : is_digit tab ≡ false
unfolding is_digit
tab_no_digit = refl

pub shell_exact : Exact read_shell shell_text ShellFits
unfolding read_shell shell_text
shell_exact =
    lettered_exact letter_s (both_exact shell_built (fields_exact most_word 7 4 (omega arith))
    (both_exact behind_built (signed_exact most_volume tab (omega arith) tab_no_digit) (row_exact most_word 6 (omega arith))))
