-- Fields of a line and what ends them.
use mathlib.Core.Path.{◌≡◌, refl}
use mathlib.Core.List.{List, [], ◌∷◌}
use mathlib.Core.Bool.{false}
use Prim.Native.Nat.{ℕ, zero, suc}
use native.Mathlib.Nat.{add-zero}
use Rattle.lines.specs.Decimal.{is_digit}
use Rattle.lines.specs.Line.{end_of, line, fields}

-- neither a tab nor a line feed is a digit
pub end_no_digit : (k : ℕ) → is_digit (end_of k) ≡ false
unfolding is_digit end_of
end_no_digit zero = refl
end_no_digit (suc k) = refl

-- fields with nothing after them are a line
pub fields_line : (ns : List ℕ) → fields 0 ns ≡ line ns
unfolding fields line
fields_line [] = refl
fields_line (n ∷ ns) = rw (add-zero, fields_line ns)
