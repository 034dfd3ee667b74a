-- Each promise leaves one answer.
use mathlib.Core.Path.{◌≡◌}
use mathlib.Core.List.{List}
use Prim.Native.Nat.{ℕ}
use Rattle.cube.specs.Promise.{Counted, Answered, EdgeRead, Rows, Counts}

pub one_count : (case r s : ℕ) → Counted case r → Counted case s → r ≡ s
one_count case r s p q = cc

pub one_case_answer : (case : ℕ) (r s : List (List ℕ)) → Answered case r → Answered case s → r ≡ s
one_case_answer case r s p q = cc

pub one_edge : (case place r s : ℕ) → EdgeRead case place r → EdgeRead case place s → r ≡ s
one_edge case place r s p q = cc

pub one_rows : (r s : List ℕ) → Rows r → Rows s → r ≡ s
one_rows r s p q = cc

pub one_counts : (r s : List ℕ) → Counts r → Counts s → r ≡ s
one_counts r s p q = cc
