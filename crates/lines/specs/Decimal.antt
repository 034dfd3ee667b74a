-- Whole numbers in decimal, as bytes of ASCII: no sign and no needless zero.
use Rattle.std.specs.Prelude.{List, [], ◌∷◌, ◌++◌, Bool, true, false, ◌&&◌, ℕ, zero, suc, ◌+◌, ◌/◌, ◌%◌, leb, ltb, ℤ, pos, negsuc}

-- the digits `0` to `9` are the bytes 48 to 57
abbrev pub digit_zero : ℕ
digit_zero = 48

abbrev pub digit : ℕ → ℕ
digit d = digit_zero + d

unfoldable pub is_digit : ℕ → Bool
is_digit b = leb (digit 0) b && leb b (digit 9)

-- the digits of n, the highest first, if they are at most k
unfoldable pub decimal_to : ℕ → ℕ → List ℕ
decimal_to zero n = []
decimal_to (suc k) n = elim (ltb n 10) [ true ↦ digit n ∷ [] | false ↦ decimal_to k (n / 10) ++ (digit (n % 10) ∷ []) ]

-- a number has no more digits than one more than itself
unfoldable pub decimal : ℕ → List ℕ
decimal n = decimal_to (suc n) n

-- a signed number has a minus sign if it is negative
abbrev pub minus_sign : ℕ
minus_sign = 45

unfoldable pub signed : ℤ → List ℕ
signed (pos n) = decimal n
signed (negsuc n) = minus_sign ∷ decimal (suc n)
