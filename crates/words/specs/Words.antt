-- Numbers as bytes, the least first (02-change-requests.md, A.1, and the vector files), and when a float is the one that a bit pattern says. Definitions only.
use Rattle.std.specs.Prelude.{ℕ, zero, suc, ◌+◌, ◌-◌, ◌*◌, ◌/◌, ◌%◌, ◌^◌, Bool, cond, List, [], ◌∷◌, take, drop, eqb, ltb, ℤ, pos, negsuc, Float}
use Rattle.std.specs.Float.{Format}
use Rattle.std.specs.Float.Ieee.{is_nan, nan_bits, to_bits}

-- bytes as a number, the least first
unfoldable pub little_endian : List ℕ → ℕ
little_endian [] = 0
little_endian (b ∷ bs) = b + 256 * little_endian bs

-- the n bytes from place `at` on as a number
abbrev pub number_at : List ℕ → ℕ → ℕ → ℕ
number_at bs at n = little_endian (take n (drop at bs))

-- the n lowest bytes of a number, the least first
unfoldable pub bytes_of : ℕ → ℕ → List ℕ
bytes_of zero v = []
bytes_of (suc n) v = v % 256 ∷ bytes_of n (v / 256)

-- half word number k
abbrev pub half_word_at : List ℕ → ℕ → ℕ
half_word_at bs k = number_at bs (4 * k) 4

-- the 64 bits of a signed number, in two's complement, and the number that 64 bits are
abbrev pub bits_of : ℤ → ℕ
bits_of (pos n) = n
bits_of (negsuc n) = 2 ^ 64 - suc n

abbrev pub signed_of : ℕ → ℤ
signed_of b = cond (ltb b (2 ^ 63)) (pos b) (negsuc (2 ^ 64 - 1 - b))

-- x has the bit pattern b. Any NaN has any NaN's pattern
unfoldable pub has_bits : Format → Float → ℕ → Bool
has_bits f x b = cond (is_nan x) (nan_bits f b) (eqb (to_bits f x) b)
