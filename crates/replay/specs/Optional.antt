-- Optional values as they are recorded. Definitions only.
use Rattle.std.specs.Prelude.{ℕ, ◌-◌, ◌^◌, Bool, true, false, cond, eqb, Float, Option, None, Some}
use Rattle.std.specs.Float.{binary64}
use Rattle.words.specs.Words.{has_bits}

-- all ones stand for none
abbrev pub optional_of : ℕ → Option ℕ
optional_of w = cond (eqb w (2 ^ 64 - 1)) None (Some w)

-- both are there and the float has the pattern, or neither is there
abbrev pub has_bits_or_none : Option Float → Option ℕ → Bool
has_bits_or_none (Some x) (Some bits) = has_bits binary64 x bits
has_bits_or_none None None = true
has_bits_or_none (Some x) None = false
has_bits_or_none None (Some bits) = false
