-- The lengths of a piece. Definitions only.
use Rattle.std.specs.Prelude.{ℕ, ◌≡◌, ◌/◌, ◌%◌, ◌^◌, Option, None, Some, vec_len}
use Rattle.lent_memory.specs.declared.pieces.Piece.{Piece}

-- a piece, where there is one, has as many flags as the lower half of the word says, and as many samples as the upper
abbrev pub IsAsLong : ℕ → Option Piece → Type 0
IsAsLong lengths None = Unit
IsAsLong lengths (Some piece) = (vec_len piece.flags ≡ lengths % 2 ^ 32) × (vec_len piece.samples ≡ lengths / 2 ^ 32)
