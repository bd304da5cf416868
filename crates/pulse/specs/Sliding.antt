-- The falling-edge scan's difference as a running value (02-change-requests.md, A.2). Definitions only.
use Rattle.std.specs.Prelude.{ℕ, ◌+◌, ◌*◌, List, ℤ, pos, negsuc, ◌+ℤ◌, ◌-ℤ◌}
use Rattle.pulse.specs.Edge.{four_from}

-- four counts, from x on, less the next four, with its sign
abbrev pub difference_at : List ℕ → ℕ → ℤ
difference_at counts x = pos (four_from counts x) -ℤ pos (four_from counts (x + 4))

-- from a column to the next: less the count that leaves, plus twice the one that crosses, less the one that enters
abbrev pub slid_by : ℤ → ℕ → ℕ → ℕ → ℤ
slid_by difference leaves crosses enters = difference -ℤ pos leaves +ℤ pos (2 * crosses) -ℤ pos enters

-- a number, and 0 in place of a negative one
abbrev pub not_negative : ℤ → ℕ
not_negative (pos n) = n
not_negative (negsuc n) = 0
