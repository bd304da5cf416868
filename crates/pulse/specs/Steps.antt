-- What the scans of windows and of falls (01-scope.md, "Fold and pulse window"; 02-change-requests.md, A.3) keep from place to place.
-- Definitions only.
use Rattle.std.specs.Prelude.{ℕ, ◌+◌, cond, ltb, eqb}
use Rattle.pulse.specs.declared.BestWindow.{BestWindow}
use Rattle.pulse.specs.declared.FallingPlace.{FallingPlace}

-- one more window: the only one where its sum is larger than the best before it, and one more of them where it is the same
abbrev pub better_of : BestWindow → ℕ → ℕ → BestWindow
better_of best start sum =
    cond (ltb best.sum sum) (record { start = start; sum = sum; windows = 1 })
    (cond (eqb sum best.sum) (record { start = best.start; sum = sum; windows = best.windows + 1 }) best)

-- one more place: it is taken where its fall is larger than the steepest before it
abbrev pub steeper_of : FallingPlace → ℕ → ℕ → FallingPlace
steeper_of best at fall = cond (ltb best.fall fall) (record { at = at; fall = fall }) best
