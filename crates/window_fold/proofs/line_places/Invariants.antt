-- `window_fold::line_places` meets its contract. The loop's invariant: the columns before x have their places. Assumes nothing.
use mathlib.Core.Path.{◌≡◌}
use Prim.Native.Nat.{ℕ}
use lib.Ieee.{Float}
use lib.ListN.{length, take}
use Rattle.columns.specs.Columns.{probe_of, list_to}
use Rattle.window_fold.specs.Fold.{lines_at}
use Rattle.window_fold.proofs.line_places.Given as goal

-- the place of column x of line y
abbrev pub place : Float → ℕ → ℕ → ℕ
place samples y x = probe_of (lines_at y x) samples

abbrev pub invariant-loop-x : goal.invariant-loop-x
invariant-loop-x l = (length l.places ≡ 700) × (take l.x l.places ≡ list_to (place l.samples l.y) l.x)
