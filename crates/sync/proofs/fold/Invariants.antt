-- `sync::fold` meets its contract. The loop's invariant: each count is its column's sum over the lines passed. Assumes nothing.
use mathlib.Core.Path.{◌≡◌}
use Prim.Native.Nat.{ℕ, ◌<◌}
use lib.ListN.{length, get_or}
use Rattle.sync.specs.Fold.{column_count}
use Rattle.sync.proofs.fold.Given as goal

abbrev pub invariant-loop-y : goal.invariant-loop-y
invariant-loop-y l = (length l.counts ≡ 700) × ((x : ℕ) → x < 700 → get_or l.counts x 0 ≡ column_count l.flags l.rate l.line l.y x)
