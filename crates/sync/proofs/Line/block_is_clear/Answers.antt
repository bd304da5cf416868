-- `sync::Line::block_is_clear` meets its contract. Assumes nothing.
use mathlib.Core.Path.{◌≡◌}
use mathlib.Core.List.{List}
use Prim.Native.Nat.{ℕ, ◌+◌, ◌-◌, ◌≤◌, ◌<◌}
use native.Mathlib.Omega.{arith}
use lib.ListN.{get_or}
use lib.Ieee.{Float, nan, binary64, add}
use Rattle.columns.specs.Columns.{probe_of}
use Rattle.sync.specs.Fold.{flag_at}
use Rattle.sync.specs.Steps.{Rising, Clear}
use Rattle.sync.proofs.Line.block_is_clear.Goals as goal

-- what lies between the first place and the last
within : (flags : List ℕ) (columns : List Float) (start rate : Float) (from first last : ℕ) → from + 28 ≤ 700 → Rising rate start columns
    → first ≡ probe_of (add binary64 start (get_or columns from nan)) rate → last ≡ probe_of (add binary64 start (get_or columns (from + 28 - 1) nan)) rate
    → Clear flags first last → (x : ℕ) → from ≤ x → x < from + 28 → flag_at flags rate start (get_or columns x nan) ≡ 0
unfolding flag_at
within flags columns start rate from first last b r p q c x l h =
    c (probe_of (add binary64 start (get_or columns x nan)) rate) (rw p (r from x l (omega arith))) (rw q (r x (from + 28 - 1) (omega arith) (omega arith)))

pub returns : goal.returns
returns c =
    let l = c.args.self in
    λ e. within l.flags.now l.columns.now l.start l.rate c.args.from _ _ c.requires.0 (l.in_order c.requires.1) c.place.ensures c.place-2.ensures (c.are_clear.ensures e)
