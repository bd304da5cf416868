-- `line_parity::tone_lean` meets its contract. Assumes nothing.
use native.Mathlib.Omega.{arith}
use Prim.Native.Nat.{◌+◌, ◌≤◌}
use lib.ListN.{length}
use Rattle.line_parity.proofs.Tones.{known_end, tone_part}
use Rattle.line_parity.proofs.tone_lean.Goals as goal

bound : (c : goal.After-to_u64-at) → c.to_u64-at.result + 49 ≤ length c.args.samples.now
bound c = rw c.to_u64-at.ensures (known_end _ _ c.requires)

pub overflow_add-end : goal.overflow_add-end
overflow_add-end c = omega (arith, bound c)

pub offset_bounds-samples-at : goal.offset_bounds-samples-at
offset_bounds-samples-at c = omega (arith, bound c)

pub slice_bounds-lean-end : goal.slice_bounds-lean-end
slice_bounds-lean-end c = omega (arith, bound c)

pub returns : goal.returns
returns c = rw (← tone_part _ _ _ c.to_u64-at.ensures) c.lean.ensures
