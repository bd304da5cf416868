-- Answers of the goals that the check leaves.
use mathlib.Core.Path.{◌≡◌, ap}
use mathlib.Core.Bool.{not}
use native.Mathlib.Omega.{arith}
use lib.Ieee.{of_bits}
use Rattle.line_parity.proofs.Tones.{vote_none, vote_next, odd_never, odd_by}
use Rattle.line_parity.proofs.first_line_is_odd.Goals as goal

pub returns-then-not-has_parity_tone : goal.returns-then-not-has_parity_tone
returns-then-not-has_parity_tone c = odd_never _ _ _ _ _ c.has_parity_tone.ensures (ap not c.if-not-has_parity_tone.true)

pub loop-k-init : goal.loop-k-init
unfolding of_bits
loop-k-init c = vote_none _ _ _

pub loop-k-preserved : goal.loop-k-preserved
loop-k-preserved c = vote_next _ _ _ _ _ _ c.loop-k.invariant c.vote_on-vote.ensures

pub returns : goal.returns
unfolding of_bits
returns c =
    let l = c.loop-k in
    let e : l.k ≡ c.window_lines-lines.result = omega arith in
    odd_by _ _ _ _ c.window_lines-lines.result _ _ c.has_parity_tone.ensures (ap not c.if-not-has_parity_tone.false) c.window_lines-lines.ensures (rw (← e) l.invariant)
