-- The loop's invariant: the sum is that of the last window seen, and the best is the first of the largest so far, with their number.
-- Assumes nothing.
use Rattle.std.proofs.Common.{◌≡◌, ◌-◌}
use Rattle.pulse.specs.PulseWindow.{window_sum}
use Rattle.pulse.proofs.Largest.{Best}
use Rattle.pulse.proofs.best_window.Given as goal

abbrev pub invariant-loop-start : goal.invariant-loop-start
invariant-loop-start l = (l.sum ≡ window_sum l.counts l.width (l.start - 1)) × Best (window_sum l.counts l.width) l.start l.best
