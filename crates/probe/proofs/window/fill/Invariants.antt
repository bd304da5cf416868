-- `probe::window::fill` meets its contract. The loop's invariant: the pairs passed have their real parts, and the others are 0.
-- Assumes nothing.
use Rattle.std.proofs.Common.{◌≡◌}
use Rattle.probe.specs.Window.{pairs_of}
use Rattle.probe.proofs.Pairs.{real_to}
use Rattle.probe.proofs.window.fill.Given as goal

abbrev pub invariant-loop-i : goal.invariant-loop-i
invariant-loop-i l = l.buffer ≡ pairs_of (real_to l.sound l.centre l.i) 256
