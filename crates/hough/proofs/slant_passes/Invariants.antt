-- `hough::slant_passes` meets its contract. The loop's invariant: the passes left lead from the present state to the definition's answer. Assumes nothing.
use mathlib.Core.Path.{◌≡◌}
use Prim.Native.Nat.{◌-◌}
use Rattle.hough.specs.Passes.{passes_from}
use Rattle.hough.proofs.PassLaws.{Kept}
use Rattle.hough.proofs.slant_passes.Given as goal

abbrev pub invariant-loop : goal.invariant-loop
invariant-loop l =
    (passes_from 4 l.flags l.spec l.w l.initial.state ≡ passes_from (4 - l.counter) l.flags l.spec l.w l.state) × Kept l.counter l.initial.img l.img l.initial.votes l.votes
