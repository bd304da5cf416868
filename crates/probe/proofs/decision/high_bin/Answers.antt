-- `probe::decision::high_bin` meets its contract. 2300.0 is the whole number by computation.
-- Assumes nothing.
use mathlib.Core.Path.{ap, ◌∙◌}
use Prim.Native.Nat.{ℕ, min}
use lib.Ieee.{of_bits, of_int}
use Rattle.probe.specs.Decision.{shifted_bin}
use Rattle.probe.proofs.decision.high_bin.Goals as goal

pub returns : goal.returns
unfolding shifted_bin of_bits of_int
returns c = c.min.ensures ∙ ap (λ (b : ℕ). min b 127) c.get_bin.ensures
