-- `probe::decision::low_bin` meets its contract. 1500.0 is the whole number by computation.
-- Assumes nothing.
use mathlib.Core.Path.{ap, ◌∙◌}
use Prim.Native.Nat.{ℕ, max}
use lib.Ieee.{of_bits, of_int}
use Rattle.probe.specs.Decision.{shifted_bin}
use Rattle.probe.proofs.decision.low_bin.Goals as goal

pub returns : goal.returns
unfolding shifted_bin of_bits of_int
returns c = c.max.ensures ∙ ap (λ (b : ℕ). max b 1) c.get_bin.ensures
