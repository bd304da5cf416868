-- `probe::decision::sync_bin` meets its contract. 1200.0 is the whole number by computation.
-- Assumes nothing.
use Rattle.std.proofs.Common.{◌≡◌, ℕ, min, max, ap, ◌∙◌, arith}
use lib.Ieee.{of_bits, of_int}
use Rattle.probe.specs.Decision.{shifted_bin}
use Rattle.probe.proofs.decision.sync_bin.Goals as goal

clamped : (n : ℕ) → max 1 (min n 127) ≡ min (max n 1) 127
clamped n = omega arith

pub returns : goal.returns
unfolding shifted_bin of_bits of_int
returns c = c.clamp.ensures ∙ clamped _ ∙ ap (λ (b : ℕ). min (max b 1) 127) c.get_bin.ensures
