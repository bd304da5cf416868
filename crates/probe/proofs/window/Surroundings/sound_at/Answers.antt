-- `probe::window::Surroundings::sound_at` meets its contract, before the sound and from its beginning on.
-- Assumes nothing.
use Rattle.std.proofs.Common.{arith, rules}
use lib.Ieee.{of_bits}
use Rattle.probe.proofs.Pairs.{sound_before, sound_from}
use Rattle.probe.proofs.window.Surroundings.sound_at.Goals as goal

pub returns-in-Some : goal.returns-in-Some
unfolding of_bits
returns-in-Some c = rw (← sound_from c.args.self.now.sound.now c.args.self.now.centre c.args.i c.in-Some.ensures.0, ← c.in-Some.ensures.1) (search rules)

pub returns-in-None : goal.returns-in-None
unfolding of_bits
returns-in-None c = sound_before _ _ c.args.i (let h = c.in-None.ensures in omega arith)
