-- `fma::Wide::sticky_high` meets its contract. Assumes nothing.
use native.Mathlib.Omega.{arith}
use Rattle.fma.proofs.Closing.{high_odd}
use Rattle.fma.proofs.Wide.sticky_high.Goals as goal

pub returns-else-self-eq0 : goal.returns-else-self-eq0
returns-else-self-eq0 c = high_odd c.args.self.hi c.args.self.lo (omega arith) c.if-self-eq0.false
