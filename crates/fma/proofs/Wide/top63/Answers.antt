-- `fma::Wide::top63` meets its contract. Assumes nothing.
use native.Mathlib.Omega.{arith}
use Rattle.fma.proofs.Cutting.{v_lt, top_none, top_even, top_cut}
use Rattle.fma.proofs.Wide.top63.Goals as goal

pub overflow_add-v : goal.overflow_add-v
overflow_add-v c = record { fits = v_lt c.args.self.hi c.args.self.lo c.args.zeros (omega arith) (omega arith) c.requires.0 c.requires.1 (omega arith) }

pub returns-then-zeros-eq0 : goal.returns-then-zeros-eq0
returns-then-zeros-eq0 c = top_none c.args.self.hi c.args.self.lo c.args.zeros (omega arith) (omega arith) c.requires.0 c.requires.1 c.sticky_high.result c.jam.result c.if-zeros-eq0.true c.sticky_high.ensures c.jam.ensures

pub returns-then-self-zeros-eq0 : goal.returns-then-self-zeros-eq0
returns-then-self-zeros-eq0 c = top_even c.args.self.hi c.args.self.lo c.args.zeros (omega arith) (omega arith) c.requires.0 c.requires.1 (omega arith) c.if-self-zeros-eq0.true

pub returns-else-self-zeros-eq0 : goal.returns-else-self-zeros-eq0
returns-else-self-zeros-eq0 c = top_cut c.args.self.hi c.args.self.lo c.args.zeros (omega arith) (omega arith) c.requires.0 c.requires.1 (omega arith) c.if-self-zeros-eq0.false
