-- `fma::WideTerm::plus_far` meets its contract. Assumes nothing.
use native.Mathlib.Omega.{arith}
use Rattle.fma.proofs.Closing.{high_lt, far_like, far_unlike}
use Rattle.fma.proofs.WideTerm.plus_far.Goals as goal

pub returns-then-self-z-clause-sum : goal.returns-then-self-z-clause-sum
returns-then-self-z-clause-sum c r placed =
    let p = c.args.self in
    let z = c.args.z in
    let h = c.sticky_high-h in
    far_like p.sign z.sign _ p.exponent z.digits z.exponent h.result c.jam.result r (z.lo c.requires.1) z.hi (high_lt p.digits.hi p.digits.lo h.result c.requires.0 (omega arith) h.ensures) h.ensures c.requires.2 c.if-self-z.true c.jam.ensures placed

pub returns-else-self-z-clause-sum : goal.returns-else-self-z-clause-sum
returns-else-self-z-clause-sum c r placed =
    let p = c.args.self in
    let z = c.args.z in
    let h = c.sticky_high-h in
    far_unlike p.sign z.sign _ p.exponent z.digits z.exponent h.result c.jam-else-self-z.result r (z.lo c.requires.1) z.hi (high_lt p.digits.hi p.digits.lo h.result c.requires.0 (omega arith) h.ensures) h.ensures c.requires.2 c.if-self-z.false c.jam-else-self-z.ensures placed
