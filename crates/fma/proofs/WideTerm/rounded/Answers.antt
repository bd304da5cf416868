-- `fma::WideTerm::rounded` meets its contract. Assumes nothing.
use native.Mathlib.Omega.{arith}
use Rattle.fma.proofs.Placing.{pattern_no_nan, sign_no_nan, place_high, place_low, place_none}
use Rattle.fma.proofs.WideTerm.rounded.Goals as goal

pub float_from_bits-result : goal.float_from_bits-result
float_from_bits-result c = rw c.from-sign.ensures (pattern_no_nan c.args.self.sign _ _ c.finish.result c.finish.ensures)

pub float_from_bits-result-then-lo-gt0 : goal.float_from_bits-result-then-lo-gt0
float_from_bits-result-then-lo-gt0 c = rw c.from-sign.ensures (pattern_no_nan c.args.self.sign _ _ c.finish-then-lo-gt0.result c.finish-then-lo-gt0.ensures)

pub float_from_bits-result-else-lo-gt0 : goal.float_from_bits-result-else-lo-gt0
float_from_bits-result-else-lo-gt0 c = rw c.from-sign.ensures (sign_no_nan c.args.self.sign)

pub returns-then-hi-gt0 : goal.returns-then-hi-gt0
returns-then-hi-gt0 c = rw c.from-sign.ensures (place_high c.args.self.sign _ _ c.args.self.exponent (omega arith) (omega arith) _ c.top63-v.result c.finish.result c.if-hi-gt0.true c.from-zeros.ensures c.top63-v.ensures c.finish.ensures)

pub returns-then-lo-gt0 : goal.returns-then-lo-gt0
returns-then-lo-gt0 c = rw c.from-sign.ensures (place_low c.args.self.sign _ _ c.args.self.exponent (omega arith) (omega arith) _ c.top63-v-then-lo-gt0.result c.finish-then-lo-gt0.result c.if-hi-gt0.false c.if-lo-gt0.true c.from-zeros-then-lo-gt0.ensures c.top63-v-then-lo-gt0.ensures c.finish-then-lo-gt0.ensures)

pub returns-else-lo-gt0 : goal.returns-else-lo-gt0
returns-else-lo-gt0 c = rw c.from-sign.ensures (place_none c.args.self.sign _ _ c.args.self.exponent (omega arith) (omega arith) c.if-hi-gt0.false c.if-lo-gt0.false)
