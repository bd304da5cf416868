-- `fma::unrounded` meets its contract. Assumes nothing.
use native.Mathlib.Omega.{arith}
use mathlib.Core.Path.{refl}
use Rattle.fma.proofs.Combining.{factors, product_is, hi_lt, sum_second, sum_first, sum_far, sum_above, sum_below, zh_lt}
use Rattle.fma.proofs.unrounded.Goals as goal

pub returns-then-product-eq0-clause-sum : goal.returns-then-product-eq0-clause-sum
returns-then-product-eq0-clause-sum c r placed =
    let x = c.args.x in
    let y = c.args.y in
    let z = c.args.z in
    let p = c.product in
    sum_second _ _ p.result.hi p.result.lo (factors x.digits y.digits x.lo x.hi y.lo y.hi) (product_is x.digits y.digits _ x.hi p.ensures) _ _ z.sign z.digits z.exponent r c.if-product-eq0.true (omega arith) (c.plus.ensures.sum r placed)

pub returns-then-z-eq0-clause-sum : goal.returns-then-z-eq0-clause-sum
returns-then-z-eq0-clause-sum c r placed =
    let x = c.args.x in
    let y = c.args.y in
    let z = c.args.z in
    let p = c.product in
    sum_first _ _ p.result.hi p.result.lo (factors x.digits y.digits x.lo x.hi y.lo y.hi) (product_is x.digits y.digits _ x.hi p.ensures) _ _ z.sign z.digits z.exponent r c.if-z-eq0.true (c.plus-then-z-eq0.ensures.sum r placed)

pub returns-then-z-product-clause-sum : goal.returns-then-z-product-clause-sum
returns-then-z-product-clause-sum c r placed =
    let x = c.args.x in
    let y = c.args.y in
    let z = c.args.z in
    let p = c.product in
    sum_far _ _ p.result.hi p.result.lo (factors x.digits y.digits x.lo x.hi y.lo y.hi) (product_is x.digits y.digits _ x.hi p.ensures) _ _ z.sign z.digits z.exponent r (c.plus_far.ensures.sum r placed)

pub plus-requires-then-z-product-2 : goal.plus-requires-then-z-product-2
plus-requires-then-z-product-2 c =
    let x = c.args.x in
    let y = c.args.y in
    let z = c.args.z in
    let p = c.product in
    (hi_lt _ _ p.result.hi p.result.lo (factors x.digits y.digits x.lo x.hi y.lo y.hi) (product_is x.digits y.digits _ x.hi p.ensures), zh_lt z.digits _ c.shifted.result.hi c.shifted.result.lo z.hi (omega arith) c.shifted.ensures, refl)

pub returns-then-z-product-2-clause-sum : goal.returns-then-z-product-2-clause-sum
returns-then-z-product-2-clause-sum c r placed =
    let x = c.args.x in
    let y = c.args.y in
    let z = c.args.z in
    let p = c.product in
    sum_above _ _ p.result.hi p.result.lo (factors x.digits y.digits x.lo x.hi y.lo y.hi) (product_is x.digits y.digits _ x.hi p.ensures) _ _ z.sign z.digits z.exponent c.shifted.result.hi c.shifted.result.lo r c.if-z-product-2.true c.shifted.ensures (c.plus-then-z-product-2.ensures.sum r placed)

pub returns-else-z-product-2-clause-sum : goal.returns-else-z-product-2-clause-sum
returns-else-z-product-2-clause-sum c r placed =
    let x = c.args.x in
    let y = c.args.y in
    let z = c.args.z in
    let p = c.product in
    sum_below _ _ p.result.hi p.result.lo (factors x.digits y.digits x.lo x.hi y.lo y.hi) (product_is x.digits y.digits _ x.hi p.ensures) _ _ z.sign z.digits z.exponent c.jam.result r c.if-product-eq0.false c.if-z-product-2.false z.hi c.jam.ensures (c.plus-else-z-product-2.ensures.sum r placed)
