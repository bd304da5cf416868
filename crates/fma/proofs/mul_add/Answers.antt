-- `fma::mul_add` meets its contract. Assumes nothing.
use Rattle.fma.proofs.Fusing.{fma_terms}
use Rattle.fma.proofs.mul_add.Goals as goal

pub returns-else-not-is_finite-3 : goal.returns-else-not-is_finite-3
returns-else-not-is_finite-3 c =
    let x = c.of_pattern in
    let y = c.of_pattern-else-not-is_finite-3 in
    let z = c.of_pattern-else-not-is_finite-3-2 in
    fma_terms c.args.x c.args.y c.args.z c.well_formed.0.1 c.well_formed.1.0.1 c.well_formed.1.1.0.1 _ _ _ _ _ _ _ _ _ x.ensures y.ensures z.ensures x.result.least y.result.least c.rounded.result (c.unrounded.ensures.sum c.rounded.result c.rounded.ensures)
