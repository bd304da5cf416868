-- `fma::Wide::shifted` meets its contract. Assumes nothing.
use Rattle.fma.proofs.Limbs.{shl_high, shl_mid}
use Rattle.fma.proofs.Wide.shifted.Goals as goal

pub returns-then-d-gt63 : goal.returns-then-d-gt63
returns-then-d-gt63 c = shl_high c.args.q c.args.d c.requires.0 c.requires.1 c.if-d-gt63.true

pub returns-then-d-gt0 : goal.returns-then-d-gt0
returns-then-d-gt0 c = shl_mid c.args.q c.args.d c.if-d-gt63.false
