-- `fma::jam` meets its contract. Assumes nothing.
use Rattle.fma.proofs.Cutting.{jam_bit, jam_odd}
use Rattle.fma.proofs.jam.Goals as goal

pub returns-then-n-gt63 : goal.returns-then-n-gt63
returns-then-n-gt63 c = rw c.from.ensures (jam_bit c.args.w c.args.n c.ranges.w.fits c.if-n-gt63.true)

pub returns-else-q-n : goal.returns-else-q-n
returns-else-q-n c = jam_odd c.args.w c.args.n c.ranges.w.fits c.if-q-n.false
