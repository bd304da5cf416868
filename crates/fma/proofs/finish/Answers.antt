-- `fma::finish` meets its contract. Assumes nothing.
use Rattle.fma.proofs.Ends.{finish_top, finish_mid, finish_low, finish_zero}
use Rattle.fma.proofs.finish.Goals as goal

pub returns-then-i-gt3278 : goal.returns-then-i-gt3278
returns-then-i-gt3278 c = finish_top c.args.v c.args.i c.requires.0 c.if-i-gt3278.true

pub returns-then-i-gt1232 : goal.returns-then-i-gt1232
returns-then-i-gt1232 c =
    finish_mid c.args.v c.args.i c.nearest_shift.result c.requires.0 c.requires.1 c.if-i-gt3278.false c.if-i-gt1232.true c.nearest_shift.ensures

pub returns-then-i-gt1179 : goal.returns-then-i-gt1179
returns-then-i-gt1179 c =
    finish_low c.args.v c.args.i c.nearest_shift-then-i-gt1179.result c.requires.1 c.if-i-gt1232.false c.nearest_shift-then-i-gt1179.ensures

pub returns-else-i-gt1179 : goal.returns-else-i-gt1179
returns-else-i-gt1179 c =
    finish_zero c.args.v c.args.i c.requires.1 c.if-i-gt1179.false
