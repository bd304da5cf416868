-- `sync::skip_seconds_for` meets its contract. Assumes nothing.
use mathlib.Core.Path.{ap}
use lib.Ieee.{binary64, add, sub, mul, div, of_bits, of_int}
use Rattle.ieee.specs.Numbers.{of_nat}
use Rattle.sync.specs.FindSync.{skip_seconds}
use Rattle.sync.proofs.skip_seconds_for.Goals as goal

pub returns : goal.returns
unfolding skip_seconds of_bits of_int
returns c =
    let a = c.args in
    ap (add binary64 (sub binary64 (mul binary64 (div binary64 (of_nat a.edge) (of_nat 700)) a.spec.line_seconds) a.spec.sync_seconds)) c.skip_correction_seconds.ensures
