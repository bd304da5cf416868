-- `hough::slant_ok` meets its contract. Assumes nothing.
use mathlib.Core.Path.{◌≡◌}
use mathlib.Core.Bool.{Bool, true, false, ◌&&◌}
use lib.Ieee.{of_bits, of_int}
use Rattle.hough.specs.Passes.{slant_ok}
use Rattle.hough.proofs.slant_ok.Goals as goal

yes : (a b : Bool) → a ≡ true → b ≡ a && b
yes a b e = rw e

no : (a b : Bool) → a ≡ false → a ≡ a && b
no a b e = rw e

pub returns-then-angle : goal.returns-then-angle
unfolding slant_ok of_bits of_int
returns-then-angle c = yes _ _ c.if-angle.true

pub returns-else-angle : goal.returns-else-angle
unfolding slant_ok of_bits of_int
returns-else-angle c = no _ _ c.if-angle.false
