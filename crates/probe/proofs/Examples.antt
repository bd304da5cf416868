-- Known answers (01-scope.md, "Spectrum and probe"), computed from the definitions: the bins at shift 0. Assumes nothing.
use mathlib.Core.Path.{◌≡◌, refl}
use mathlib.Core.List.{List, [], ◌∷◌}
use Prim.Native.Nat.{ℕ}
use lib.Ieee.{add, mul, div, of_int, to_unsigned}
use Rattle.dsp.specs.Spectrum.{bin_of}
use Rattle.probe.specs.Window.{nothing}
use Rattle.probe.specs.Decision.{sync_bin, low_bin, high_bin, shifted_bin}

abbrev bins : List ℕ
bins = sync_bin nothing ∷ low_bin nothing ∷ high_bin nothing ∷ []

pub bins_unshifted : bins ≡ 27 ∷ 34 ∷ 53 ∷ []
unfolding shifted_bin bin_of add mul div of_int to_unsigned
bins_unshifted = refl
