-- Laws of the power from two values on: one sample more, and no sample left. Assumes nothing.
use Rattle.std.proofs.Common.{◌≡◌, ℕ, ◌+◌, ◌<◌, ◌≤◌, List, length, get_or, drop, add-one, drop_of_length-le, drop-cons}
use lib.Ieee.{Float, nan}
use Rattle.dsp.specs.Goertzel.{next_value, power_at, power_from}

module _ (k p q : Float) (xs : List Float) (i : ℕ) where
  pub power_more : (s : Float) → i < length xs → s ≡ next_value k p q (get_or xs i nan) → power_from k p q (drop i xs) ≡ power_from k s p (drop (i + 1) xs)
  unfolding power_from
  power_more s h e = rw (add-one, drop-cons xs i nan, e)

  pub power_done : length xs ≤ i → power_from k p q (drop i xs) ≡ power_at k p q
  unfolding power_from
  power_done h = rw (drop_of_length-le xs h)
