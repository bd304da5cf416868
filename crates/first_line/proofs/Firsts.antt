-- The first pulsed line is that of the wide or the narrow pulse. Assumes nothing.
use Rattle.std.proofs.Common.{◌≡◌, ℕ, ◌-◌, ◌<◌, ◌≤◌, min, List, Option, drop, le-leb}
use borrow.Author.Tests.{lt-leb}
use lib.Ieee.{Float}
use Rattle.modespec.specs.declared.ModeSpec.{ModeSpec}
use Rattle.modespec.specs.Sizes.{line_samples, window_lines}
use Rattle.first_line.specs.Pulsed.{first_pulsed_line, wide_line, narrow_line, or_zero, first_line, first_pair, half_set, pulsed_line, line_probes, pulse_probes}

module _ (spec : ModeSpec) (first : ℕ) (flags window : List ℕ) (column width lines : ℕ) (r : Option ℕ) (l : lines ≡ window_lines spec) where
  pub wide_is : (samples : Float) → 20 ≤ width → samples ≡ line_samples spec → window ≡ drop first flags → r ≡ or_zero (first_line (half_set samples window column width) 0 lines)
      → r ≡ first_pulsed_line spec first flags column width
  unfolding first_pulsed_line wide_line
  wide_is samples h s w p = rw (le-leb 20 width h, ← s, ← l, ← w) p

  pub narrow_is : (a : ℕ) (line pulse : Float) → width < 20 → a ≡ min first 65 → line ≡ line_probes spec → pulse ≡ pulse_probes spec
      → window ≡ drop (first - a) flags → r ≡ first_pair (pulsed_line line pulse window a column) lines → r ≡ first_pulsed_line spec first flags column width
  unfolding first_pulsed_line narrow_line
  narrow_is a line pulse h e n q w p = rw (lt-leb 20 width h, ← e, ← n, ← q, ← l, ← w) p
