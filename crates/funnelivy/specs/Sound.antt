-- `sync_window`, as the C interface answers it (include/funnelivy.h; 01-scope.md, "Spectrum and probe"). Definitions only.
use Rattle.std.specs.Prelude.{◌≡◌, ℕ, List, Float}
use Rattle.limits.specs.Refusals.{number_or_zero}
use Rattle.probe.specs.Window.{window_refusal, window_of, held_by}

-- the refusal's number, and the buffer: the window, and after a refusal what it held
pub record WindowMeets (sound : List Float) (centre : ℕ) (buffer : List Float) (r : ℕ) (after : List Float) : Type 0 where
  pub refusal : r ≡ number_or_zero (window_refusal sound centre buffer)
  pub held : after ≡ held_by (window_refusal sound centre buffer) (window_of sound centre) buffer
