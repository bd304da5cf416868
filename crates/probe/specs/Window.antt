-- The numbers that a spectrum is made of (01-scope.md, "Spectrum and probe"): the first loop of `has_sync_at` in sync.rs. Definitions only.
use Rattle.std.specs.Prelude.{◌≡◌, ℕ, zero, suc, ◌+◌, ◌-◌, ◌^◌, false, not, cond, List, [], ◌∷◌, ◌++◌, length, get_or, ltb, eqb, pos, Result, Ok, Err, Float}
use Rattle.std.specs.Float.{fin, binary32}
use Rattle.std.specs.Float.Ieee.{mul}
use Rattle.dsp.specs.Spectrum.{hann}
use Rattle.limits.specs.declared.Refusal.{Refusal}
use Rattle.limits.specs.declared.Refusal.TheVariants as why
use Rattle.limits.specs.Refusals.{◌⇒◌, first_of}
use Rattle.limits.specs.Ranges.{any_unsound}

-- 0.0
abbrev pub nothing : Float
nothing = fin false 0 (pos 0)

-- the sample numbered centre - 8 + i, and 0 where the sound has not begun or has ended
unfoldable pub sound_at : List Float → ℕ → ℕ → Float
sound_at sound centre i = cond (ltb (centre + i) 8) nothing (get_or sound (centre + i - 8) nothing)

-- the real part of pair i: sixteen samples, each times its weight, and 0 beyond them
unfoldable pub real_at : List Float → ℕ → ℕ → Float
real_at sound centre i = cond (ltb i 16) (mul binary32 (sound_at sound centre i) (get_or hann i nothing)) nothing

-- n pairs with the real parts f 0, f 1, .. and imaginary parts of 0
unfoldable pub pairs_of : (ℕ → Float) → ℕ → List Float
pairs_of f zero = []
pairs_of f (suc n) = pairs_of f n ++ (f n ∷ nothing ∷ [])

unfoldable pub window_of : List Float → ℕ → List Float
window_of sound centre = pairs_of (real_at sound centre) 256

-- ---- the call

unfoldable pub window_refusal : List Float → ℕ → List Float → Result Unit Refusal
window_refusal sound centre buffer =
    first_of ((ltb (2 ^ 62) centre ⇒ why.Anchor) ∷ (not (eqb (length buffer) 512) ⇒ why.Memory) ∷ (any_unsound sound ⇒ why.Sample) ∷ [])

-- what the buffer holds then: the window, and after a refusal what it held
abbrev pub held_by : Result Unit Refusal → List Float → List Float → List Float
held_by (Ok u) window buffer = window
held_by (Err e) window buffer = buffer

-- the call's answer, and the buffer after it
pub record Windowed (sound : List Float) (centre : ℕ) (buffer : List Float) (answer : Result Unit Refusal) (after : List Float) : Type 0 where
  pub answered : answer ≡ window_refusal sound centre buffer
  pub held : after ≡ held_by (window_refusal sound centre buffer) (window_of sound centre) buffer
