-- Laws of the two calls' answers: each refusal by its condition, where the conditions before it do not apply. Assumes nothing.
use mathlib.Core.Path.{◌≡◌}
use mathlib.Core.Bool.{Bool, true, false}
use mathlib.Core.List.{List}
use Prim.Native.Nat.{ℕ, ◌≤◌, ◌<◌, ◌^◌}
use lib.ListN.{length}
use lib.Ieee.{Float}
use borrow.Author.Tests.{lt-ltb, le-ltb, eq-eqb, ne_eqb}
use Rattle.limits.specs.Ranges.{any_unsound}
use Rattle.std.specs.Prelude.{Ok, Err}
use Rattle.limits.specs.declared.Refusal.{Refusal}
use Rattle.limits.specs.declared.Refusal.TheVariants as why
use Rattle.probe.specs.Refusals.{all_of, is_finite, shift_allowed}
use Rattle.probe.specs.Window.{window_of, window_refusal, Windowed}
use Rattle.probe.specs.Decision.{has_sync, probe_refusal, probe_answer}

-- ---- the window

module _ (sound : List Float) (centre : ℕ) (buffer : List Float) where
  refused : (e : Refusal) → window_refusal sound centre buffer ≡ Err e → Windowed sound centre buffer (Err e) buffer
  refused e r = record { answered = rw r; held = rw r }

  pub centre_high : 2 ^ 62 < centre → Windowed sound centre buffer (Err why.Anchor) buffer
  unfolding window_refusal
  centre_high h = refused why.Anchor (rw (lt-ltb (2 ^ 62) centre h))

  pub buffer_other : centre ≤ 2 ^ 62 → (length buffer ≡ 512 → ⊥) → Windowed sound centre buffer (Err why.Memory) buffer
  unfolding window_refusal
  buffer_other h l = refused why.Memory (rw (le-ltb (2 ^ 62) centre h, ne_eqb (length buffer) 512 l))

  pub sound_bad : centre ≤ 2 ^ 62 → length buffer ≡ 512 → any_unsound sound ≡ true → Windowed sound centre buffer (Err why.Sample) buffer
  unfolding window_refusal
  sound_bad h l a = refused why.Sample (rw (le-ltb (2 ^ 62) centre h, eq-eqb (length buffer) 512 l, a))

  pub window_filled : (after : List Float) → centre ≤ 2 ^ 62 → length buffer ≡ 512 → any_unsound sound ≡ false → after ≡ window_of sound centre
      → Windowed sound centre buffer (Ok tt) after
  unfolding window_refusal
  window_filled after h l a w =
      let e : window_refusal sound centre buffer ≡ Ok tt = rw (le-ltb (2 ^ 62) centre h, eq-eqb (length buffer) 512 l, a) in
      record { answered = rw e; held = rw e w }

-- ---- the decision

module _ (spectrum : List Float) (shift : Float) where
  pub shift_bad : shift_allowed shift ≡ false → Err why.Shift ≡ probe_answer spectrum shift
  unfolding probe_answer probe_refusal
  shift_bad s = rw s

  pub spectrum_other : shift_allowed shift ≡ true → (length spectrum ≡ 258 → ⊥) → Err why.Length ≡ probe_answer spectrum shift
  unfolding probe_answer probe_refusal
  spectrum_other s l = rw (s, ne_eqb (length spectrum) 258 l)

  pub spectrum_bad : shift_allowed shift ≡ true → length spectrum ≡ 258 → all_of is_finite spectrum ≡ false → Err why.Sample ≡ probe_answer spectrum shift
  unfolding probe_answer probe_refusal
  spectrum_bad s l a = rw (s, eq-eqb (length spectrum) 258 l, a)

  pub decided : (sync : Bool) → shift_allowed shift ≡ true → length spectrum ≡ 258 → all_of is_finite spectrum ≡ true → sync ≡ has_sync spectrum shift
      → Ok sync ≡ probe_answer spectrum shift
  unfolding probe_answer probe_refusal
  decided sync s l a h = rw (s, eq-eqb (length spectrum) 258 l, a, h)
