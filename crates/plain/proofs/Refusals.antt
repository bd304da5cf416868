-- A feed that is not refused: what that says of the call.
-- Assumes nothing.
use mathlib.Core.Path.{◌≡◌}
use mathlib.Core.Bool.{Bool, true, false, ◌&&◌}
use mathlib.Core.List.{List}
use Prim.Native.Nat.{ℕ, ◌+◌, ◌*◌, ◌≤◌}
use lib.ListN.{length}
use lib.Ieee.{Float}
use native.Mathlib.Omega.{arith}
use Rattle.std.proofs.lemmas.Bool.Decides.{nat_tests}
use Rattle.std.specs.Prelude.{Ok}
use Rattle.limits.specs.Ranges.{any_above, any_unsound}
use Rattle.modespec.specs.Sizes.{robot}
use Rattle.plain.specs.declared.Phase.{Phase}
use Rattle.plain.specs.Plain.{Setup, ended_phase}
use Rattle.plain.specs.Calls.{Lengths, feed_refusal, memory_refusal, sound_refusal}

pub and-false : (b c : Bool) → b && c ≡ false → b ≡ true → c ≡ false
and-false b c e h = grind arith

pub room_of_memory : (mode capacity : ℕ) (m : Lengths) → memory_refusal mode capacity m ≡ Ok tt
    → (m.flags ≡ capacity) × (robot mode ≡ true → 4 * capacity + 4 ≤ m.samples) × (441000 ≤ m.img) × (144000 ≤ m.votes)
unfolding memory_refusal
room_of_memory mode capacity m e = grind (arith, nat_tests)

-- what a piece of sound that is not refused is
pub record Clean (fl : List ℕ) (ys : List Float) : Type 0 where
  pub short : length fl ≤ 16777216
  pub four : length ys ≡ 4 * length fl
  pub flags : any_above fl ≡ false
  pub samples : any_unsound ys ≡ false

pub clean_of : (fl : List ℕ) (ys : List Float) → sound_refusal fl ys ≡ Ok tt → Clean fl ys
unfolding sound_refusal
clean_of fl ys e =
    record {
      short = grind (arith, nat_tests);
      four = grind (arith, nat_tests);
      flags = grind (arith, nat_tests);
      samples = grind (arith, nat_tests);
    }

pub room_of_sound : (fl : List ℕ) (ys : List Float) → sound_refusal fl ys ≡ Ok tt → (length fl ≤ 16777216) × (length ys ≡ 4 * length fl)
room_of_sound fl ys e = let c = clean_of fl ys e in (c.short, c.four)

pub refusal_parts : (u : Setup) (h : Phase) (m : Lengths) (fl : List ℕ) (ys : List Float) → feed_refusal u h m fl ys ≡ Ok tt
    → (memory_refusal u.mode u.capacity m ≡ Ok tt) × (sound_refusal fl ys ≡ Ok tt) × (ended_phase h ≡ false)
unfolding feed_refusal
refusal_parts u h m fl ys e = grind (arith, nat_tests)

pub feed_four : (u : Setup) (h : Phase) (m : Lengths) (fl : List ℕ) (ys : List Float) → feed_refusal u h m fl ys ≡ Ok tt → length ys ≡ 4 * length fl
feed_four u h m fl ys e = (room_of_sound fl ys (refusal_parts u h m fl ys e).1).1
