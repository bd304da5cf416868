-- Laws of a call's refusal: what it says of the causes where there is none. Assumes nothing.
use mathlib.Core.Path.{◌≡◌, refl}
use mathlib.Core.Bool.{Bool, true, false, true≢false, cond, ◌||◌}
use Rattle.std.specs.Prelude.{◌<◌, Result, Ok, Err}
use Rattle.limits.specs.declared.Refusal.{Refusal}
use Rattle.limits.specs.declared.Refusal.TheVariants as why
use Rattle.limits.specs.Refusals.{number_of, is_allowed}
use native.Mathlib.Omega.{arith}

-- a cause that did not refuse does not apply
pub none : (b : Bool) (e : Refusal) (r : Result Unit Refusal) → cond b (Err e) r ≡ Ok tt → (b ≡ false) × (r ≡ Ok tt)
none true e r h = cc
none false e r h = (refl, h)

-- ---- two causes of one number, none of which applies

pub or_left : (a b : Bool) → a || b ≡ false → a ≡ false
or_left true b e = e
or_left false b e = refl

pub or_right : (a b : Bool) → a || b ≡ false → b ≡ false
or_right true b e = absurd (true≢false e)
or_right false b e = e

-- ---- an answer that is no refusal

pub allowed_is_ok : (r : Result Unit Refusal) → is_allowed r ≡ true → r ≡ Ok tt
allowed_is_ok (Ok tt) h = refl
allowed_is_ok (Err e) h = absurd (true≢false (cc))

-- ---- the numbers: from 1 on, and no two alike

pub number_positive : (e : Refusal) → 0 < number_of e
number_positive = elim [
  | why.Mode ↦ omega arith
  | why.Rate ↦ omega arith
  | why.Shift ↦ omega arith
  | why.Anchor ↦ omega arith
  | why.Memory ↦ omega arith
  | why.Length ↦ omega arith
  | why.Flag ↦ omega arith
  | why.Sample ↦ omega arith
  | why.Count ↦ omega arith
  | why.Ended ↦ omega arith
  | why.NotEnded ↦ omega arith
  | why.CardLength ↦ omega arith
  | why.CardMark ↦ omega arith
  | why.CardField ↦ omega arith
]
