-- Laws of the tones that vote on parity. Assumes nothing.
use mathlib.Core.Path.{◌≡◌, refl, sym, ◌∙◌}
use mathlib.Core.Bool.{Bool, true, false, not, ◌&&◌}
use mathlib.Core.List.{List}
use Prim.Native.Nat.{ℕ, ◌+◌, ◌-◌, ◌%◌, ◌≤◌, ◌<◌}
use native.Mathlib.Numerals.{add-one}
use native.Mathlib.Omega.{arith}
use borrow.Author.Tests.{le-leb, lt-leb, leb-true, leb-false, eq-eqb, ne_eqb, not-true, not-false}
use lib.Dec.{leb}
use lib.IntN.{pos}
use lib.Ieee.{Float, fin, binary64, add, neg, lt, le, to_unsigned}
use lib.ListN.{length, take, drop}
use Rattle.modespec.specs.declared.ModeSpec.{ModeSpec}
use Rattle.modespec.specs.Sizes.{robot, window_lines}
use Rattle.line_parity.specs.Parity.{tone_at, tone_known, tone_of, lean_of, voted_with, vote_on, vote_to, odd_line}

-- ---- a tone that is known

within : (k n : ℕ) → 49 ≤ n → leb k (n - 49) ≡ leb (k + 49) n
within k n h = go (leb (k + 49) n) refl
  where
    go : (t : Bool) → leb (k + 49) n ≡ t → leb k (n - 49) ≡ leb (k + 49) n
    go true e = le-leb k (n - 49) (omega (arith, leb-true (k + 49) n e)) ∙ sym e
    go false e = lt-leb k (n - 49) (omega (arith, leb-false (k + 49) n e)) ∙ sym e

module _ (n : ℕ) (from : Float) where
  pub known_at_lem : (k : ℕ) → k ≡ to_unsigned 64 from → le (fin false 0 (pos 0)) from ≡ true → 49 ≤ n → leb k (n - 49) ≡ tone_known n from
  unfolding tone_known
  known_at_lem k e p h = rw (p, ← e) (within k n h)

  pub known_short : le (fin false 0 (pos 0)) from ≡ true → n < 49 → false ≡ tone_known n from
  unfolding tone_known
  known_short p h = rw p (sym (lt-leb (to_unsigned 64 from + 49) n (omega arith)))

  pub known_before : le (fin false 0 (pos 0)) from ≡ false → false ≡ tone_known n from
  unfolding tone_known
  known_before p = rw p

  pub known_end : tone_known n from ≡ true → to_unsigned 64 from + 49 ≤ n
  unfolding tone_known
  known_end e = leb-true (to_unsigned 64 from + 49) n (second (le (fin false 0 (pos 0)) from) (leb (to_unsigned 64 from + 49) n) e)
    where
      second : (a b : Bool) → a && b ≡ true → b ≡ true
      second true b h = h
      second false true h = refl
      second false false h = h

pub tone_part : (samples : List Float) (from : Float) (at : ℕ) → at ≡ to_unsigned 64 from → take (at + 49 - at) (drop at samples) ≡ tone_of samples from
unfolding tone_of
tone_part samples from at e = let n : at + 49 - at ≡ 49 = omega arith in rw (n, e)

-- ---- the vote

pub vote_even : (vote lean : Float) (k : ℕ) → k % 2 ≡ 0 → add binary64 vote lean ≡ voted_with vote k lean
unfolding voted_with
vote_even vote lean k h = rw (eq-eqb _ _ h)

pub vote_odd : (vote lean : Float) (k : ℕ) → (k % 2 ≡ 0 → ⊥) → add binary64 vote (neg lean) ≡ voted_with vote k lean
unfolding voted_with
vote_odd vote lean k h = rw (ne_eqb _ _ h)

module _ (spec : ModeSpec) (samples : List Float) (start : Float) (k : ℕ) (vote from : Float) (e : from ≡ tone_at spec start k) where
  pub vote_known : (lean r : Float) → tone_known (length samples) from ≡ true → lean ≡ lean_of (tone_of samples from) → r ≡ voted_with vote k lean
      → r ≡ vote_on spec samples start k vote
  unfolding vote_on
  vote_known lean r t l p = rw (← e, t, ← l) p

  pub vote_passed : tone_known (length samples) from ≡ false → vote ≡ vote_on spec samples start k vote
  unfolding vote_on
  vote_passed t = rw (← e, t)

module _ (spec : ModeSpec) (samples : List Float) (start : Float) where
  pub vote_none : fin false 0 (pos 0) ≡ vote_to spec samples start 0
  unfolding vote_to
  vote_none = refl

  pub vote_next : (k : ℕ) (vote r : Float) → vote ≡ vote_to spec samples start k → r ≡ vote_on spec samples start k vote → r ≡ vote_to spec samples start (k + 1)
  unfolding vote_to
  vote_next k vote r e p = rw (add-one, ← e) p

  pub odd_never : (mode : ℕ) (b : Bool) → b ≡ robot mode → not b ≡ true → false ≡ odd_line mode spec samples start
  unfolding odd_line
  odd_never mode b e h = let f : robot mode ≡ false = sym e ∙ not-true b h in rw f

  pub odd_by : (mode lines : ℕ) (b : Bool) (vote : Float) → b ≡ robot mode → not b ≡ false → lines ≡ window_lines spec → vote ≡ vote_to spec samples start lines
      → lt (fin false 0 (pos 0)) vote ≡ odd_line mode spec samples start
  unfolding odd_line
  odd_by mode lines b vote e h l v = let f : robot mode ≡ true = sym e ∙ not-false b h in rw (f, ← l, ← v)
