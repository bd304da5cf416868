-- A card that is not refused with 14 has no NaN: so its bits are those of its fields. Assumes nothing.
use mathlib.Core.Path.{◌≡◌}
use mathlib.Core.Bool.{Bool, true, false, not, ◌&&◌, ◌||◌, true≢false, false≢true}
use lib.Dec.{T, eqb}
use lib.Ieee.{Float, nan, inf, fin, binary64, is_nan, to_bits, lt, le}
use borrow.Author.Tests.{not-false}
use Rattle.limits.proofs.Causes.{or_left, or_right}
use Rattle.card.specs.declared.Card.{Card}
use Rattle.card.specs.Card.{filled, report_filled, lacked_filled, within, positive, near, wrong}

within_number : (x : Float) → within x ≡ true → T (not (is_nan x))
unfolding within le lt is_nan
within_number nan e = absurd (false≢true e)
within_number (inf s) e = tt
within_number (fin s m e) h = tt

positive_number : (x : Float) → positive x ≡ true → T (not (is_nan x))
unfolding positive lt is_nan
positive_number nan e = absurd (false≢true e)
positive_number (inf s) e = tt
positive_number (fin s m e) h = tt

unfilled_number : (x : Float) → filled (to_bits binary64 x) ≡ false → T (not (is_nan x))
unfolding to_bits is_nan
unfilled_number nan e = absurd (true≢false e)
unfilled_number (inf s) e = tt
unfilled_number (fin s m e) h = tt

pub record Numbers (c : Card) : Type 0 where
  pub start_quality_lem : T (not (is_nan c.start_quality))
  pub rate : T (not (is_nan c.rate))
  pub quality : T (not (is_nan c.quality))

-- the rate by the end: a report's is positive, and else it is not filled
rate_number : (c : Card) (t : Bool) → not t && report_filled c ≡ false → t && (not (positive c.rate) || not (near c.skip)) ≡ false → T (not (is_nan c.rate))
unfolding report_filled
rate_number c true e h = positive_number c.rate (not-false (positive c.rate) (or_left (not (positive c.rate)) (not (near c.skip)) h))
rate_number c false e h = unfilled_number c.rate (search (or_left, or_right))

pub numbers_in : (c : Card) → wrong c ≡ false → Numbers c
unfolding wrong lacked_filled
numbers_in c e =
    record {
      start_quality_lem = within_number c.start_quality (not-false (within c.start_quality) (search (or_left, or_right)));
      rate = rate_number c (eqb c.end 0) (search (or_left, or_right)) (search (or_left, or_right));
      quality = within_number c.quality (not-false (within c.quality) (search (or_left, or_right)));
    }
