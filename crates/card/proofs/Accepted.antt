-- Which cards are not refused with 14, by their end. Assumes nothing.
use mathlib.Core.Path.{◌≡◌}
use mathlib.Core.Bool.{true, false}
use Prim.Native.Nat.{◌≤◌}
use lib.IntN.{pos}
use lib.Ieee.{fin, le, lt, to_bits}
use borrow.Author.Tests.{le-ltb}
use Rattle.card.specs.declared.Card.{Card}
use Rattle.card.specs.Card.{start_filled, report_filled, lacked_filled, within, positive, near, between, wrong}

module _ (c : Card) (mode : c.mode ≤ 15) where
  pub reported : c.end ≡ 0 → between c.slant ≡ false → within c.start_quality ≡ true → within c.quality ≡ true → positive c.rate ≡ true → near c.skip ≡ true → wrong c ≡ false
  unfolding wrong lacked_filled
  reported end slant start quality rate skip = rw (le-ltb 15 c.mode mode, end, slant, start, quality, rate, skip)

  -- zero in the fields of the report, and 255
  module _ (rate : c.rate ≡ fin false 0 (pos 0)) (slant : c.slant ≡ 255) (skip : c.skip ≡ pos 0) (quality : c.quality ≡ fin false 0 (pos 0)) where
    no_report_lem : report_filled c ≡ false
    unfolding report_filled to_bits
    no_report_lem = rw (rate, slant, skip, quality)

    pub cut_short_lem : c.end ≡ 2 → within c.start_quality ≡ true → wrong c ≡ false
    unfolding wrong lacked_filled between within le lt
    cut_short_lem end start = rw (no_report_lem, le-ltb 15 c.mode mode, end, slant, start, quality)

    pub unfound : c.end ≡ 1 → c.start ≡ 0 → c.start_quality ≡ fin false 0 (pos 0) → wrong c ≡ false
    unfolding wrong lacked_filled start_filled to_bits between within le lt
    unfound end start q = rw (no_report_lem, le-ltb 15 c.mode mode, start, q, end, slant, quality)
