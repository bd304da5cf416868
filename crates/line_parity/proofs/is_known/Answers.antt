-- `line_parity::is_known` meets its contract. Assumes nothing.
use Rattle.std.proofs.Common.{inl, inr}
use lib.Ieee.{of_bits}
use borrow.Author.Tests.{leb-true}
use Rattle.line_parity.proofs.Tones.{known_at_lem, known_short, known_before}
use Rattle.line_parity.proofs.is_known.Goals as goal
use Rattle.line_parity.proofs.is_known.Goals.{then-from, else-from}

pub returns-then-n-ge-TONE_SAMPLES : goal.returns-then-n-ge-TONE_SAMPLES
unfolding of_bits
returns-then-n-ge-TONE_SAMPLES c =
    elim c.if-from.branch [ then-from w ↦ known_at_lem _ _ _ c.to_u64.ensures w.if-from.true (leb-true _ _ (cc)) | else-from w ↦ absurd (cc) ]

pub returns-else-n-ge-TONE_SAMPLES : goal.returns-else-n-ge-TONE_SAMPLES
unfolding of_bits
returns-else-n-ge-TONE_SAMPLES c =
    elim c.if-from.branch [
      | then-from w ↦ elim c.if-n-ge-TONE_SAMPLES.either [ inl p ↦ cc (known_short _ _ p.0 p.1) | inr q ↦ absurd (cc) ]
      | else-from w ↦ cc (known_before _ _ w.if-from.false)
    ]
