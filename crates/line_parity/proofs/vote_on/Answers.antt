-- `line_parity::vote_on` meets its contract. Assumes nothing.
use mathlib.Core.Path.{sym, ◌∙◌}
use Rattle.line_parity.proofs.Tones.{vote_known, vote_passed}
use Rattle.line_parity.proofs.vote_on.Goals as goal

pub tone_lean-requires : goal.tone_lean-requires
tone_lean-requires c = sym c.is_known.ensures ∙ c.if-is_known.true

pub returns-then-is_known : goal.returns-then-is_known
returns-then-is_known c =
    vote_known _ _ _ _ _ _ c.tone_at-from.ensures _ _ (sym c.is_known.ensures ∙ c.if-is_known.true) c.tone_lean.ensures c.voted.ensures

pub returns-else-is_known : goal.returns-else-is_known
returns-else-is_known c = vote_passed _ _ _ _ _ _ c.tone_at-from.ensures (sym c.is_known.ensures ∙ c.if-is_known.false)
