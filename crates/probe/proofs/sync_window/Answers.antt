-- `probe::sync_window` meets its contract. Each way out has one law.
-- Assumes nothing.
use mathlib.Core.Path.{sym, ◌∙◌}
use Rattle.probe.proofs.Answers.{centre_high, buffer_other, sound_bad, window_filled}
use Rattle.probe.proofs.sync_window.Goals as goal

pub returns-then-centre-gt-MAX_ANCHOR : goal.returns-then-centre-gt-MAX_ANCHOR
returns-then-centre-gt-MAX_ANCHOR c = centre_high _ _ _ c.if-centre-gt-MAX_ANCHOR.true

pub returns-then-buffer-ne512 : goal.returns-then-buffer-ne512
returns-then-buffer-ne512 c = buffer_other _ _ _ c.if-centre-gt-MAX_ANCHOR.false c.if-buffer-ne512.true

pub returns-then-any_unsound : goal.returns-then-any_unsound
returns-then-any_unsound c =
    sound_bad _ _ _ c.if-centre-gt-MAX_ANCHOR.false c.if-buffer-ne512.false (sym c.any_unsound.ensures ∙ c.if-any_unsound.true)

pub returns : goal.returns
returns c =
    window_filled _ _ _ _ c.if-centre-gt-MAX_ANCHOR.false c.if-buffer-ne512.false (sym c.any_unsound.ensures ∙ c.if-any_unsound.false) c.fill.ensures
