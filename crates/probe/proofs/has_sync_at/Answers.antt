-- `probe::has_sync_at` meets its contract. Each way out has one law.
-- Assumes nothing.
use mathlib.Core.Path.{sym, ◌∙◌}
use Rattle.probe.proofs.Answers.{shift_bad, spectrum_other, spectrum_bad, decided}
use Rattle.probe.proofs.has_sync_at.Goals as goal

pub returns-then-not-shift_allowed : goal.returns-then-not-shift_allowed
returns-then-not-shift_allowed c = shift_bad _ _ (sym c.shift_allowed.ensures ∙ c.if-not-shift_allowed.true)

pub returns-then-spectrum-ne258 : goal.returns-then-spectrum-ne258
returns-then-spectrum-ne258 c = spectrum_other _ _ (sym c.shift_allowed.ensures ∙ c.if-not-shift_allowed.false) c.if-spectrum-ne258.true

pub returns-then-not-all_finite : goal.returns-then-not-all_finite
returns-then-not-all_finite c =
    spectrum_bad _ _ (sym c.shift_allowed.ensures ∙ c.if-not-shift_allowed.false) c.if-spectrum-ne258.false
    (sym c.all_finite.ensures ∙ c.if-not-all_finite.true)

pub returns : goal.returns
returns c =
    decided _ _ _ (sym c.shift_allowed.ensures ∙ c.if-not-shift_allowed.false) c.if-spectrum-ne258.false
    (sym c.all_finite.ensures ∙ c.if-not-all_finite.false)
    c.has_sync.ensures
