-- `pulse::sync_quality` meets its contract. Assumes nothing.
use Rattle.std.proofs.Common.{◌≡◌, ◌≤◌, length, Ok, ap, ◌∙◌, arith}
use mathlib.Core.Logic.{⊎_elim}
use Rattle.modespec.specs.declared.ModeSpec.{ModeSpec}
use Rattle.modespec.specs.Mode.{mode_number}
use Rattle.modespec.specs.ModeSpec.{spec_of}
use Rattle.modespec.proofs.Modes.{number_most}
use Rattle.pulse.specs.Quality.{quality_of}
use Rattle.pulse.proofs.Columns.{columns_fit}
use Rattle.pulse.proofs.Answers.{quality_counts, quality_lines, quality_found}
use Rattle.pulse.proofs.sync_quality.Goals as goal

pub returns-then-counts-gt-MAX_COUNTS : goal.returns-then-counts-gt-MAX_COUNTS
returns-then-counts-gt-MAX_COUNTS c =
    let a = c.args in
    let k = a.counts.now in
    let m : a.mode ≤ 15 = omega (arith, number_most c.in_ok-mode.mode, c.in_ok-mode.ensures) in
    ⊎_elim (λ h. quality_counts k a.mode a.lines m h) (λ h. quality_lines k a.mode a.lines m h.1) c.then-counts-gt-MAX_COUNTS.either

pub quality-requires : goal.quality-requires
quality-requires c =
    let k = c.args.counts.now in
    let n : length k ≤ 65536 = omega arith in
    rw c.spec.ensures (n, omega arith, columns_fit (mode_number c.in_ok-mode.mode) (length k) n)

pub returns : goal.returns
returns c =
    let a = c.args in
    let e : mode_number c.in_ok-mode.mode ≡ a.mode = c.in_ok-mode.ensures in
    ap Ok (c.quality.ensures ∙ ap (λ (s : ModeSpec). quality_of a.counts.now s a.lines) (c.spec.ensures ∙ ap spec_of e))
    ∙ quality_found a.counts.now a.mode a.lines (omega (arith, number_most c.in_ok-mode.mode, e)) (omega arith) (omega arith)
