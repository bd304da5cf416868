-- `sync::find_sync` meets its contract. Assumes nothing.
use Rattle.std.proofs.Common.{◌≡◌, ℕ, ◌≤◌, Err, sym, ap, ◌∙◌, arith}
use Rattle.std.proofs.lemmas.Result.{err_from_is_err_and}
use Rattle.modespec.specs.declared.Mode.{Mode}
use Rattle.modespec.specs.Mode.{mode_number}
use Rattle.modespec.proofs.Modes.{number_most}
use Rattle.sync.proofs.Whole.{mode_fits}
use Rattle.sync.proofs.Refusals.{mode_refused, mode_taken, room, refused_call, taken_call}
use Rattle.sync.proofs.find_sync.Goals as goal

few : (mode : Mode) (number : ℕ) → mode_number mode ≡ number → number ≤ 15
few mode number e = omega (arith, number_most mode, e)

pub returns-in_err-mode : goal.returns-in_err-mode
returns-in_err-mode c =
    let a = c.args in
    let p = err_from_is_err_and c.from_residual.result c.from_residual.ensures.1 in
    rw (p.1, p.2) (refused_call a.flags.now a.rate a.mode _ _ _ (mode_refused a.flags.now a.rate a.mode _ _ c.in_err-mode.ensures.1 ∙ ap Err (sym c.in_err-mode.ensures.0)))

pub returns-in_err-refusal : goal.returns-in_err-refusal
returns-in_err-refusal c =
    let a = c.args in
    let p = err_from_is_err_and c.from_residual-in_err-refusal.result c.from_residual-in_err-refusal.ensures.1 in
    rw (p.1, p.2) (refused_call a.flags.now a.rate a.mode _ _ _ (mode_taken a.flags.now a.rate a.mode _ _ (few _ _ c.in_ok-mode.ensures) ∙ sym c.refusal.ensures ∙ c.in_err-refusal.was))

pub find_sync_in-requires : goal.find_sync_in-requires
find_sync_in-requires c = rw c.spec.ensures (mode_fits _, room c.args.flags.now c.args.rate _ _ (sym c.refusal.ensures ∙ c.in_ok-refusal.was))

pub returns : goal.returns
returns c =
    let a = c.args in
    taken_call a.flags.now a.rate a.mode _ _ _ _ _ (mode_taken a.flags.now a.rate a.mode _ _ (few _ _ c.in_ok-mode.ensures) ∙ sym c.refusal.ensures ∙ c.in_ok-refusal.was)
    (rw (← c.in_ok-mode.ensures, ← c.spec.ensures) c.find_sync_in.ensures)
