-- `session::Session::finish` meets its contract. Only a collecting session is reported on. The report is due with f + P flags, and is
-- `find_sync`'s on the P flags from f.
-- Assumes nothing.
use mathlib.Core.Path.{sym, ◌∙◌, ap, subst⁻¹}
use lib.ListN.{take, drop}
use lib.Ieee.{of_bits, of_int}
use Prim.Native.Nat.{◌-◌}
use Rattle.modespec.specs.Sizes.{working_rate}
use Rattle.modespec.specs.declared.ModeSpec.{ModeSpec}
use Rattle.sync.specs.FindSync.{sync_result_of, SpecFits}
use Rattle.sync.proofs.Whole.{mode_fits}
use Rattle.session.proofs.Steps.{finish_other, collect_idle, collect_done}
use Rattle.session.proofs.Session.finish.Goals as goal

pub returns-in_default : goal.returns-in_default
returns-in_default c =
    let x = c.args in
    finish_other x.self x.store.now x.img.now x.votes.now c.in_default.not-Collecting

pub returns-then-self-full : goal.returns-then-self-full
returns-then-self-full c =
    let x = c.args in
    collect_idle x.self c.in-Collecting.start x.store.now x.img.now x.votes.now c.in-Collecting.is c.requires.taken_in_bounds (λ h. c.if-self-full.true (h ∙ sym c.full-full.ensures))

pub find_sync_in-report-requires : goal.find_sync_in-report-requires
find_sync_in-report-requires c =
    (subst⁻¹ (λ (v : ModeSpec). SpecFits v) c.for_mode-spec.ensures (mode_fits c.args.self.mode), c.requires.work_memory_fits)

pub returns : goal.returns
unfolding of_bits of_int
returns c =
    let found = c.find_sync_in-report in
    let s = c.args.self in
    let st = c.args.store.now in
    let f = c.first_flag-first.result in
    let t = c.full-full.result in
    collect_done s c.in-Collecting.start st c.args.img.now c.args.votes.now found.new.img found.new.votes found.result f t
    c.in-Collecting.is c.requires.taken_in_bounds c.if-self-full.false c.full-full.ensures c.first_flag-first.ensures
    (found.ensures.result ∙ ap (λ (v : ModeSpec). sync_result_of v working_rate (take (t - f) (drop f st))) c.for_mode-spec.ensures) found.ensures.img found.ensures.votes
