-- `sync_start::Window::locate` meets its contract. Assumes nothing.
use Rattle.std.proofs.Common.{◌≡◌, ℕ, ◌*◌, Bool, List, ◌<◌, ◌≤◌, length, le_of_lt, le_trans, refl, sym, ◌∙◌, arith, rules, Option, Some, None}
use lib.Ieee.{Float}
use Rattle.modespec.specs.declared.ModeSpec.{ModeSpec}
use Rattle.modespec.specs.ModeSpec.{spec_of}
use Rattle.modespec.specs.Sizes.{window_lines, pulse_columns}
use Rattle.pulse.specs.declared.BestWindow.{BestWindow}
use Rattle.pulse.specs.PulseWindow.{best_window}
use Rattle.pulse.proofs.Largest.{best_within, windows_most}
use Rattle.first_line.specs.Pulsed.{first_pulsed_line}
use Rattle.line_parity.specs.Parity.{odd_line}
use Rattle.sync_start.specs.declared.Located.{Located}
use Rattle.sync_start.specs.Evaluate.{line_start, even_start, position_of, line_in, locate_in}
use Rattle.sync_start.proofs.Sizes.{sized_as}
use Rattle.sync_start.proofs.Positions.{line_within}
use Rattle.sync_start.proofs.Window.locate.Goals as goal

few : (mode : ℕ) (spec : ModeSpec) → spec ≡ spec_of mode → window_lines spec ≤ 65536
few mode spec e = omega (arith, (sized_as mode spec e).lines)

-- the 700 counts bound the window's start and how many windows there are
column : (counts : List ℕ) (width : ℕ) (best : BestWindow) → best ≡ best_window counts width → length counts ≡ 700 → best.start ≤ 700
column counts width best b n =
    let some : 0 < length counts = omega arith in
    le_of_lt (rw (b, ← n) (best_within counts width some))

windows : (counts : List ℕ) (width : ℕ) (best : BestWindow) → best ≡ best_window counts width → length counts ≡ 700 → best.windows ≤ 700
windows counts width best b n = rw (b, ← n) (windows_most counts width)

module _ (mode : ℕ) (spec : ModeSpec) (first : ℕ) (counts flags : List ℕ) (samples : List Float) (width : ℕ) (best : BestWindow) (w : width ≡ pulse_columns spec 700) (b : best ≡ best_window counts width) where
  line_is : first_pulsed_line spec first flags best.start width ≡ line_in spec first counts flags
  line_is = rw (b, w) refl

  missing : first_pulsed_line spec first flags best.start width ≡ None → ◌≡◌ {A = Option Located} None (locate_in mode spec first counts flags samples)
  unfolding locate_in
  missing l = let q : line_in spec first counts flags ≡ None = sym line_is ∙ l in rw q refl

  found : (y position : ℕ) (start : Float) (odd : Bool) → first_pulsed_line spec first flags best.start width ≡ Some y → start ≡ line_start spec first best.start y
      → odd ≡ odd_line mode spec samples start → position ≡ position_of spec (even_start odd spec start)
      → Some (record { position = position; windows = best.windows }) ≡ locate_in mode spec first counts flags samples
  unfolding locate_in
  found y position start odd l s o p = let q : line_in spec first counts flags ≡ Some y = sym line_is ∙ l in rw (p, o, s, q, b, w) refl

pub best_window-best-requires : goal.best_window-best-requires
best_window-best-requires c =
    let n : length c.args.counts.now ≡ 700 = search rules in
    let z = sized_as _ _ c.args.self.now.of_mode in
    (omega arith, rw c.pulse_columns-width.ensures z.some, rw (n, c.pulse_columns-width.ensures) z.most)

pub first_pulsed_line-requires : goal.first_pulsed_line-requires
first_pulsed_line-requires c =
    let n : length c.args.counts.now ≡ 700 = search rules in
    let s = c.args.self.now in
    (rw c.first-first.ensures s.begins, column _ _ _ c.best_window-best.ensures n, rw c.pulse_columns-width.ensures (sized_as _ _ s.of_mode).most, few _ _ s.of_mode)

pub returns-in_err-y : goal.returns-in_err-y
returns-in_err-y c =
    let s = c.args.self.now in
    c.from_residual.ensures
    ∙ missing s.mode s.spec (64 * s.j) c.args.counts.now s.flags.now s.samples.now _ _ c.pulse_columns-width.ensures c.best_window-best.ensures (rw (← c.first-first.ensures) (sym c.first_pulsed_line.ensures ∙ c.in_err-y.was))

pub line_start-start-requires : goal.line_start-start-requires
line_start-start-requires c =
    let n : length c.args.counts.now ≡ 700 = search rules in
    let s = c.args.self.now in
    (column _ _ _ c.best_window-best.ensures n, le_trans (line_within s.spec _ s.flags.now _ _ c.in_ok-y.y (sym c.first_pulsed_line.ensures ∙ c.in_ok-y.was)) (few _ _ s.of_mode))

pub first_line_is_odd-odd-requires : goal.first_line_is_odd-odd-requires
first_line_is_odd-odd-requires c = few _ _ c.args.self.now.of_mode

pub overflow_cast-windows : goal.overflow_cast-windows
overflow_cast-windows c =
    let n : length c.args.counts.now ≡ 700 = search rules in
    let w : c.best_window-best.result.windows ≤ 700 = windows _ _ _ c.best_window-best.ensures n in
    omega arith

pub returns : goal.returns
returns c =
    let s = c.args.self.now in
    found s.mode s.spec (64 * s.j) c.args.counts.now s.flags.now s.samples.now _ _ c.pulse_columns-width.ensures c.best_window-best.ensures c.in_ok-y.y _ _ _
    (rw (← c.first-first.ensures) (sym c.first_pulsed_line.ensures ∙ c.in_ok-y.was)) c.line_start-start.ensures c.first_line_is_odd-odd.ensures (rw (← c.even_start.ensures) c.position-position.ensures)
