-- `sync_start::Window::evaluate` meets its contract. Assumes nothing.
use Rattle.std.proofs.Common.{◌≡◌, ℕ, ◌*◌, ◌≤◌, length, arith}
use Rattle.modespec.specs.declared.ModeSpec.{ModeSpec}
use Rattle.modespec.specs.ModeSpec.{spec_of}
use Rattle.modespec.specs.Sizes.{window_lines}
use Rattle.window_fold.proofs.Folding.{fold_length}
use Rattle.columns.proofs.Lists.{tail_is}
use Rattle.sync_start.proofs.Sizes.{sized_as}
use Rattle.sync_start.proofs.Judging.{counts_are, unlocated, located}
use Rattle.sync_start.proofs.Window.evaluate.Goals as goal

few : (mode : ℕ) (spec : ModeSpec) (lines : ℕ) → spec ≡ spec_of mode → lines ≡ window_lines spec → lines ≤ 65536
few mode spec lines e l =
    let z : window_lines spec ≤ 64 = (sized_as mode spec e).lines in
    rw l (omega arith)

pub fold-counts-requires : goal.fold-counts-requires
fold-counts-requires c = few _ _ _ c.args.self.now.of_mode c.window_lines-lines.ensures

pub quality-quality-requires : goal.quality-quality-requires
quality-quality-requires c =
    let z = sized_as _ _ c.args.self.now.of_mode in
    let n : length c.fold-counts.result ≡ 700 = rw c.fold-counts.ensures (fold_length _ _ _) in
    let m : length c.fold-counts.result ≤ 65536 = omega arith in
    (m, few _ _ _ c.args.self.now.of_mode c.window_lines-lines.ensures, λ h. rw n (z.some, z.most))

pub returns-then-streak-lt-START_CONSECUTIVE : goal.returns-then-streak-lt-START_CONSECUTIVE
returns-then-streak-lt-START_CONSECUTIVE c =
    let s = c.args.self.now in
    let f = counts_are s.mode s.j s.flags.now _ _ _ s.of_mode c.window_lines-lines.ensures _ _ c.line_samples.ensures (rw c.first.ensures (tail_is s.flags.now (64 * s.j))) c.fold-counts.ensures in
    unlocated s.mode s.j s.flags.now _ _ _ s.of_mode c.window_lines-lines.ensures _ _ _ _ f c.quality-quality.ensures c.streak_after-streak.ensures c.if-streak-lt-START_CONSECUTIVE.true

pub returns : goal.returns
returns c =
    let s = c.args.self.now in
    let f = counts_are s.mode s.j s.flags.now _ _ _ s.of_mode c.window_lines-lines.ensures _ _ c.line_samples.ensures (rw c.first.ensures (tail_is s.flags.now (64 * s.j))) c.fold-counts.ensures in
    located s.mode s.j s.flags.now _ _ _ s.of_mode c.window_lines-lines.ensures _ _ _ _ f c.quality-quality.ensures c.streak_after-streak.ensures _ c.if-streak-lt-START_CONSECUTIVE.false c.locate-start.ensures
