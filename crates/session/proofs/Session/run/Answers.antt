-- `session::Session::run` meets its contract. Nothing taken, one chunk more, and the two ends of the run.
-- Assumes nothing.
use mathlib.Core.Path.{◌≡◌, sym, ap, ◌∙◌}
use Prim.Native.Nat.{◌-◌, ◌*◌, ◌≤◌, ◌<◌}
use native.Mathlib.Omega.{arith}
use Rattle.std.proofs.lemmas.Bool.{eqb-false, eqb-true}
use lib.ListN.{length, take}
use Rattle.session.proofs.Loop.{left_all, left_fits, left_place, left_more, part_none, part_more, ran_ended, ran_all}
use Rattle.session.proofs.Session.run.Goals as goal
use Rattle.session.proofs.Session.run.Goals.{then-loop-left-test+else-not-ended, else-loop-left-test}

pub loop-left-init : goal.loop-left-init
loop-left-init c =
    let fl = c.args.piece.flags.now in
    let none : length fl - length fl ≡ 0 = omega arith in (
      left_all fl c.args.piece.samples.now,
      rw none
          (part_none _ _ _ _ _ _ _ c.requires.sane c.requires.live
          (record { kept = c.requires.store_is_capacity; wide = c.requires.samples_fit; image = c.requires.work_memory_fits.0; counts = c.requires.work_memory_fits.1; short = c.requires.piece_bounded; four = c.args.piece.paired })),
    )

pub loop-left-preserved : goal.loop-left-preserved
loop-left-preserved c =
    let left = c.loop-left.invariant.0 in
    let h = c.loop-left.invariant.1 in
    let fl = c.args.piece.flags.now in
    let ys = c.args.piece.samples.now in
    let fl' = c.loop-left.left.flags.now in
    let ys' = c.loop-left.left.samples.now in
    let i = length fl - length fl' in
    let n = c.min.result in
    let front = c.split_at.ensures.front in
    let back = c.split_at.ensures.back in
    let fits : length fl' ≤ length fl = left_fits fl ys fl' ys' left in
    let le : n ≤ length fl' = omega arith in
    let more : length fl' ≡ 0 → ⊥ = eqb-false (length fl') 0 (sym c.loop-left-test.ensures) in
    let some : 0 < n = let g = c.gap.ensures.some in omega arith in (
      left_more fl ys fl' ys' left n le _ _ back.0 back.1,
      rw (left_place fl ys fl' ys' left n le _ _ back.0 back.1)
          (part_more _ _ _ _ _ fl ys i c.loop-left.session c.loop-left.store c.loop-left.audio c.loop-left.img c.loop-left.votes c.gap.result n
          c.split_at.result.0.flags.now c.split_at.result.0.samples.now
          c.turn-session.result c.turn-session.new.store c.turn-session.new.audio c.turn-session.new.img c.turn-session.new.votes
          h (sym c.if-not-ended.ensures) c.gap.ensures some (omega arith) (omega arith)
          (front.0 ∙ ap (take n) left.flags) (front.1 ∙ ap (take (4 * n)) left.samples) c.turn-session.ensures),
    )

pub returns : goal.returns
returns c =
    elim c.loop-left-test.branch [
      | then-loop-left-test+else-not-ended w ↦ ran_ended _ _ _ _ _ _ _ _ _ _ _ _ _ c.loop-left.invariant.1 (sym w.if-not-ended.ensures)
      | else-loop-left-test w ↦ ran_all _ _ _ _ _ _ _ _ _ _ _ _ _ c.loop-left.invariant.1 (let e : length c.loop-left.left.flags.now ≡ 0 = eqb-true _ 0 (sym w.loop-left-test.ensures) in omega arith)
    ]
