-- `session::open` meets its contract. The four samples kept are the plain session's, and the record is that of its opening.
-- Assumes nothing.
use Rattle.session.proofs.Rooms.{open_room, open_done}
use Rattle.session_parts.proofs.Kept.{kept_length}
use Rattle.plain.proofs.Sizes.{window_some}
use lib.ListN.{length}
use native.Mathlib.Omega.{arith}
use mathlib.Core.Path.{sym, ◌∙◌, ap}
use Rattle.session.proofs.open.Goals as goal

pub keep_samples-requires : goal.keep_samples-requires
keep_samples-requires c =
    λ b.
    let h = open_room c.args.mode c.args.anchor (length c.args.store.now) (length c.args.audio.now) c.args.first.now (sym c.in_ok-open_refusal.ensures) in
    let w = h.wide b in
    let four = h.four in
    omega arith

pub returns : goal.returns
returns c =
    let h = open_room c.args.mode c.args.anchor (length c.args.store.now) (length c.args.audio.now) c.args.first.now (sym c.in_ok-open_refusal.ensures) in
    let kept = kept_length c.args.mode 0 c.args.audio.now c.args.first.now (length c.args.first.now) (λ b. let w = h.wide b in let four = h.four in omega arith) (omega arith) in
    open_done c.args.mode c.args.anchor c.args.store.now c.args.audio.now c.args.first.now c.keep_samples.new.audio (sym c.in_ok-open_refusal.ensures) c.keep_samples.ensures (ap length c.keep_samples.ensures ∙ kept) (window_some c.args.mode)
