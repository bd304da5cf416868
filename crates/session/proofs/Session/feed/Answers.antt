-- `session::Session::feed` meets its contract. A refusal, a record that no session handed back, or a run over the piece.
-- Assumes nothing.
use Rattle.session.proofs.Feed.{feed_strange, feed_taken, feed_room, feed_live}
use Rattle.plain.specs.Plain.{ended_phase}
use mathlib.Core.Bool.{false}
use mathlib.Core.Path.{◌≡◌, sym}
use Rattle.session.proofs.Session.feed.Goals as goal

pub returns-then-not-is_sane : goal.returns-then-not-is_sane
returns-then-not-is_sane c =
    let x = c.args in
    let allowed = sym (c.in_ok-feed_refusal.ensures x.self.anchor) in
    let live : ended_phase x.self.phase ≡ false = feed_live x.self x.store.now x.audio.now x.img.now x.votes.now x.flags.now x.samples.now allowed in
    feed_strange x.self x.store.now x.audio.now x.img.now x.votes.now x.flags.now x.samples.now allowed live (c.is_sane.ensures.no c.if-not-is_sane.true live)

pub invariant_of-run : goal.invariant_of-run
invariant_of-run c =
    let x = c.args in
    record { paired = (feed_room x.self x.store.now x.audio.now x.img.now x.votes.now x.flags.now x.samples.now (sym (c.in_ok-feed_refusal.ensures x.self.anchor))).four }

pub run-requires : goal.run-requires
run-requires c =
    let x = c.args in
    let allowed = sym (c.in_ok-feed_refusal.ensures x.self.anchor) in
    let h = feed_room x.self x.store.now x.audio.now x.img.now x.votes.now x.flags.now x.samples.now allowed in
    record {
      sane = c.is_sane.ensures.yes c.if-not-is_sane.false;
      live = feed_live x.self x.store.now x.audio.now x.img.now x.votes.now x.flags.now x.samples.now allowed;
      store_is_capacity = h.kept;
      samples_fit = h.wide;
      work_memory_fits = (h.image, h.counts);
      piece_bounded = h.short;
    }

pub returns : goal.returns
returns c =
    let x = c.args in
    feed_taken x.self x.store.now x.audio.now x.img.now x.votes.now x.flags.now x.samples.now
    c.run.result.taken c.run.result.session c.run.new.store c.run.new.audio c.run.new.img c.run.new.votes
    (sym (c.in_ok-feed_refusal.ensures x.self.anchor)) c.run.ensures
