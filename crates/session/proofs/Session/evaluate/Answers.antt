-- `session::Session::evaluate` meets its contract. Only a searching session is evaluated. An evaluation is due where w + 64j flags are taken; the samples lent to it do for those known.
-- Assumes nothing.
use Rattle.session.proofs.Rooms.{evaluate_room}
use Rattle.session.proofs.Steps.{judge_other, search_idle, search_done}
use Rattle.plain.specs.Plain.{window_of}
use Prim.Native.Nat.{ℕ, ◌-◌, ◌%◌, ◌/◌, ◌≤◌, ◌<◌}
use borrow.Author.Tests.{eq-eqb, ne_eqb, le-leb, lt-leb}
use native.Mathlib.Omega.{arith}
use mathlib.Core.Path.{◌≡◌, ap}
use Rattle.session.proofs.Session.evaluate.Goals as goal

pub returns-in_default : goal.returns-in_default
returns-in_default c =
    let x = c.args in
    judge_other x.self x.store.now x.audio.now (omega arith) c.in_default.not-Searching

pub returns-then-self-window : goal.returns-then-self-window
returns-then-self-window c =
    let s = c.args.self in
    let w = c.window-window.ensures.is in
    let late : s.taken < window_of s.mode = omega arith in
    search_idle s c.args.store.now c.args.audio.now c.in-Searching.is c.requires.taken_in_bounds.0 c.requires.evaluations_lt_taken.1 (rw (lt-leb (window_of s.mode) s.taken late))

pub returns-then-first-ne0 : goal.returns-then-first-ne0
returns-then-first-ne0 c =
    let s = c.args.self in
    let w : c.window-window.result ≡ window_of s.mode = c.window-window.ensures.is in
    let no_rest : (s.taken - window_of s.mode) % 64 ≡ 0 → ⊥ = rw w at c.if-first-ne0.true in
    let in_time : window_of s.mode ≤ s.taken = omega arith in
    search_idle s c.args.store.now c.args.audio.now c.in-Searching.is c.requires.taken_in_bounds.0 c.requires.evaluations_lt_taken.1
    (rw (le-leb (window_of s.mode) s.taken in_time, ne_eqb ((s.taken - window_of s.mode) % 64) 0 no_rest))

pub evaluate-made-requires-clause-window_in_flags : goal.evaluate-made-requires-clause-window_in_flags
evaluate-made-requires-clause-window_in_flags c =
    evaluate_room c.args.self.mode c.args.self.taken c.window-window.result c.args.store.now c.window-window.ensures.is
    c.if-self-window.false c.if-first-ne0.false c.requires.taken_in_bounds.0

pub returns : goal.returns
returns c =
    let s = c.args.self in
    let w : c.window-window.result ≡ window_of s.mode = c.window-window.ensures.is in
    let j = (s.taken - c.window-window.result) / 64 in
    let rest : (s.taken - window_of s.mode) % 64 ≡ 0 = rw w at c.if-first-ne0.false in
    let in_time : window_of s.mode ≤ s.taken = rw w at c.if-self-window.false in
    search_done s c.args.store.now c.args.audio.now c.evaluate-made.result c.found.result c.known-known.result j c.in-Searching.is c.requires.mode_bound c.requires.taken_in_bounds.0 c.requires.taken_in_bounds.1 c.requires.evaluations_lt_taken.1
    (rw (le-leb (window_of s.mode) s.taken in_time, eq-eqb ((s.taken - window_of s.mode) % 64) 0 rest))
    (ap (λ (n : ℕ). (s.taken - n) / 64) w) c.known-known.ensures c.evaluate-made.ensures c.found.ensures
