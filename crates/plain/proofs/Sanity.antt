-- What the definitions of the plain session rule out (01-scope.md, "How tight"): an end before F flags, and an evaluation count
-- not owed to w + 64j.
-- Assumes nothing.
use mathlib.Core.Path.{◌≡◌, refl, sym, ◌∙◌, ap, ap₂, subst}
use mathlib.Core.Bool.{true, false, cond}
use mathlib.Core.List.{List, [], ◌∷◌}
use Prim.Native.Nat.{ℕ, ◌+◌, ◌*◌, ◌≤◌, ◌<◌}
use native.Mathlib.Nat.{add-zero, zero-add}
use native.Mathlib.Omega.{arith}
use lib.ListN.{length, take, drop, length-append}
use lib.Dec.{leb}
use lib.Ieee.{Float}
use borrow.Author.Tests.{lt-leb}
use Rattle.std.proofs.lemmas.Bool.{cond-false}
use Rattle.std.proofs.lemmas.Bool.Decides.{nat_tests}
use Rattle.plain.specs.declared.Start.{Start}
use Rattle.plain.specs.declared.Phase.{Phase}
use Rattle.plain.specs.declared.Phase.TheVariants.{Searching, Collecting, Reported, Unfound, CutShort}
use Rattle.plain.specs.Plain.{Setup, Plain, window_of, ended_phase, due_at, evaluating, reporting, ending, step, through, opened}
use Rattle.plain.specs.Calls.{Call, run_to}
use Rattle.plain.specs.Lists.{accepted_flags, accepted_samples, searching, searched_of, owed}
use Rattle.plain.proofs.Laws.{by_test, through_keeps}
use Rattle.plain.proofs.Sizes.{window_some}
use Rattle.plain.proofs.Lists.{step_flags, step_setup, run_through, run_setup}

-- ---- no end before F flags

-- unfound and cut short come with F flags
abbrev pub AtEnd : Phase → ℕ → ℕ → Type 0
AtEnd Searching n f = Unit
AtEnd (Collecting s) n f = Unit
AtEnd (Reported s r) n f = Unit
AtEnd Unfound n f = n ≡ f
AtEnd (CutShort s) n f = n ≡ f

abbrev pub EndsFull : Plain → Type 0
EndsFull p = AtEnd p.phase (length p.flags) p.setup.capacity

step_full : (p : Plain) (x : ℕ) (four : List Float) → EndsFull p → EndsFull (step p x four)
unfolding step evaluating reporting ending
step_full p x four h = grind (arith, nat_tests)

run_full : (u : Setup) (first : List Float) (cs : List Call) (h : Phase) → (run_to (opened u first) cs).phase ≡ h
    → AtEnd h (length (run_to (opened u first) cs).flags) u.capacity
run_full u first cs h e =
    let p : Plain = opened u first in
    let q : Plain = run_to p cs in
    let full : EndsFull q = rw (run_through p cs) (through_keeps EndsFull step_full p (accepted_flags p cs) (accepted_samples p cs) tt) in
    subst (λ (x : Phase). AtEnd x (length q.flags) u.capacity) e
    (subst (λ (v : Setup). AtEnd q.phase (length q.flags) v.capacity) (run_setup p cs) full)

-- no list of calls ends unfound before F flags are taken
pub unfound_full : (u : Setup) (first : List Float) (cs : List Call) → (run_to (opened u first) cs).phase ≡ Unfound
    → length (run_to (opened u first) cs).flags ≡ u.capacity
unfound_full u first cs e = run_full u first cs Unfound e

-- nor cut short
pub cut_short_full : (u : Setup) (first : List Float) (cs : List Call) (s : Start) → (run_to (opened u first) cs).phase ≡ CutShort s
    → length (run_to (opened u first) cs).flags ≡ u.capacity
cut_short_full u first cs s e = run_full u first cs (CutShort s) e

-- ---- the evaluations owed

-- j is owed exactly if w + 64j is at most n
pub owed_exact : (mode n j : ℕ) → (j < owed mode n → window_of mode + 64 * j ≤ n) × (window_of mode + 64 * j ≤ n → j < owed mode n)
unfolding owed
owed_exact mode n j = grind (arith, nat_tests)

owed_more : (mode n : ℕ) → owed mode (n + 1) ≡ owed mode n + cond (due_at mode (n + 1)) 1 0
unfolding owed
owed_more mode n = grind (arith, nat_tests)

-- ---- the evaluations made

-- a session that does not search makes no evaluation and does not search again
step_idle : (p : Plain) (x : ℕ) (four : List Float) → searching p.phase ≡ false
    → ((step p x four).evaluations ≡ p.evaluations) × (searching (step p x four).phase ≡ false)
unfolding step evaluating reporting ending
step_idle p x four i = grind arith

-- what a piece makes of a session that does not search
pub record Idle (p : Plain) (xs : List ℕ) (ys : List Float) : Type 0 where
  pub made : (through p xs ys).evaluations ≡ p.evaluations
  pub searched : searched_of p xs ys ≡ 0

through_idle : (p : Plain) (xs : List ℕ) (ys : List Float) → searching p.phase ≡ false → Idle p xs ys
unfolding through searched_of
through_idle p [] ys i = record { made = refl; searched = refl }
through_idle p (x ∷ xs) ys i =
    let one = step_idle p x (take 4 ys) i in
    let rest : Idle (step p x (take 4 ys)) xs (drop 4 ys) = through_idle (step p x (take 4 ys)) xs (drop 4 ys) one.1 in
    record { made = rest.made ∙ one.0; searched = rw (i, zero-add (searched_of (step p x (take 4 ys)) xs (drop 4 ys))) rest.searched }

-- a searching session makes the evaluation that is due
step_made : (p : Plain) (x : ℕ) (four : List Float) → searching p.phase ≡ true → p.evaluations ≡ owed p.setup.mode (length p.flags)
    → (step p x four).evaluations ≡ owed p.setup.mode (length p.flags + 1)
unfolding step evaluating reporting ending
step_made p x four i made = grind (arith, length-append p.flags (x ∷ []), owed_more p.setup.mode (length p.flags))

live_searching : (h : Phase) → searching h ≡ true → ended_phase h ≡ false
live_searching h e = grind arith

through_made : (p : Plain) (xs : List ℕ) (ys : List Float) → searching p.phase ≡ true → p.evaluations ≡ owed p.setup.mode (length p.flags)
    → (through p xs ys).evaluations ≡ owed p.setup.mode (length p.flags + searched_of p xs ys)
unfolding through searched_of
through_made p [] ys i made = rw (add-zero (length p.flags)) made
through_made p (x ∷ xs) ys i made =
    let q : Plain = step p x (take 4 ys) in
    let n : ℕ = searched_of q xs (drop 4 ys) in
    let live : ended_phase p.phase ≡ false = live_searching p.phase i in
    let flags : length q.flags ≡ length p.flags + 1 = ap length (step_flags p x (take 4 ys) live) ∙ length-append p.flags (x ∷ []) in
    let mode : q.setup.mode ≡ p.setup.mode = ap (λ (u : Setup). u.mode) (step_setup p x (take 4 ys)) in
    let one : q.evaluations ≡ owed p.setup.mode (length p.flags + 1) = step_made p x (take 4 ys) i made in
    let more : searching q.phase ≡ true → (through q xs (drop 4 ys)).evaluations ≡ owed p.setup.mode (length p.flags + (1 + n)) =
    λ e.
    let k : length q.flags + n ≡ length p.flags + (1 + n) = omega arith in
    through_made q xs (drop 4 ys) e (one ∙ ap₂ owed (sym mode) (sym flags)) ∙ ap₂ owed mode k in
    let no_more : searching q.phase ≡ false → (through q xs (drop 4 ys)).evaluations ≡ owed p.setup.mode (length p.flags + (1 + n)) =
    λ e.
    let idle : Idle q xs (drop 4 ys) = through_idle q xs (drop 4 ys) e in
    let none : n ≡ 0 = idle.searched in
    let k : length p.flags + 1 ≡ length p.flags + (1 + n) = omega arith in
    idle.made ∙ one ∙ ap (λ (m : ℕ). owed p.setup.mode m) k in
    rw i (by_test (searching q.phase) more no_more)

-- the evaluations made by a list of calls are as many as there are j with w + 64j at most the flags searched
pub evaluations_owed : (u : Setup) (first : List Float) (cs : List Call)
    → (run_to (opened u first) cs).evaluations ≡ owed u.mode (searched_of (opened u first) (accepted_flags (opened u first) cs) (accepted_samples (opened u first) cs))
evaluations_owed u first cs =
    let p : Plain = opened u first in
    let some = window_some u.mode in
    let none : 0 ≡ owed u.mode 0 = unfold owed in (sym (cond-false (leb (window_of u.mode) 0) _ 0 (lt-leb (window_of u.mode) 0 some))) in
    let n : ℕ = searched_of p (accepted_flags p cs) (accepted_samples p cs) in
    rw (run_through p cs) (through_made p (accepted_flags p cs) (accepted_samples p cs) refl none ∙ ap (λ (k : ℕ). owed u.mode k) (zero-add n))
