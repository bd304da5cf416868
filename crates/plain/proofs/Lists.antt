-- Lists of calls on the plain session: a list is one piece, the flags taken are the session's, and cuts and refused calls do not matter.
-- Assumes nothing.
use mathlib.Core.Path.{◌≡◌, refl, sym, ◌∙◌, ap, ap₂}
use mathlib.Core.Bool.{Bool, true, false, cond}
use mathlib.Core.List.{List, [], ◌∷◌, ◌++◌, append-nil, append_assoc}
use Prim.Native.Nat.{ℕ, zero, suc, ◌+◌, ◌-◌, ◌*◌, ◌≤◌}
use native.Mathlib.Nat.{sub-zero}
use native.Mathlib.Omega.{arith}
use lib.ListN.{length, take, drop}
use lib.Seq.{take-nil, take-take, take-add, take-append-le, drop-append-le}
use lib.Ieee.{Float}
use Rattle.std.proofs.lemmas.Bool.{cond_both}
use Rattle.std.proofs.lemmas.Grind.{common_steps}
use Rattle.std.proofs.lemmas.List.{nil_from_length}
use Rattle.limits.specs.Refusals.{is_allowed}
use Rattle.plain.specs.Plain.{Setup, Plain, ended_phase, evaluating, reporting, ending, events, joined, step, through, opened}
use Rattle.plain.specs.Calls.{Lengths, Call, feed, read, feed_refusal, after, run_to}
use Rattle.plain.specs.Lists.{accepted_flags, accepted_samples, to_the_end, flags_taken, reads_by, reads_of, list_reads}
use Rattle.plain.proofs.Refusals.{feed_four}
use Rattle.plain.proofs.Laws.{four_left, through_append, through_ended, through_keeps}

pub drop_take : {A : Type 0} (a t : ℕ) (l : List A) → drop a (take t l) ≡ take (t - a) (drop a l)
drop_take zero t l = rw sub-zero
drop_take (suc a) zero l = let e : 0 - suc a ≡ 0 = omega arith in rw e
drop_take (suc a) (suc t) [] = sym (take-nil (suc t - suc a))
drop_take (suc a) (suc t) (x ∷ l) = let e : suc t - suc a ≡ t - a = omega arith in rw e (drop_take a t l)

-- ---- what events leave alone

-- the fields that events keep
pub record Same (p q : Plain) : Type 0 where
  pub setup : q.setup ≡ p.setup
  pub flags : q.flags ≡ p.flags
  pub samples : q.samples ≡ p.samples

pub same_events : (p : Plain) → Same p (events p)
unfolding evaluating reporting ending
same_events p = grind arith

pub step_live : (p : Plain) (x : ℕ) (four : List Float) → ended_phase p.phase ≡ false → step p x four ≡ events (joined p (x ∷ []) four)
unfolding step
step_live p x four e = rw e

pub step_flags : (p : Plain) (x : ℕ) (four : List Float) → ended_phase p.phase ≡ false → (step p x four).flags ≡ p.flags ++ (x ∷ [])
step_flags p x four e = rw (step_live p x four e) (same_events (joined p (x ∷ []) four)).flags

pub step_samples : (p : Plain) (x : ℕ) (four : List Float) → ended_phase p.phase ≡ false → (step p x four).samples ≡ p.samples ++ four
step_samples p x four e = rw (step_live p x four e) (same_events (joined p (x ∷ []) four)).samples

pub step_setup : (p : Plain) (x : ℕ) (four : List Float) → (step p x four).setup ≡ p.setup
unfolding step evaluating reporting ending
step_setup p x four = grind arith

pub through_setup : (p : Plain) (xs : List ℕ) (ys : List Float) → (through p xs ys).setup ≡ p.setup
through_setup p xs ys = through_keeps (λ (q : Plain). q.setup ≡ p.setup) (λ q x four e. step_setup q x four ∙ e) p xs ys refl

-- ---- a list of calls is one piece

-- the piece of a feed has four samples a flag; a refused feed has no piece
fed_four : (p : Plain) (m : Lengths) (xs : List ℕ) (ys : List Float)
    → length (cond (is_allowed (feed_refusal p.setup p.phase m xs ys)) ys []) ≡ 4 * length (cond (is_allowed (feed_refusal p.setup p.phase m xs ys)) xs [])
fed_four p m xs ys = grind (arith, feed_four p.setup p.phase m xs ys)

pub accepted_four : (p : Plain) (cs : List Call) → length (accepted_samples p cs) ≡ 4 * length (accepted_flags p cs)
unfolding accepted_samples accepted_flags
accepted_four p [] = refl
accepted_four p (feed m xs ys ∷ cs) = grind (arith, common_steps, fed_four p m xs ys, accepted_four (after p (feed m xs ys)) cs)
accepted_four p (read ∷ cs) = accepted_four p cs

one_feed : (b : Bool) (p : Plain) (xs : List ℕ) (ys : List Float) → cond b (through p xs ys) p ≡ through p (cond b xs []) (cond b ys [])
unfolding through
one_feed true p xs ys = refl
one_feed false p xs ys = refl

pub run_through : (p : Plain) (cs : List Call) → run_to p cs ≡ through p (accepted_flags p cs) (accepted_samples p cs)
unfolding run_to accepted_flags accepted_samples through
run_through p [] = refl
run_through p (feed m xs ys ∷ cs) =
    let b : Bool = is_allowed (feed_refusal p.setup p.phase m xs ys) in
    let q : Plain = after p (feed m xs ys) in
    run_through q cs
    ∙ ap (λ (z : Plain). through z (accepted_flags q cs) (accepted_samples q cs)) (one_feed b p xs ys)
    ∙ sym (through_append p (cond b xs []) (accepted_flags q cs) (cond b ys []) (accepted_samples q cs) (fed_four p m xs ys))
run_through p (read ∷ cs) = run_through p cs

-- no list of calls changes what open was given
pub run_setup : (p : Plain) (cs : List Call) → (run_to p cs).setup ≡ p.setup
run_setup p cs = rw (run_through p cs) (through_setup p (accepted_flags p cs) (accepted_samples p cs))

-- ---- the flags taken are the session's

pub through_flags : (p : Plain) (xs : List ℕ) (ys : List Float) → (through p xs ys).flags ≡ p.flags ++ to_the_end p xs ys
unfolding through to_the_end
through_flags p [] ys = grind (arith, common_steps)
through_flags p (x ∷ xs) ys =
    grind (arith, common_steps, through_ended p (x ∷ xs) ys, step_flags p x (take 4 ys), through_flags (step p x (take 4 ys)) xs (drop 4 ys))

-- the samples of the flags taken
abbrev pub samples_to : Plain → List ℕ → List Float → List Float
samples_to p xs ys = take (4 * length (to_the_end p xs ys)) ys

four_next : (n : ℕ) → 4 * suc n ≡ 4 + 4 * n
four_next n = omega arith

pub through_samples : (p : Plain) (xs : List ℕ) (ys : List Float) → (through p xs ys).samples ≡ p.samples ++ samples_to p xs ys
unfolding through to_the_end
through_samples p [] ys = sym (append-nil p.samples)
through_samples p (x ∷ xs) ys =
    let q : Plain = step p x (take 4 ys) in
    let rest : List ℕ = to_the_end q xs (drop 4 ys) in
    cond_both (ended_phase p.phase) [] (x ∷ rest) (λ (l : List ℕ). (through q xs (drop 4 ys)).samples ≡ p.samples ++ take (4 * length l) ys)
    (λ e. ap (λ (z : Plain). z.samples) (through_ended p (x ∷ xs) ys e) ∙ sym (append-nil p.samples))
    (λ e.
    through_samples q xs (drop 4 ys)
    ∙ ap (λ (l : List Float). l ++ take (4 * length rest) (drop 4 ys)) (step_samples p x (take 4 ys) e)
    ∙ append_assoc p.samples (take 4 ys) (take (4 * length rest) (drop 4 ys))
    ∙ ap (λ (l : List Float). p.samples ++ l) (sym (take-add 4 (4 * length rest) ys))
    ∙ ap (λ (n : ℕ). p.samples ++ take n ys) (sym (four_next (length rest))))

-- a session's flags are the flags taken
pub taken_flags : (u : Setup) (first : List Float) (cs : List Call) → (run_to (opened u first) cs).flags ≡ flags_taken (opened u first) cs
taken_flags u first cs =
    let p : Plain = opened u first in
    rw (run_through p cs) (through_flags p (accepted_flags p cs) (accepted_samples p cs))

-- ---- what comes after the end does not matter

front : (n : ℕ) (ys : List Float) → take 4 (take (4 * suc n) ys) ≡ take 4 ys
front n ys = take-take 4 (4 * suc n) ys (omega arith)

back : (n : ℕ) (ys : List Float) → drop 4 (take (4 * suc n) ys) ≡ take (4 * n) (drop 4 ys)
back n ys = let e : 4 * suc n - 4 ≡ 4 * n = omega arith in drop_take 4 (4 * suc n) ys ∙ ap (λ (k : ℕ). take k (drop 4 ys)) e

pub through_end : (p : Plain) (xs : List ℕ) (ys : List Float) → through p (to_the_end p xs ys) (samples_to p xs ys) ≡ through p xs ys
unfolding through to_the_end
through_end p [] ys = refl
through_end p (x ∷ xs) ys =
    let q : Plain = step p x (take 4 ys) in
    let rest : List ℕ = to_the_end q xs (drop 4 ys) in
    cond_both (ended_phase p.phase) [] (x ∷ rest) (λ (l : List ℕ). through p l (take (4 * length l) ys) ≡ through q xs (drop 4 ys))
    (λ e. sym (through_ended p (x ∷ xs) ys e))
    (λ e.
    ap₂ (λ (a b : List Float). through (step p x a) rest b) (front (length rest) ys) (back (length rest) ys)
    ∙ through_end q xs (drop 4 ys))

-- ---- the same for the samples that evaluations read

pub reads_cons : (p : Plain) (x : ℕ) (xs : List ℕ) (ys : List Float) → ended_phase p.phase ≡ false
    → reads_of p (x ∷ xs) ys ≡ reads_by p.phase (joined p (x ∷ []) (take 4 ys)) ++ reads_of (step p x (take 4 ys)) xs (drop 4 ys)
unfolding reads_of
reads_cons p x xs ys e = rw e

reads_ended : (p : Plain) (xs : List ℕ) (ys : List Float) → ended_phase p.phase ≡ true → reads_of p xs ys ≡ []
unfolding reads_of step
reads_ended p [] ys e = refl
reads_ended p (x ∷ xs) ys e = rw e (reads_ended p xs (drop 4 ys) e)

pub reads_end : (p : Plain) (xs : List ℕ) (ys : List Float) → reads_of p (to_the_end p xs ys) (samples_to p xs ys) ≡ reads_of p xs ys
unfolding reads_of to_the_end
reads_end p [] ys = refl
reads_end p (x ∷ xs) ys =
    let q : Plain = step p x (take 4 ys) in
    let rest : List ℕ = to_the_end q xs (drop 4 ys) in
    cond_both (ended_phase p.phase) [] (x ∷ rest) (λ (l : List ℕ). reads_of p l (take (4 * length l) ys) ≡ reads_of p (x ∷ xs) ys)
    (λ e. sym (reads_ended p (x ∷ xs) ys e))
    (λ e.
    reads_cons p x rest (take (4 * suc (length rest)) ys) e
    ∙ ap₂ (λ (a b : List Float). reads_by p.phase (joined p (x ∷ []) a) ++ reads_of (step p x a) rest b) (front (length rest) ys) (back (length rest) ys)
    ∙ ap (λ (l : List ℕ). reads_by p.phase (joined p (x ∷ []) (take 4 ys)) ++ l) (reads_end q xs (drop 4 ys))
    ∙ sym (reads_cons p x xs ys e))

reads_append : (p : Plain) (xs xs' : List ℕ) (ys ys' : List Float) → length ys ≡ 4 * length xs
    → reads_of p (xs ++ xs') (ys ++ ys') ≡ reads_of p xs ys ++ reads_of (through p xs ys) xs' ys'
unfolding reads_of through
reads_append p [] xs' ys ys' e = rw (nil_from_length ys e)
reads_append p (x ∷ xs) xs' ys ys' e =
    let h : 4 ≤ length ys = omega arith in
    let q : Plain = step p x (take 4 ys) in
    let by : List ℕ = cond (ended_phase p.phase) [] (reads_by p.phase (joined p (x ∷ []) (take 4 ys))) in
    ap₂ (λ (a b : List Float). cond (ended_phase p.phase) [] (reads_by p.phase (joined p (x ∷ []) a)) ++ reads_of (step p x a) (xs ++ xs') b) (take-append-le 4 ys ys' h) (drop-append-le 4 ys ys' h)
    ∙ ap (λ (l : List ℕ). by ++ l) (reads_append q xs xs' (drop 4 ys) ys' (four_left (length xs) ys e))
    ∙ sym (append_assoc by (reads_of q xs (drop 4 ys)) (reads_of (through q xs (drop 4 ys)) xs' ys'))

one_reads : (b : Bool) (p : Plain) (xs : List ℕ) (ys : List Float) → cond b (reads_of p xs ys) [] ≡ reads_of p (cond b xs []) (cond b ys [])
unfolding reads_of
one_reads true p xs ys = refl
one_reads false p xs ys = refl

-- the samples read by the evaluations of a list are those read on its one piece
pub list_reads_lem : (p : Plain) (cs : List Call) → list_reads p cs ≡ reads_of p (accepted_flags p cs) (accepted_samples p cs)
unfolding list_reads accepted_flags accepted_samples reads_of
list_reads_lem p [] = refl
list_reads_lem p (feed m xs ys ∷ cs) =
    let b : Bool = is_allowed (feed_refusal p.setup p.phase m xs ys) in
    let q : Plain = after p (feed m xs ys) in
    ap₂ (λ (a c : List ℕ). a ++ c) (one_reads b p xs ys) (list_reads_lem q cs)
    ∙ ap (λ (z : Plain). reads_of p (cond b xs []) (cond b ys []) ++ reads_of z (accepted_flags q cs) (accepted_samples q cs)) (one_feed b p xs ys)
    ∙ sym (reads_append p (cond b xs []) (accepted_flags q cs) (cond b ys []) (accepted_samples q cs) (fed_four p m xs ys))
list_reads_lem p (read ∷ cs) = list_reads_lem p cs
