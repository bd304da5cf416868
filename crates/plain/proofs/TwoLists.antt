-- Demand 3, second theorem, on plain sessions: the flags taken and the parity samples that evaluations read decide the point,
-- whatever the anchors, cuts, refused calls and other samples.
-- Assumes nothing.
use mathlib.Core.Path.{◌≡◌, sym, ◌∙◌, ap, subst}
use mathlib.Core.Bool.{Bool, true, false, cond}
use mathlib.Core.List.Memᴰ
use mathlib.Core.List.{List, [], ◌∷◌, ◌++◌, append_assoc, Memᴰ}
use Prim.Native.Nat.{ℕ, suc, ◌+◌, ◌-◌, ◌*◌, ◌/◌, ◌≤◌, ◌<◌}
use native.Mathlib.Omega.{arith}
use lib.ListN.{length, take, drop, get_or, length-append, take-append-drop, get_or-append}
use lib.Seq.{length-take-le}
use lib.IntN.{pos}
use lib.Ieee.{Float, fin}
use Rattle.std.proofs.lemmas.Bool.{cond_both}
use Rattle.sync_start.specs.Evaluate.{evaluation_of, parity_reads}
use Rattle.sync_start.proofs.Evaluations.{parity_only, reads_known}
use Rattle.plain.specs.declared.Phase.{Phase}
use Rattle.plain.specs.declared.Phase.TheVariants.{Searching}
use Rattle.plain.specs.Plain.{Setup, Plain, window_of, ended_phase, due_at, evaluating, evaluation_at, reporting, ending, events, joined, step, through, opened}
use Rattle.plain.specs.Point.{Stage, point_of, point_less, stage_of, stage_less, FromAnchor}
use Rattle.plain.specs.Calls.{Call, run_to}
use Rattle.plain.specs.Lists.{accepted_flags, accepted_samples, to_the_end, flags_taken, reads_by, reads_of, list_reads}
use Rattle.plain.proofs.Laws.{by_test, four_left, through_cons, through_ended, through_nil}
use Rattle.plain.proofs.Lists.{step_live, step_flags, step_samples, run_through, accepted_four, through_samples, samples_to, through_end, reads_cons, reads_end, list_reads_lem, run_setup}

abbrev pub silence : Float
silence = fin false 0 (pos 0)

-- the session p under another anchor and with other samples
abbrev varied : ℕ → List Float → Plain → Plain
varied a ss p =
    record {
      setup = record { mode = p.setup.mode; anchor = a; capacity = p.setup.capacity };
      flags = p.flags;
      samples = ss;
      evaluations = p.evaluations;
      streak = p.streak;
      phase = p.phase;
    }

-- the two sessions make the same evaluation, if one is due
abbrev Agrees : Phase → List Float → Plain → Type 0
Agrees Searching ss p =
    due_at p.setup.mode (length p.flags) ≡ true
    → evaluation_of p.setup.mode ((length p.flags - window_of p.setup.mode) / 64) p.flags ss p.streak ≡ evaluation_at p
Agrees _ ss p = Unit

events_varied : (a : ℕ) (ss : List Float) (p : Plain) → Agrees p.phase ss p → events (varied a ss p) ≡ varied a ss (events p)
unfolding evaluating reporting ending
events_varied a ss p e = grind arith

-- ---- one flag

-- the samples read at one flag are equal, so the evaluation is
agree_due : (h : Phase) (p : Plain) (ss : List Float) → length p.samples ≡ 4 * length p.flags + 4 → length ss ≡ 4 * length p.flags + 4
    → ((n : ℕ) → Memᴰ n (reads_by h p) → n < 4 * length p.flags + 4 → get_or p.samples n silence ≡ get_or ss n silence)
    → Agrees h ss p
agree_due Searching p ss hp hs same = λ due.
    let j : ℕ = (length p.flags - window_of p.setup.mode) / 64 in
    let reads : reads_by Searching p ≡ parity_reads p.setup.mode j p.flags p.streak =
    ap (λ (b : Bool). cond b (parity_reads p.setup.mode j p.flags p.streak) []) due in
    parity_only p.setup.mode j p.flags ss p.samples p.streak hs hp
    (λ n m. sym (same n (subst (λ (l : List ℕ). Memᴰ n l) (sym reads) m) (reads_known p.setup.mode j p.flags p.streak n m)))
agree_due _ p ss hp hs same = tt

-- ---- a piece

pub record Varied (a : ℕ) (q p : Plain) : Type 0 where
  pub samples : List Float
  pub same : q ≡ varied a samples p

join_four : (ss ys : List Float) → (ss ++ take 4 ys) ++ drop 4 ys ≡ ss ++ ys
join_four ss ys = append_assoc ss (take 4 ys) (drop 4 ys) ∙ ap (λ (l : List Float). ss ++ l) (take-append-drop 4 ys)

early : (ss ys : List Float) (n : ℕ) → n < length (ss ++ take 4 ys) → get_or (ss ++ take 4 ys) n silence ≡ get_or (ss ++ ys) n silence
early ss ys n h = sym (get_or-append (ss ++ take 4 ys) (drop 4 ys) silence n h) ∙ ap (λ (l : List Float). get_or l n silence) (join_four ss ys)

grown_length : (ss ys : List Float) (fl : List ℕ) (x m : ℕ) → length ss ≡ 4 * length fl + 4 → length ys ≡ 4 * suc m
    → length (ss ++ take 4 ys) ≡ 4 * length (fl ++ (x ∷ [])) + 4
grown_length ss ys fl x m hs hy =
    let four : length (take 4 ys) ≡ 4 = length-take-le 4 ys (omega arith) in
    rw (length-append ss (take 4 ys), length-append fl (x ∷ [])) (omega arith)

pub agree : (a : ℕ) (p : Plain) (ss : List Float) (xs : List ℕ) (ys zs : List Float)
    → length p.samples ≡ 4 * length p.flags + 4 → length ss ≡ 4 * length p.flags + 4
    → length ys ≡ 4 * length xs → length zs ≡ 4 * length xs
    → ((n : ℕ) → Memᴰ n (reads_of p xs ys) → get_or (p.samples ++ ys) n silence ≡ get_or (ss ++ zs) n silence)
    → Varied a (through (varied a ss p) xs zs) (through p xs ys)
agree a p ss [] ys zs hp hs hy hz same = record { samples = ss; same = through_nil (varied a ss p) zs ∙ ap (varied a ss) (sym (through_nil p ys)) }
agree a p ss (x ∷ xs) ys zs hp hs hy hz same =
    let q : Plain = step p x (take 4 ys) in
    by_test (ended_phase p.phase)
    (λ e. record { samples = ss; same = through_ended (varied a ss p) (x ∷ xs) zs e ∙ ap (varied a ss) (sym (through_ended p (x ∷ xs) ys e)) })
    (λ e.
    let j : Plain = joined p (x ∷ []) (take 4 ys) in
    let hj : length (p.samples ++ take 4 ys) ≡ 4 * length (p.flags ++ (x ∷ [])) + 4 = grown_length p.samples ys p.flags x (length xs) hp hy in
    let ht : length (ss ++ take 4 zs) ≡ 4 * length (p.flags ++ (x ∷ [])) + 4 = grown_length ss zs p.flags x (length xs) hs hz in
    let split : reads_of p (x ∷ xs) ys ≡ reads_by p.phase j ++ reads_of q xs (drop 4 ys) = reads_cons p x xs ys e in
    let now : (n : ℕ) → Memᴰ n (reads_by p.phase j) → n < 4 * length (p.flags ++ (x ∷ [])) + 4 → get_or (p.samples ++ take 4 ys) n silence ≡ get_or (ss ++ take 4 zs) n silence =
    λ n m small.
    early p.samples ys n (rw hj small)
    ∙ same n (rw split (Memᴰ.append_left (reads_of q xs (drop 4 ys)) m))
    ∙ sym (early ss zs n (rw ht small)) in
    let one : step (varied a ss p) x (take 4 zs) ≡ varied a (ss ++ take 4 zs) q =
    step_live (varied a ss p) x (take 4 zs) e
    ∙ events_varied a (ss ++ take 4 zs) j (agree_due p.phase j (ss ++ take 4 zs) hj ht now)
    ∙ ap (varied a (ss ++ take 4 zs)) (sym (step_live p x (take 4 ys) e)) in
    let qf : q.flags ≡ p.flags ++ (x ∷ []) = step_flags p x (take 4 ys) e in
    let qs : q.samples ≡ p.samples ++ take 4 ys = step_samples p x (take 4 ys) e in
    let later : (n : ℕ) → Memᴰ n (reads_of q xs (drop 4 ys)) → get_or (q.samples ++ drop 4 ys) n silence ≡ get_or ((ss ++ take 4 zs) ++ drop 4 zs) n silence =
    λ n m.
    ap (λ (l : List Float). get_or l n silence) (ap (λ (l : List Float). l ++ drop 4 ys) qs ∙ join_four p.samples ys)
    ∙ same n (rw split (Memᴰ.append_right (reads_by p.phase j) m))
    ∙ ap (λ (l : List Float). get_or l n silence) (sym (join_four ss zs)) in
    let rest : Varied a (through (varied a (ss ++ take 4 zs) q) xs (drop 4 zs)) (through q xs (drop 4 ys)) =
    agree a q (ss ++ take 4 zs) xs (drop 4 ys) (drop 4 zs) (rw (qs, qf) hj) (rw qf ht) (four_left (length xs) ys hy) (four_left (length xs) zs hz) later in
    record {
      samples = rest.samples;
      same =
          through_cons (varied a ss p) x xs zs
          ∙ ap (λ (z : Plain). through z xs (drop 4 zs)) one
          ∙ rest.same
          ∙ ap (varied a rest.samples) (sym (through_cons p x xs ys));
    })

-- ---- a list

-- a list ends where its flags taken, as one piece, do
one_piece : (p : Plain) (cs : List Call) → run_to p cs ≡ through p (flags_taken p cs) (samples_to p (accepted_flags p cs) (accepted_samples p cs))
one_piece p cs = run_through p cs ∙ sym (through_end p (accepted_flags p cs) (accepted_samples p cs))

end_short : (p : Plain) (xs : List ℕ) (ys : List Float) → length (to_the_end p xs ys) ≤ length xs
unfolding to_the_end
end_short p [] ys = omega arith
end_short p (x ∷ xs) ys =
    let q : Plain = step p x (take 4 ys) in
    let h = end_short q xs (drop 4 ys) in
    cond_both (ended_phase p.phase) [] (x ∷ to_the_end q xs (drop 4 ys)) (λ (l : List ℕ). length l ≤ suc (length xs)) (λ e. omega arith) (λ e. omega arith)

taken_four : (p : Plain) (cs : List Call) → length (samples_to p (accepted_flags p cs) (accepted_samples p cs)) ≡ 4 * length (flags_taken p cs)
taken_four p cs =
    let four = accepted_four p cs in
    let short = end_short p (accepted_flags p cs) (accepted_samples p cs) in
    length-take-le (4 * length (flags_taken p cs)) (accepted_samples p cs) (omega arith)

stage_less_lem : (a b : ℕ) (h : Phase) → stage_less a (stage_of a h) ≡ stage_less b (stage_of b h)
stage_less_lem a b h = grind arith

from_anchor : (a : ℕ) (h : Phase) → FromAnchor a (stage_of a h)
from_anchor a h = grind arith

-- a start is not before the anchor, so that the difference below is cut nowhere
pub starts_from : (u : Setup) (first : List Float) (cs : List Call) → FromAnchor u.anchor (point_of (run_to (opened u first) cs)).stage
starts_from u first cs = rw (run_setup (opened u first) cs) (from_anchor u.anchor (run_to (opened u first) cs).phase)

-- Two lists of one mode and store length, with the same flags taken, where each sample that an evaluation of the first reads for
-- parity has the same value under its number in the second: same phase, flags taken, evaluations, qualities, rate, slant and skip,
-- and the same starts less the anchors.
pub two_lists : (mode capacity a b : ℕ) (first second : List Float) (cs ds : List Call) → length first ≡ 4 → length second ≡ 4
    → flags_taken (opened (record { mode = mode; anchor = a; capacity = capacity }) first) cs
    ≡ flags_taken (opened (record { mode = mode; anchor = b; capacity = capacity }) second) ds
    → ((n : ℕ) → Memᴰ n (list_reads (opened (record { mode = mode; anchor = a; capacity = capacity }) first) cs)
    → get_or (run_to (opened (record { mode = mode; anchor = a; capacity = capacity }) first) cs).samples n silence
    ≡ get_or (run_to (opened (record { mode = mode; anchor = b; capacity = capacity }) second) ds).samples n silence)
    → point_less a (point_of (run_to (opened (record { mode = mode; anchor = a; capacity = capacity }) first) cs))
    ≡ point_less b (point_of (run_to (opened (record { mode = mode; anchor = b; capacity = capacity }) second) ds))
two_lists mode capacity a b first second cs ds h1 h2 flags same =
    let p : Plain = opened (record { mode = mode; anchor = a; capacity = capacity }) first in
    let q : Plain = opened (record { mode = mode; anchor = b; capacity = capacity }) second in
    let xs : List ℕ = flags_taken p cs in
    let ys : List Float = samples_to p (accepted_flags p cs) (accepted_samples p cs) in
    let zs : List Float = samples_to q (accepted_flags q ds) (accepted_samples q ds) in
    let left : (run_to p cs).samples ≡ first ++ ys =
    ap (λ (z : Plain). z.samples) (run_through p cs) ∙ through_samples p (accepted_flags p cs) (accepted_samples p cs) in
    let right : (run_to q ds).samples ≡ second ++ zs =
    ap (λ (z : Plain). z.samples) (run_through q ds) ∙ through_samples q (accepted_flags q ds) (accepted_samples q ds) in
    let reads : reads_of p xs ys ≡ list_reads p cs = reads_end p (accepted_flags p cs) (accepted_samples p cs) ∙ sym (list_reads_lem p cs) in
    let zlen : length zs ≡ 4 * length xs = taken_four q ds ∙ ap (λ (l : List ℕ). 4 * length l) (sym flags) in
    let v : Varied b (through (varied b second p) xs zs) (through p xs ys) =
    agree b p second xs ys zs h1 h2 (taken_four p cs) zlen
    (λ n m.
    ap (λ (l : List Float). get_or l n silence) (sym left)
    ∙ same n (subst (λ (l : List ℕ). Memᴰ n l) reads m)
    ∙ ap (λ (l : List Float). get_or l n silence) right) in
    let other : run_to q ds ≡ varied b v.samples (run_to p cs) =
    one_piece q ds ∙ ap (λ (l : List ℕ). through q l zs) (sym flags) ∙ v.same ∙ ap (varied b v.samples) (sym (one_piece p cs)) in
    let anchors : point_less a (point_of (run_to p cs)) ≡ point_less b (point_of (varied b v.samples (run_to p cs))) =
    ap (λ (t : Stage). record { stage = t; taken = length (run_to p cs).flags; evaluations = (run_to p cs).evaluations })
    (ap (λ (u : Setup). stage_less a (stage_of u.anchor (run_to p cs).phase)) (run_setup p cs)
    ∙ stage_less_lem a b (run_to p cs).phase) in
    anchors ∙ ap (λ (z : Plain). point_less b (point_of z)) (sym other)
