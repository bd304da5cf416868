-- What a session's start and report can hold, along a list of calls on the plain session (02-change-requests.md, A.1, A.3): a feed that is not
-- refused has flags of 0 and 1 alone, so each quality, count and report is one of theirs.
-- Assumes nothing.
use mathlib.Core.Path.{◌≡◌, refl, sym, ◌∙◌, ap}
use mathlib.Core.Bool.{false, cond}
use mathlib.Core.List.{List, [], ◌∷◌, ◌++◌}
use Prim.Native.Nat.{ℕ, ◌≤◌}
use lib.ListN.{length, take, drop, take-append-drop}
use lib.Dec.{eqb}
use lib.Ieee.{Float}
use Rattle.std.proofs.lemmas.Bool.{cond_both, or_from, or_parts}
use Rattle.std.specs.Prelude.{Option, None, Some}
use Rattle.limits.specs.Refusals.{is_allowed}
use Rattle.limits.specs.Ranges.{all_at_most, any_above}
use Rattle.limits.proofs.Causes.{allowed_is_ok}
use Rattle.sync_start.specs.declared.Located.{Located}
use Rattle.sync_start.specs.Evaluate.{evaluation_by, evaluation_of, taken_at}
use Rattle.plain.specs.declared.Phase.{Phase}
use Rattle.plain.specs.declared.Phase.TheVariants.{Searching, Collecting, Unfound}
use Rattle.plain.specs.Plain.{Setup, Plain, picture_of, ended_phase, due_at, found_phase, evaluation_at, evaluating, evaluating_by, evaluated_by, flag_of, full_at, reporting, reporting_by, reported, ending, with_phase, end_of, events, joined, step, through, opened}
use Rattle.plain.specs.Calls.{Call, feed, read, feed_refusal, after, run_to}
use Rattle.plain.specs.Lists.{accepted_flags, accepted_samples}
use Rattle.plain.proofs.Refusals.{clean_of, refusal_parts}
use Rattle.plain.proofs.Cuts.{above_append}
use Rattle.plain.proofs.Lists.{run_through}
use Rattle.sync_start.proofs.Evaluations.{start_windows}
use Rattle.report_range.specs.Report.{Part, SoundPhase}
use Rattle.report_range.proofs.QualityRange.{window_part}
use Rattle.report_range.proofs.Report.{report_sound}

-- ---- flags at most 1

abbrev Low : List ℕ → Type 0
Low flags = any_above flags ≡ false

low_none : Low []
unfolding all_at_most
low_none = refl

low_append : (xs ys : List ℕ) → Low xs → Low ys → Low (xs ++ ys)
low_append xs ys a b = above_append xs ys ∙ or_from (any_above xs) (any_above ys) a b

-- in two parts
low_parts : (n : ℕ) (xs : List ℕ) → Low xs → Low (take n xs) × Low (drop n xs)
low_parts n xs h =
    or_parts (any_above (take n xs)) (any_above (drop n xs))
    (sym (above_append (take n xs) (drop n xs)) ∙ ap (λ (l : List ℕ). any_above l) (take-append-drop n xs) ∙ h)

-- the flags of the feeds that were not refused
accepted_low : (p : Plain) (cs : List Call) → Low (accepted_flags p cs)
unfolding accepted_flags
accepted_low p [] = low_none
accepted_low p (feed m xs ys ∷ cs) =
    low_append (cond (is_allowed (feed_refusal p.setup p.phase m xs ys)) xs []) (accepted_flags (after p (feed m xs ys)) cs)
    (cond_both (is_allowed (feed_refusal p.setup p.phase m xs ys)) xs [] Low
    (λ e. (clean_of xs ys (refusal_parts p.setup p.phase m xs ys (allowed_is_ok _ e)).1).flags) (λ e. low_none))
    (accepted_low (after p (feed m xs ys)) cs)
accepted_low p (read ∷ cs) = accepted_low p cs

-- ---- events

evaluation_part : (mode j : ℕ) (flags : List ℕ) (samples : List Float) (streak : ℕ) → Part (evaluation_of mode j flags samples streak).quality
unfolding evaluation_of evaluation_by
evaluation_part mode j flags samples streak = window_part mode j (take (taken_at mode j) flags)

abbrev Sound : Plain → Type 0
Sound p = Low p.flags × SoundPhase p.phase

found_sound : (l : Option Located) (q : Float) → Part q → ((at : Located) → l ≡ Some at → (1 ≤ at.windows) × (at.windows ≤ 700)) → SoundPhase (found_phase l q)
found_sound None q h k = tt
found_sound (Some at) q h k = record { quality = h; some = (k at refl).0; most = (k at refl).1 }

evaluating_sound : (h : Phase) (p : Plain) → Sound p → Sound (evaluating_by h p)
evaluating_sound Searching p s =
    cond_both (due_at p.setup.mode (length p.flags)) (evaluated_by p (evaluation_at p)) p Sound
    (λ d. (s.0, found_sound (evaluation_at p).start (evaluation_at p).quality (evaluation_part p.setup.mode _ p.flags p.samples p.streak) (start_windows p.setup.mode _ p.flags p.samples p.streak)))
    (λ d. s)
evaluating_sound _ p s = s

reporting_sound : (h : Phase) (p : Plain) → SoundPhase h → Sound p → Sound (reporting_by h p)
reporting_sound (Collecting x) p k s =
    let mode = p.setup.mode in
    let from = drop (flag_of x) p.flags in
    cond_both (eqb (length p.flags) (full_at mode x)) (reported p x) p Sound
    (λ d. (s.0, (k, report_sound mode (take (picture_of mode) from) (low_parts (picture_of mode) from (low_parts (flag_of x) p.flags s.0).1).0)))
    (λ d. s)
reporting_sound _ p k s = s

end_sound : (h : Phase) → SoundPhase h → SoundPhase (end_of h)
end_sound Searching k = tt
end_sound Unfound k = tt
end_sound _ k = k

ending_sound : (p : Plain) → Sound p → Sound (ending p)
unfolding ending
ending_sound p s = cond_both (eqb (length p.flags) p.setup.capacity) (with_phase p (end_of p.phase)) p Sound (λ d. (s.0, end_sound p.phase s.1)) (λ d. s)

events_sound : (p : Plain) → Sound p → Sound (events p)
unfolding evaluating reporting
events_sound p s =
    let a = evaluating_sound p.phase p s in
    let q : Plain = evaluating_by p.phase p in
    ending_sound (reporting_by q.phase q) (reporting_sound q.phase q a.1 a)

-- ---- along a list of calls

step_sound : (p : Plain) (x : ℕ) (four : List Float) → Low (x ∷ []) → Sound p → Sound (step p x four)
unfolding step
step_sound p x four l s =
    let j : Plain = joined p (x ∷ []) four in
    cond_both (ended_phase p.phase) p (events j) Sound (λ e. s) (λ e. events_sound j (low_append p.flags (x ∷ []) s.0 l, s.1))

through_sound : (p : Plain) (xs : List ℕ) (ys : List Float) → Low xs → Sound p → Sound (through p xs ys)
unfolding through
through_sound p [] ys l s = s
through_sound p (x ∷ xs) ys l s =
    let c = low_parts 1 (x ∷ xs) l in
    through_sound (step p x (take 4 ys)) xs (drop 4 ys) c.1 (step_sound p x (take 4 ys) c.0 s)

pub sound_phase : (u : Setup) (first : List Float) (cs : List Call) → SoundPhase (run_to (opened u first) cs).phase
sound_phase u first cs =
    let p : Plain = opened u first in
    let s : Sound (run_to p cs) = rw (run_through p cs) (through_sound p (accepted_flags p cs) (accepted_samples p cs) (accepted_low p cs) (low_none, tt)) in
    s.1
