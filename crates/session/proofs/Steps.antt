-- What each step of a session does to the plain session that it stands for.
-- Assumes nothing.
use mathlib.Core.Path.{◌≡◌, refl, sym, ◌∙◌, ap}
use mathlib.Core.Bool.{Bool, true, false, false≢true, cond}
use mathlib.Core.List.{List}
use Prim.Native.Nat.{ℕ, ◌+◌, ◌-◌, ◌*◌, ◌/◌, ◌≤◌, ◌^◌}
use native.Mathlib.Omega.{arith}
use lib.ListN.{length, take, drop}
use lib.Seq.{length-take-le, take-take}
use lib.Ieee.{Float}
use borrow.Author.Tests.{eq-eqb, ne_eqb}
use Rattle.std.specs.Prelude.{Option, Some, None}
use Rattle.modespec.specs.ModeSpec.{spec_of}
use Rattle.hough.specs.Memory.{cleared}
use Rattle.sync.specs.declared.SyncResult.{SyncResult}
use Rattle.sync.specs.FindSync.{sync_result_of}
use Rattle.sync_start.specs.declared.Located.{Located}
use Rattle.sync_start.specs.declared.Evaluation.{Evaluation}
use Rattle.modespec.specs.Sizes.{robot, working_rate}
use Rattle.sync_start.specs.Evaluate.{evaluation_of}
use Rattle.sync_start.proofs.Evaluations.{streak_step, other_modes, position_small}
use Rattle.plain.specs.declared.Start.{Start}
use Rattle.plain.specs.declared.Phase.{Phase}
use Rattle.plain.specs.declared.Phase.TheVariants.{Searching, Collecting, Reported, Unfound, CutShort}
use Rattle.plain.specs.Plain.{Plain, evaluating_by, reporting_by, window_of, picture_of, ended_phase, due_at, full_at, flag_of, found_phase, evaluating, reporting, ending, end_of}
use Rattle.session.specs.declared.Session.{Session}
use Rattle.session.specs.Hold.{plain_of, position_of, work_after}
use Rattle.session.specs.Steps.{Kept, Judged, Finished, Closed}
use Rattle.plain.proofs.Lists.{drop_take}

-- ---- the evaluation

pub same_fields : (s : Session) → Kept s s
same_fields s = record { mode = refl; anchor = refl; capacity = refl; taken = refl }

judge_idle : (s : Session) (st : List ℕ) (sm : List Float) → s.streak ≤ s.evaluations
    → ((known : List Float) → evaluating (plain_of s st known) ≡ plain_of s st known) → Judged s st sm s
judge_idle s st sm h e =
    record { kept = same_fields s; plain = λ known _. sym (e known); evaluations = omega arith; streak = h; near = λ n. n }

not_searching : (h : Phase) → (h ≡ Searching → ⊥) → (p : Plain) → evaluating_by h p ≡ p
not_searching Searching k p = absurd (k refl)
not_searching (Collecting x) k p = refl
not_searching (Reported x r) k p = refl
not_searching Unfound k p = refl
not_searching (CutShort x) k p = refl

-- a session that is not searching is left as it is
pub judge_other : (s : Session) (st : List ℕ) (sm : List Float) → s.streak ≤ s.evaluations
    → (s.phase ≡ Searching → ⊥) → Judged s st sm s
unfolding evaluating
judge_other s st sm h k = judge_idle s st sm h (λ known. not_searching s.phase k (plain_of s st known))

pub search_idle : (s : Session) (st : List ℕ) (sm : List Float) → s.phase ≡ Searching → s.taken ≤ length st → s.streak ≤ s.evaluations
    → due_at s.mode s.taken ≡ false → Judged s st sm s
unfolding evaluating
search_idle s st sm e fits h idle = judge_idle s st sm h (λ known. rw (e, length-take-le s.taken st fits, idle))

-- the samples lent to an evaluation do for those known
heard : (mode j taken k streak : ℕ) (fl : List ℕ) (sm known : List Float) → k ≡ cond (robot mode) (4 * taken + 4) 0
    → (robot mode ≡ true → known ≡ take (4 * taken + 4) sm)
    → evaluation_of mode j fl (take k sm) streak ≡ evaluation_of mode j fl known streak
heard mode j taken k streak fl sm known e h = go (robot mode) refl
  where
    go : (b : Bool) → robot mode ≡ b → evaluation_of mode j fl (take k sm) streak ≡ evaluation_of mode j fl known streak
    go true r =
        let n : k ≡ 4 * taken + 4 = e ∙ ap (λ (b : Bool). cond b (4 * taken + 4) 0) r in
        ap (λ (l : List Float). evaluation_of mode j fl l streak) (ap (λ (i : ℕ). take i sm) n ∙ sym (h r))
    go false r = other_modes mode j fl (take k sm) known streak r

found_near : (l : Option Located) (q : Float) → ((x : Located) → l ≡ Some x → x.position ≤ 2 ^ 62) → position_of (found_phase l q) ≤ 2 ^ 62
found_near None q h = omega arith
found_near (Some x) q h = h x refl

pub search_done : (s : Session) (st : List ℕ) (sm : List Float) (made : Evaluation) (next : Phase) (k j : ℕ)
    → s.phase ≡ Searching → s.mode ≤ 15 → s.taken ≤ length st → s.taken ≤ 16777216 → s.streak ≤ s.evaluations
    → due_at s.mode s.taken ≡ true → j ≡ (s.taken - window_of s.mode) / 64
    → k ≡ cond (robot s.mode) (4 * s.taken + 4) 0
    → made ≡ evaluation_of s.mode j (take s.taken st) (take k sm) s.streak
    → next ≡ found_phase made.start made.quality
    → Judged s st sm (record s { evaluations = s.evaluations + 1; streak = made.streak; phase = next })
unfolding evaluating
search_done s st sm made next k j e low fits small h due hj hk hm hn =
    let grown : made.streak ≤ s.streak + 1 = rw hm (streak_step s.mode j (take s.taken st) (take k sm) s.streak) in
    let place : (x : Located) → made.start ≡ Some x → x.position ≤ 2 ^ 62 =
    λ x p. position_small s.mode j (take s.taken st) (take k sm) s.streak x low (omega arith) (ap (λ (v : Evaluation). v.start) (sym hm) ∙ p) in
    record {
      kept = record { mode = refl; anchor = refl; capacity = refl; taken = refl };
      plain = λ known hear.
          rw (e, length-take-le s.taken st fits, due, ← hj, ← heard s.mode j s.taken k s.streak (take s.taken st) sm known hk hear, ← hm, ← hn);
      evaluations = omega arith;
      streak = omega arith;
      near = λ _. rw hn (found_near made.start made.quality place);
    }

-- ---- the report

-- only a report changes the work memory
pub live_work : (h : Phase) (n : ℕ) (w : List ℕ) → ended_phase h ≡ false → work_after h n w ≡ w
live_work Searching n w e = refl
live_work (Collecting s) n w e = refl
live_work (Reported s r) n w e = absurd (false≢true (sym e))
live_work Unfound n w e = refl
live_work (CutShort s) n w e = refl

pub finish_idle : (s : Session) (st im vo : List ℕ) → ((known : List Float) → reporting (plain_of s st known) ≡ plain_of s st known)
    → Finished s st im vo s im vo
finish_idle s st im vo e =
    record {
      kept = same_fields s;
      plain = λ known. sym (e known);
      evaluations = refl;
      streak = refl;
      near = refl;
      image = λ l. sym (live_work s.phase 441000 im l);
      counts = λ l. sym (live_work s.phase 144000 vo l);
    }

not_collecting : (h : Phase) → ((x : Start) → h ≡ Collecting x → ⊥) → (p : Plain) → reporting_by h p ≡ p
not_collecting Searching k p = refl
not_collecting (Collecting x) k p = absurd (k x refl)
not_collecting (Reported x r) k p = refl
not_collecting Unfound k p = refl
not_collecting (CutShort x) k p = refl

-- a session that is not collecting is left as it is
pub finish_other : (s : Session) (st im vo : List ℕ) → ((x : Start) → s.phase ≡ Collecting x → ⊥) → Finished s st im vo s im vo
unfolding reporting
finish_other s st im vo k = finish_idle s st im vo (λ known. not_collecting s.phase k (plain_of s st known))

pub collect_idle : (s : Session) (x : Start) (st im vo : List ℕ) → s.phase ≡ Collecting x → s.taken ≤ length st
    → (s.taken ≡ full_at s.mode x → ⊥) → Finished s st im vo s im vo
unfolding reporting
collect_idle s x st im vo e fits before =
    finish_idle s st im vo (λ known. rw (e, length-take-le s.taken st fits, ne_eqb s.taken (full_at s.mode x) before))

pub collect_done : (s : Session) (x : Start) (st im vo im' vo' : List ℕ) (r : SyncResult) (f t : ℕ)
    → s.phase ≡ Collecting x → s.taken ≤ length st → s.taken ≡ t → t ≡ full_at s.mode x → f ≡ flag_of x
    → r ≡ sync_result_of (spec_of s.mode) working_rate (take (t - f) (drop f st))
    → im' ≡ cleared 441000 im → vo' ≡ cleared 144000 vo
    → Finished s st im vo (record s { phase = Reported x r }) im' vo'
unfolding reporting
collect_done s x st im vo im' vo' r f t e fits at full hf hr hi hv =
    let size : t - f ≡ picture_of s.mode = omega arith in
    let part : take (picture_of s.mode) (drop f (take s.taken st)) ≡ take (t - f) (drop f st) =
    rw (at, drop_take f t st, ← size, take-take (t - f) (t - f) (drop f st) (omega arith)) in
    record {
      kept = record { mode = refl; anchor = refl; capacity = refl; taken = refl };
      plain = λ known. rw (e, length-take-le s.taken st fits, eq-eqb s.taken (full_at s.mode x) (at ∙ full), ← hf, part, ← hr);
      evaluations = refl;
      streak = refl;
      near = rw e;
      image = λ _. hi;
      counts = λ _. hv;
    }

-- ---- the end

end_live : (h : Phase) → ended_phase (end_of h) ≡ false → ⊥
end_live Searching e = false≢true (sym e)
end_live (Collecting s) e = false≢true (sym e)
end_live (Reported s r) e = false≢true (sym e)
end_live Unfound e = false≢true (sym e)
end_live (CutShort s) e = false≢true (sym e)

end_work : (h : Phase) (n : ℕ) (w : List ℕ) → work_after (end_of h) n w ≡ work_after h n w
end_work Searching n w = refl
end_work (Collecting s) n w = refl
end_work (Reported s r) n w = refl
end_work Unfound n w = refl
end_work (CutShort s) n w = refl

end_near : (h : Phase) → position_of (end_of h) ≡ position_of h
end_near Searching = refl
end_near (Collecting s) = refl
end_near (Reported s r) = refl
end_near Unfound = refl
end_near (CutShort s) = refl

pub close_idle : (s : Session) → (s.taken ≡ s.capacity → ⊥) → Closed s s
unfolding ending
close_idle s before =
    record {
      kept = same_fields s;
      plain = λ st known fits. rw (length-take-le s.taken st fits, ne_eqb s.taken s.capacity before);
      evaluations = refl;
      streak = refl;
      near = refl;
      live = λ _ e. before e;
      work = λ n w. refl;
    }

pub close_done : (s : Session) (h : Phase) → s.taken ≡ s.capacity → h ≡ end_of s.phase → Closed s (record s { phase = h })
unfolding ending
close_done s h at e =
    record {
      kept = record { mode = refl; anchor = refl; capacity = refl; taken = refl };
      plain = λ st known fits. rw (length-take-le s.taken st fits, eq-eqb s.taken s.capacity at, ← e);
      evaluations = refl;
      streak = refl;
      near = ap position_of e ∙ end_near s.phase;
      live = λ l _. end_live s.phase (ap ended_phase (sym e) ∙ l);
      work = λ n w. ap (λ (p : Phase). work_after p n w) e ∙ end_work s.phase n w;
    }
