-- A chunk: stored, then asked for evaluation, report and end.
-- Assumes nothing.
use mathlib.Core.Path.{◌≡◌, refl, sym, ◌∙◌, ap}
use mathlib.Core.Bool.{true, false}
use mathlib.Core.List.{List, ◌++◌}
use Prim.Native.Nat.{ℕ, ◌+◌, ◌*◌, ◌≤◌, ◌<◌, ◌^◌}
use native.Mathlib.Omega.{arith}
use lib.ListN.{length, take}
use lib.Seq.{paste, length-paste, take-paste, take-length}
use lib.Ieee.{Float}
use Rattle.modespec.specs.Sizes.{robot}
use Rattle.plain.specs.Plain.{Plain, ended_phase, reporting, ending, events, joined}
use Rattle.plain.proofs.Laws.{evaluating_live}
use Rattle.session.specs.declared.Session.{Session}
use Rattle.session.specs.Hold.{setup_of, plain_of, Known, position_of, Sane, kept_at}
use Rattle.session.specs.Steps.{Judged, Finished, Closed, Turned}
use Rattle.session_parts.proofs.Kept.{known_more}

abbrev pub grown : Session → ℕ → Session
grown s n = record s { taken = s.taken + n }

-- ---- the whole chunk

pub turn_done : (s : Session) (st : List ℕ) (sm : List Float) (im vo fl : List ℕ) (ys : List Float) (j f r : Session)
    (st' : List ℕ) (sm' : List Float) (im' vo' : List ℕ)
    → Sane s → ended_phase s.phase ≡ false → s.capacity ≡ length st → (robot s.mode ≡ true → 4 * s.capacity + 4 ≤ length sm)
    → 0 < length fl → s.taken + length fl ≤ length st → length ys ≡ 4 * length fl
    → st' ≡ paste st s.taken fl (length fl)
    → sm' ≡ kept_at s.mode (4 * s.taken + 4) ys (length ys) sm
    → Judged (grown s (length fl)) st' sm' j → Finished j st' im vo f im' vo' → Closed f r
    → Turned s st sm im vo fl ys r st' sm' im' vo'
turn_done s st sm im vo fl ys j f r st' sm' im' vo' sane live cap wide some fits size stored hsm hj hf hr =
    let same : length st' ≡ length st = rw stored (length-paste st s.taken fl (length fl) fits (omega arith)) in
    let front : take (s.taken + length fl) st' ≡ take s.taken st ++ fl =
    rw (stored, take-paste st s.taken fl (length fl) (omega arith) (omega arith), take-length) in
    let jtaken : j.taken ≡ s.taken + length fl = hj.kept.taken in
    let ftaken : f.taken ≡ s.taken + length fl = hf.kept.taken ∙ jtaken in
    let rtaken : r.taken ≡ s.taken + length fl = hr.kept.taken ∙ ftaken in
    let rcap : r.capacity ≡ s.capacity = hr.kept.capacity ∙ hf.kept.capacity ∙ hj.kept.capacity in
    let rmode : r.mode ≡ s.mode = hr.kept.mode ∙ hf.kept.mode ∙ hj.kept.mode in
    let ranchor : r.anchor ≡ s.anchor = hr.kept.anchor ∙ hf.kept.anchor ∙ hj.kept.anchor in
    let room : robot s.mode ≡ true → 4 * s.taken + 4 + length ys ≤ length sm = λ b. let w = wide b in omega arith in
    let known : (known : List Float) → Known s sm known → robot s.mode ≡ true → known ++ ys ≡ take (4 * (s.taken + length fl) + 4) sm' =
    λ known h. rw hsm (known_more s.mode s.taken (length fl) sm ys known h room size) in
    let some_known : List Float = take (4 * s.taken + 4) sm in
    let jlive : ended_phase j.phase ≡ false =
    ap (λ (p : Plain). ended_phase p.phase) (hj.plain (some_known ++ ys) (known some_known (λ _. refl)))
    ∙ evaluating_live (setup_of s) (take (s.taken + length fl) st') (some_known ++ ys) s.evaluations s.streak s.phase live in
    let added : (known : List Float) → plain_of (grown s (length fl)) st' (known ++ ys) ≡ joined (plain_of s st known) fl ys = λ known. rw front in
    let small = sane.small in
    let mode = sane.mode in
    let anchor = sane.anchor in
    let evals = sane.evaluations in
    let je : j.evaluations ≤ s.evaluations + 1 = hj.evaluations in
    let re : r.evaluations ≡ j.evaluations = hr.evaluations ∙ hf.evaluations in
    let rs : r.streak ≡ j.streak = hr.streak ∙ hf.streak in
    let js : j.streak ≤ j.evaluations = hj.streak in
    let jn : position_of j.phase ≤ 2 ^ 62 = hj.near sane.near in
    let rn : position_of r.phase ≡ position_of j.phase = hr.near ∙ hf.near in
    record {
      plain = λ k h.
          hr.plain st' (k ++ ys) (omega arith)
          ∙ ap ending (hf.plain (k ++ ys))
          ∙ ap (λ (p : Plain). ending (reporting p)) (hj.plain (k ++ ys) (known k h))
          ∙ ap events (added k);
      known = λ k h. rw (rmode, rtaken) (known k h);
      mode = rmode;
      taken = rtaken;
      capacity = rcap;
      sane = record {
        mode = omega arith;
        anchor = omega arith;
        small = omega arith;
        room = omega arith;
        evaluations = omega arith;
        streak = omega arith;
        near = omega arith;
        live = λ l. let no_end : r.taken ≡ r.capacity → ⊥ = hr.live l in omega arith;
      };
      stored = stored;
      sampled = hsm;
      image = hf.image jlive ∙ sym (hr.work 441000 im);
      counts = hf.counts jlive ∙ sym (hr.work 144000 vo);
    }
