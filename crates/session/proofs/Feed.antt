-- The answers of a feed, against those of the plain session.
-- Assumes nothing.
use mathlib.Core.Path.{◌≡◌, refl, sym, ◌∙◌, ap, subst}
use mathlib.Core.Bool.{true, false}
use mathlib.Core.List.{List, ◌++◌}
use Prim.Native.Nat.{ℕ, ◌+◌, ◌-◌, ◌*◌, ◌≤◌, ◌<◌}
use native.Mathlib.Omega.{arith}
use lib.ListN.{length, take, get_or}
use lib.Seq.{length-take-le, paste, paste-zero, length-paste, take-paste, get_or-take, get_or-append-add}
use lib.Ieee.{Float}
use Rattle.std.specs.Prelude.{Result, Ok}
use Rattle.limits.specs.declared.Refusal.{Refusal}
use Rattle.modespec.specs.Sizes.{robot}
use Rattle.plain.specs.Plain.{Plain, ended_phase, through}
use Rattle.plain.specs.Calls.{took, answer, after, feed_refusal}
use Rattle.session.specs.declared.Session.{Session}
use Rattle.session.specs.Hold.{setup_of, lengths, plain_of, Sane, Holds, FeedMeets, feed_call}
use Rattle.session.specs.Steps.{Ran}
use Rattle.session_parts.proofs.Kept.{kept_length, kept_none}
use Rattle.session.proofs.Steps.{live_work}
use Rattle.plain.proofs.Refusals.{refusal_parts, room_of_memory, room_of_sound}
use Rattle.session.proofs.Loop.{Room}

-- ---- a feed that is not refused

pub feed_room : (s : Session) (st : List ℕ) (sm : List Float) (im vo fl : List ℕ) (ys : List Float)
    → feed_refusal (setup_of s) s.phase (lengths (length st) (length sm) (length im) (length vo)) fl ys ≡ Ok tt → Room s st sm im vo fl ys
feed_room s st sm im vo fl ys e =
    let k = refusal_parts (setup_of s) s.phase (lengths (length st) (length sm) (length im) (length vo)) fl ys e in
    let m = room_of_memory s.mode s.capacity (lengths (length st) (length sm) (length im) (length vo)) k.0 in
    let o = room_of_sound fl ys k.1 in
    record { kept = sym m.0; wide = m.1; image = m.2; counts = m.3; short = o.0; four = o.1 }

pub feed_live : (s : Session) (st : List ℕ) (sm : List Float) (im vo fl : List ℕ) (ys : List Float)
    → feed_refusal (setup_of s) s.phase (lengths (length st) (length sm) (length im) (length vo)) fl ys ≡ Ok tt → ended_phase s.phase ≡ false
feed_live s st sm im vo fl ys e = (refusal_parts (setup_of s) s.phase (lengths (length st) (length sm) (length im) (length vo)) fl ys e).2

-- ---- the three ways of a feed

module _ (s : Session) (st : List ℕ) (sm : List Float) (im vo fl : List ℕ) (ys : List Float) where
  abbrev refusal_of : Result Unit Refusal
  refusal_of = feed_refusal (setup_of s) s.phase (lengths (length st) (length sm) (length im) (length vo)) fl ys

  -- a record that no session handed back
  pub feed_strange : refusal_of ≡ Ok tt → ended_phase s.phase ≡ false → (Sane s → ⊥) → FeedMeets s st sm im vo fl ys (Ok (record { taken = 0; session = s })) st sm im vo
  feed_strange none live strange =
      record {
        number = none;
        count = omega arith;
        room = λ h. absurd (omega arith);
        stored = paste-zero st s.taken fl;
        sampled = kept_none s.mode (4 * s.taken + 4) sm ys;
        image = sym (live_work s.phase 441000 im live);
        counts = sym (live_work s.phase 144000 vo live);
        plain = λ p h. absurd (strange h.sane);
      }

  pub feed_taken : (n : ℕ) (r : Session) (st' : List ℕ) (sm' : List Float) (im' vo' : List ℕ) → refusal_of ≡ Ok tt
      → Ran s st sm im vo fl ys n r st' sm' im' vo' → FeedMeets s st sm im vo fl ys (Ok (record { taken = n; session = r })) st' sm' im' vo'
  feed_taken n r st' sm' im' vo' none t =
      let given = feed_room s st sm im vo fl ys none in
      let kept = given.kept in
      let four = given.four in
      let count = t.count in
      let room = t.room in
      let taken = t.taken in
      let rcap = t.capacity in
      let size : length st' ≡ length st = ap length t.stored ∙ length-paste st s.taken fl n t.room t.count in
      let wide : robot s.mode ≡ true → 4 * s.taken + 4 + 4 * n ≤ length sm = λ b. let w = given.wide b in omega arith in
      let audio : length sm' ≡ length sm = ap length t.sampled ∙ kept_length s.mode (4 * s.taken + 4) sm ys (4 * n) wide (omega arith) in
      let before : length (take s.taken st) ≡ s.taken = length-take-le s.taken st (omega arith) in
      let now_len : length (take r.taken st') ≡ r.taken = length-take-le r.taken st' (omega arith) in
      record {
        number = none;
        count = t.count;
        room = λ _. (omega arith, sym kept);
        stored = t.stored;
        sampled = t.sampled;
        image = t.image;
        counts = t.counts;
        plain = λ p h.
            let known = p.samples in
            let q = plain_of s st known in
            let e : plain_of r st' (known ++ take (4 * n) ys) ≡ through q fl ys = t.plain known h.known in
            let whole : length (through q fl ys).flags ≡ r.taken = ap (λ (x : Plain). length x.flags) (sym e) ∙ now_len in
            let answered : length (through q fl ys).flags - length (take s.taken st) ≡ n = omega arith in
            let holds : Holds (plain_of r st' (known ++ take (4 * n) ys)) r st' sm' =
            record {
              same = refl;
              known = t.known known h.known;
              whole = size ∙ sym kept ∙ sym rcap;
              wide = λ b. let w = given.wide (ap robot (sym t.mode) ∙ b) in omega arith;
              sane = t.sane;
            } in
            subst (λ (x : Plain). (took n ≡ answer x (feed_call st sm im vo fl ys)) × Holds (after x (feed_call st sm im vo fl ys)) r st' sm') h.same
            (rw (none, answered), rw none (subst (λ (x : Plain). Holds x r st' sm') e holds));
      }

-- ---- a fed flag is in the store

pub fed_stored : (s : Session) (st : List ℕ) (sm : List Float) (im vo fl : List ℕ) (ys : List Float) (n : ℕ) (r : Session)
    (st' : List ℕ) (sm' : List Float) (im' vo' : List ℕ) → FeedMeets s st sm im vo fl ys (Ok (record { taken = n; session = r })) st' sm' im' vo'
    → (k : ℕ) → k < n → get_or st' (s.taken + k) 0 ≡ get_or fl k 0
fed_stored s st sm im vo fl ys n r st' sm' im' vo' m k h =
    let room = m.room (omega arith) in
    let fits = room.0 in
    let whole = room.1 in
    let count = m.count in
    let t = s.taken in
    let before : length (take t st) ≡ t = length-take-le t st (omega arith) in
    ap (λ (l : List ℕ). get_or l (t + k) 0) m.stored
    ∙ sym (get_or-take (t + n) (paste st t fl n) (t + k) 0 (omega arith))
    ∙ ap (λ (l : List ℕ). get_or l (t + k) 0) (take-paste st t fl n (omega arith) (omega arith))
    ∙ ap (λ (i : ℕ). get_or (take t st ++ take n fl) (i + k) 0) (sym before)
    ∙ get_or-append-add (take t st) (take n fl) k 0
    ∙ get_or-take n fl k 0 h
