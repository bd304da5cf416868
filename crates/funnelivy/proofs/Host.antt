-- Demand 3 and the card at the C interface: a host's list of calls, each with the record last returned, is a list of calls on one session. So
-- the theorems on such lists hold of it.
-- Assumes nothing.
use mathlib.Core.Path.{◌≡◌, refl, sym, ◌∙◌, ap, subst}
use mathlib.Core.Bool.{false}
use mathlib.Core.List.{List, ◌∷◌, Memᴰ}
use Prim.Native.Nat.{ℕ}
use native.Mathlib.Omega.{arith}
use lib.Dec.{eqb}
use lib.ListN.{length, get_or}
use lib.Ieee.{Float}
use borrow.Author.Tests.{eq-eqb, ne_eqb}
use Rattle.std.specs.Prelude.{None, Some, Result, Ok, Err}
use Rattle.limits.specs.declared.Refusal.{Refusal}
use Rattle.limits.specs.declared.Refusal.TheVariants as why
use Rattle.limits.specs.Refusals.{number_of, number_or_zero}
use Rattle.limits.proofs.Causes.{number_positive}
use Rattle.plain.specs.declared.End.{End}
use Rattle.plain.specs.declared.End.TheVariants as end
use Rattle.plain.specs.declared.Phase.{Phase}
use Rattle.plain.specs.declared.Phase.TheVariants.{Searching, Collecting, Reported, Unfound, CutShort}
use Rattle.plain.specs.Plain.{Plain, ended_phase, opened}
use Rattle.plain.specs.Point.{Point, point_of, point_less, end_stage, FromAnchor}
use Rattle.plain.specs.Calls.{Call, read, Answer, gave, refused, answer, answer_by, answers, read_refusal, run_to}
use Rattle.session.specs.declared.Session.{Session}
use Rattle.plain.specs.declared.Reading.{Reading}
use Rattle.session.specs.declared.Fed.{Fed}
use Rattle.session.specs.Hold as hold
use Rattle.session.specs.Hold.{OpenMeets, FeedMeets, answer_of, given_by, given_of, feed_call, setup, session_point}
use Rattle.session.specs.Trace as list
use Rattle.session.specs.Trace.{Trace}
use Rattle.plain.specs.Lists.{flags_taken, list_reads}
use Rattle.plain.proofs.TwoLists.{silence}
use Rattle.session.proofs.Demand3.{follows, as_plain, start_from_anchor, same_point}
use Rattle.card.specs.Card as card
use Rattle.ledger.specs.Entry.{point_ledger}
use Rattle.ledger.specs.Back.{CardBack}
use Rattle.ledger.proofs.ReadsBack.{session_card_lem, no_card_lem}
use Rattle.c_record.specs.declared.FunnelivySession.{FunnelivySession}
use Rattle.c_record.specs.declared.FunnelivyOpened.{FunnelivyOpened}
use Rattle.c_record.specs.declared.FunnelivyFed.{FunnelivyFed}
use Rattle.c_record.specs.declared.FunnelivyReading.{FunnelivyReading}
use Rattle.c_record.specs.Record.{session_of}
use Rattle.c_record.specs.Session.{opened_wire, fed_wire, end_wire, reading_wire}
use Rattle.c_record.proofs.RoundTrip.{round_trip}
use Rattle.c_card.specs.declared.FunnelivyCardAnswer.{FunnelivyCardAnswer}
use Rattle.c_card.specs.Cards.{refused_by, read_wire}
use Rattle.funnelivy.specs.Session.{OpenedMeets, FedMeets, ReadingMeets}
use Rattle.funnelivy.specs.Cards.{session_card_answer}
use Rattle.funnelivy.specs.Host.{HostTrace, done, feeds, reads, lends, changes, refusal_by, fed_answer, next_of, reading_point, read_answer, Followed, HostCard}

-- ---- what the numbers say is what the inner answer says

-- a refusal's number is not 0
some_number : (e : Refusal) → eqb (number_of e) 0 ≡ false
some_number e = ne_eqb (number_of e) 0 (let l = number_positive e in omega arith)

-- and names it
pub refusal_named : (e : Refusal) → refusal_by (number_of e) ≡ e
refusal_named = elim [
  | why.Mode ↦ refl
  | why.Rate ↦ refl
  | why.Shift ↦ refl
  | why.Anchor ↦ refl
  | why.Memory ↦ refl
  | why.Length ↦ refl
  | why.Flag ↦ refl
  | why.Sample ↦ refl
  | why.Count ↦ refl
  | why.Ended ↦ refl
  | why.NotEnded ↦ refl
  | why.CardLength ↦ refl
  | why.CardMark ↦ refl
  | why.CardField ↦ refl
]

record FedSame (w : FunnelivySession) (r : FunnelivyFed) (x : Result Fed Refusal) : Type 0 where
  answer : fed_answer r ≡ answer_of x
  next : session_of (next_of w r) ≡ hold.next_of (session_of w) x

fed_same : (w : FunnelivySession) (x : Result Fed Refusal) → FedSame w (fed_wire x) x
fed_same w (Ok f) = record { answer = refl; next = round_trip f.session }
fed_same w (Err e) = record { answer = rw (some_number e) (ap refused (refusal_named e)); next = rw (some_number e) }

gave_same : (e : End) (t n : ℕ) → read_answer (end_wire e t n) ≡ gave (record { stage = end_stage e; taken = t; evaluations = n })
gave_same (end.Reported x w q rate None skip y) t n = refl
gave_same (end.Reported x w q rate (Some d) skip y) t n = refl
gave_same end.Unfound t n = refl
gave_same (end.CutShort x w q) t n = refl

given_same : (g : Result Reading Refusal) → read_answer (reading_wire g) ≡ given_of g
given_same (Ok g) = gave_same g.end g.taken g.evaluations
given_same (Err e) = rw (some_number e) (ap refused (refusal_named e))

reading_same : (w : FunnelivySession) (r : FunnelivyReading) (m : ReadingMeets w r) → read_answer r ≡ given_of m.given
reading_same w r m = ap read_answer m.is ∙ given_same m.given

-- The refusal that a host reads off a refused feed or read has the number that the record says.
pub fed_number : (w : FunnelivySession) (st : List ℕ) (sm : List Float) (im vo fl : List ℕ) (ys : List Float) (r : FunnelivyFed) (st' : List ℕ) (sm' : List Float) (im' vo' : List ℕ)
    → FedMeets w st sm im vo fl ys r st' sm' im' vo' → (r.refusal ≡ 0 → ⊥) → number_of (refusal_by r.refusal) ≡ r.refusal
fed_number w st sm im vo fl ys r st' sm' im' vo' m some = go m.fed (ap (λ (x : FunnelivyFed). x.refusal) m.is)
  where
    go : (x : Result Fed Refusal) → r.refusal ≡ (fed_wire x).refusal → number_of (refusal_by r.refusal) ≡ r.refusal
    go (Ok f) e = absurd (some e)
    go (Err d) e = rw e (ap number_of (refusal_named d))

pub read_number : (w : FunnelivySession) (r : FunnelivyReading) → ReadingMeets w r → (r.refusal ≡ 0 → ⊥) → number_of (refusal_by r.refusal) ≡ r.refusal
read_number w r m some = go m.given (ap (λ (x : FunnelivyReading). x.refusal) m.is)
  where
    ended_number : (e : End) (t n : ℕ) → (end_wire e t n).refusal ≡ 0
    ended_number (end.Reported x w q rate slant skip y) t n = refl
    ended_number end.Unfound t n = refl
    ended_number (end.CutShort x w q) t n = refl

    go : (g : Result Reading Refusal) → r.refusal ≡ (reading_wire g).refusal → number_of (refusal_by r.refusal) ≡ r.refusal
    go (Ok g) e = absurd (some (e ∙ ended_number g.end g.taken g.evaluations))
    go (Err d) e = rw e (ap number_of (refusal_named d))

-- ---- a host's list is a list on the session that its record says

-- a refused feed over other stores
lent_list : (w : FunnelivySession) (st : List ℕ) (sm : List Float) (os : List ℕ) (oy : List Float) (im vo fl : List ℕ) (ys : List Float) (x : Result Fed Refusal)
    (os₁ : List ℕ) (oy₁ : List Float) (im₁ vo₁ : List ℕ) (cs : List Call) (as' : List Answer) (z : Session) (st' : List ℕ) (sm' : List Float)
    → FeedMeets (session_of w) os oy im vo fl ys x os₁ oy₁ im₁ vo₁ → ((fed_wire x).refusal ≡ 0 → ⊥) → Trace (session_of w) st sm cs as' z st' sm'
    → Trace (session_of w) st sm (feed_call os oy im vo fl ys ∷ cs) (refused (refusal_by (fed_wire x).refusal) ∷ as') z st' sm'
lent_list w st sm os oy im vo fl ys (Ok f) os₁ oy₁ im₁ vo₁ cs as' z st' sm' m some t = absurd (some refl)
lent_list w st sm os oy im vo fl ys (Err e) os₁ oy₁ im₁ vo₁ cs as' z st' sm' m some t =
    subst (λ (d : Refusal). Trace (session_of w) st sm (feed_call os oy im vo fl ys ∷ cs) (refused d ∷ as') z st' sm') (sym (refusal_named e))
    (list.lent (session_of w) st sm os oy im vo fl ys e os₁ oy₁ im₁ vo₁ cs as' z st' sm' m t)

traced : {w : FunnelivySession} {st : List ℕ} {sm : List Float} {cs : List Call} {as' : List Answer} {z : FunnelivySession} {st' : List ℕ} {sm' : List Float}
    → HostTrace w st sm cs as' z st' sm' → Trace (session_of w) st sm cs as' (session_of z) st' sm'
traced (done w st sm) = list.done (session_of w) st sm
traced (feeds w st sm im vo fl ys r st₁ sm₁ im₁ vo₁ cs as' z st' sm' m t) =
    let call : Call = feed_call st sm im vo fl ys in
    let same : FedSame w r m.fed = subst (λ (x : FunnelivyFed). FedSame w x m.fed) (sym m.is) (fed_same w m.fed) in
    subst (λ (a : Answer). Trace (session_of w) st sm (call ∷ cs) (a ∷ as') (session_of z) st' sm') (sym same.answer)
    (list.fed (session_of w) st sm im vo fl ys m.fed st₁ sm₁ im₁ vo₁ cs as' (session_of z) st' sm' m.meets
    (subst (λ (s : Session). Trace s st₁ sm₁ cs as' (session_of z) st' sm') same.next (traced t)))
traced (reads w st sm r cs as' z st' sm' m t) =
    subst (λ (a : Answer). Trace (session_of w) st sm (read ∷ cs) (a ∷ as') (session_of z) st' sm') (sym (reading_same w r m))
    (list.gave (session_of w) st sm m.given cs as' (session_of z) st' sm' m.meets (traced t))
traced (lends w st sm os oy im vo fl ys r os₁ oy₁ im₁ vo₁ cs as' z st' sm' m some t) =
    let number : r.refusal ≡ (fed_wire m.fed).refusal = ap (λ (x : FunnelivyFed). x.refusal) m.is in
    subst (λ (k : ℕ). Trace (session_of w) st sm (feed_call os oy im vo fl ys ∷ cs) (refused (refusal_by k) ∷ as') (session_of z) st' sm') (sym number)
    (lent_list w st sm os oy im vo fl ys m.fed os₁ oy₁ im₁ vo₁ cs as' (session_of z) st' sm' m.meets (λ e. some (number ∙ e)) (traced t))
traced (changes w st sm other cs as' z st' sm' e t) = list.another (session_of w) st sm other cs as' (session_of z) st' sm' e (traced t)

-- ---- from an open that was not refused

module _ (mode anchor : ℕ) (st : List ℕ) (sm first sm₀ : List Float) where
  from_open : (x : Result Session Refusal) → OpenMeets mode anchor st sm first x sm₀ → (opened_wire x).refusal ≡ 0
      → {cs : List Call} {as' : List Answer} {z : FunnelivySession} {st' : List ℕ} {sm' : List Float}
      → HostTrace (opened_wire x).session st sm₀ cs as' z st' sm' → Followed mode anchor st sm first sm₀ cs as' z st' sm'
  from_open (Ok s) m e {cs} {as'} {z} {st'} {sm'} t =
      record {
        session = s;
        opened = m;
        trace = subst (λ (x : Session). Trace x st sm₀ cs as' (session_of z) st' sm') (round_trip s) (traced t);
      }
  from_open (Err d) m e t = absurd (let l = number_positive d in omega arith)

  -- The list that a host made is one on a session that open gave, so that what holds of every such list holds of it.
  pub followed : (o : FunnelivyOpened) → OpenedMeets mode anchor st sm first o sm₀ → o.refusal ≡ 0
      → {cs : List Call} {as' : List Answer} {z : FunnelivySession} {st' : List ℕ} {sm' : List Float}
      → HostTrace o.session st sm₀ cs as' z st' sm' → Followed mode anchor st sm first sm₀ cs as' z st' sm'
  followed o m e {cs} {as'} {z} {st'} {sm'} t =
      from_open m.opened m.meets (sym (ap (λ (x : FunnelivyOpened). x.refusal) m.is) ∙ e)
      (subst (λ (x : FunnelivyOpened). HostTrace x.session st sm₀ cs as' z st' sm') m.is t)

  -- First theorem: all answers of a host's list and the point after it are those of the plain session.
  pub host_as_plain : (o : FunnelivyOpened) → OpenedMeets mode anchor st sm first o sm₀ → o.refusal ≡ 0
      → {cs : List Call} {as' : List Answer} {z : FunnelivySession} {st' : List ℕ} {sm' : List Float} → HostTrace o.session st sm₀ cs as' z st' sm'
      → (as' ≡ answers (opened (setup mode anchor (length st)) first) cs)
      × (session_point (session_of z) ≡ point_of (run_to (opened (setup mode anchor (length st)) first) cs))
  host_as_plain o m e t = let f = followed o m e t in as_plain mode anchor st sm first sm₀ f.session f.opened f.trace

  -- Beside the second theorem: the start after a list, where there is one, is not before the anchor.
  pub host_start_from_anchor : (o : FunnelivyOpened) → OpenedMeets mode anchor st sm first o sm₀ → o.refusal ≡ 0
      → {cs : List Call} {as' : List Answer} {z : FunnelivySession} {st' : List ℕ} {sm' : List Float} → HostTrace o.session st sm₀ cs as' z st' sm'
      → FromAnchor anchor (session_point (session_of z)).stage
  host_start_from_anchor o m e t = let f = followed o m e t in start_from_anchor mode anchor st sm first sm₀ f.session f.opened f.trace

-- Second theorem: two hosts' lists with the same flags taken and the same parity samples end in the same point, the starts less the anchors.
pub host_same_point : (mode a b : ℕ) (st₁ st₂ : List ℕ) (sm₁ first₁ sm₁' sm₂ first₂ sm₂' : List Float) (o₁ o₂ : FunnelivyOpened) → length st₁ ≡ length st₂
    → OpenedMeets mode a st₁ sm₁ first₁ o₁ sm₁' → o₁.refusal ≡ 0 → OpenedMeets mode b st₂ sm₂ first₂ o₂ sm₂' → o₂.refusal ≡ 0
    → {cs ds : List Call} {as' bs : List Answer} {z₁ z₂ : FunnelivySession} {fe₁ fe₂ : List ℕ} {se₁ se₂ : List Float}
    → HostTrace o₁.session st₁ sm₁' cs as' z₁ fe₁ se₁ → HostTrace o₂.session st₂ sm₂' ds bs z₂ fe₂ se₂
    → flags_taken (opened (setup mode a (length st₁)) first₁) cs ≡ flags_taken (opened (setup mode b (length st₂)) first₂) ds
    → ((n : ℕ) → Memᴰ n (list_reads (opened (setup mode a (length st₁)) first₁) cs)
    → get_or (run_to (opened (setup mode a (length st₁)) first₁) cs).samples n silence
    ≡ get_or (run_to (opened (setup mode b (length st₂)) first₂) ds).samples n silence)
    → point_less a (session_point (session_of z₁)) ≡ point_less b (session_point (session_of z₂))
host_same_point mode a b st₁ st₂ sm₁ first₁ sm₁' sm₂ first₂ sm₂' o₁ o₂ size m₁ e₁ m₂ e₂ t₁ t₂ flags parity =
    let f = followed mode a st₁ sm₁ first₁ sm₁' o₁ m₁ e₁ t₁ in
    let g = followed mode b st₂ sm₂ first₂ sm₂' o₂ m₂ e₂ t₂ in
    same_point mode a b st₁ st₂ sm₁ first₁ sm₁' sm₂ first₂ sm₂' f.session g.session size f.opened g.opened f.trace g.trace flags parity

-- ---- the card

-- read is refused exactly before the end
ended_by : (h : Phase) (s : Session) → ended_phase h ≡ eqb (reading_wire (given_by h s)).refusal 0
ended_by Searching s = refl
ended_by (Collecting x) s = refl
ended_by (Reported x r) s = refl
ended_by Unfound s = refl
ended_by (CutShort x) s = refl

ended : (w : FunnelivySession) (g : FunnelivyReading) → ReadingMeets w g → ended_phase (session_of w).phase ≡ eqb g.refusal 0
ended w g m =
    let s : Session = session_of w in
    ended_by s.phase s ∙ sym (ap (λ (r : FunnelivyReading). eqb r.refusal 0) (m.is ∙ ap reading_wire m.meets.says))

gave_point : (a b : Point) (r : Result Unit Refusal) → gave a ≡ answer_by r (gave b) → a ≡ b
gave_point a b (Ok u) e = cc
gave_point a b (Err d) e = absurd (cc)

-- Any record that read refuses has no card: 11.
pub host_no_card : (w : FunnelivySession) (g : FunnelivyReading) → ReadingMeets w g → (g.refusal ≡ 0 → ⊥) → session_card_answer w ≡ refused_by 11
host_no_card w g m some = ap read_wire (no_card_lem (session_of w) (ended w g m ∙ ne_eqb g.refusal 0 some))

module _ (mode anchor : ℕ) (st : List ℕ) (sm first sm₀ : List Float) where
  -- what read gives after a list is the point after it
  reading_point_lem : {cs : List Call} {as' : List Answer} {z : FunnelivySession} {st' : List ℕ} {sm' : List Float}
      → Followed mode anchor st sm first sm₀ cs as' z st' sm'
      → (g : FunnelivyReading) → ReadingMeets z g → g.refusal ≡ 0 → reading_point g ≡ session_point (session_of z)
  reading_point_lem {cs} {as'} {z} {st'} {sm'} f g m none =
      let p : Plain = opened (setup mode anchor (length st)) first in
      let q : Plain = run_to p cs in
      let said : read_answer g ≡ answer q read = reading_same z g m ∙ m.meets.plain q st' sm' (follows f.trace p f.opened.says.2).1 in
      gave_point (reading_point g) (point_of q) (read_refusal q.phase) (rw (eq-eqb g.refusal 0 none) at said)
      ∙ sym (as_plain mode anchor st sm first sm₀ f.session f.opened f.trace).1

  -- Once read is not refused, the session has a card. It is written, reads back as the same answer, and says what read gives,
  -- without the count of windows.
  pub host_card : (o : FunnelivyOpened) → OpenedMeets mode anchor st sm first o sm₀ → o.refusal ≡ 0
      → {cs : List Call} {as' : List Answer} {z : FunnelivySession} {st' : List ℕ} {sm' : List Float} → HostTrace o.session st sm₀ cs as' z st' sm'
      → (g : FunnelivyReading) → ReadingMeets z g → g.refusal ≡ 0
      → (r : FunnelivyCardAnswer) → r ≡ session_card_answer z → HostCard mode g r
  host_card o m e {cs} {as'} {z} t g n none r is =
      let f = followed mode anchor st sm first sm₀ o m e t in
      let b : CardBack mode (session_of z) =
      session_card_lem mode anchor st sm first sm₀ f.session f.opened f.trace (ended z g n ∙ eq-eqb g.refusal 0 none) in
      subst (HostCard mode g) (sym (is ∙ ap read_wire b.given))
      (record {
        refusal = refl;
        written = λ out size. ap number_or_zero (b.written out size).0;
        back = λ out size. ap (λ (bytes : List ℕ). read_wire (card.read_answer bytes)) (b.written out size).1 ∙ ap read_wire b.back;
        mode = b.mode;
        says = b.says ∙ ap point_ledger (sym (reading_point_lem f g n none));
      })
