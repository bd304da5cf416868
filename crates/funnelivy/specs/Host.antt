-- A host's list of calls on one session (01-scope.md, "Session"): each step is one that the exported call's `ensures` allows. Definitions only.
use Rattle.std.specs.Prelude.{◌≡◌, ℕ, false, cond, List, [], ◌∷◌, eqb, length, Float, Ok}
use Rattle.limits.specs.declared.Refusal.{Refusal}
use Rattle.limits.specs.declared.Refusal.TheVariants as why
use Rattle.modespec.specs.Sizes.{robot}
use Rattle.plain.specs.Point.{Point, Stage, reported, unfound, cut_short}
use Rattle.plain.specs.Calls.{Call, read, Answer, took, gave, refused}
use Rattle.session.specs.declared.Session.{Session}
use Rattle.session.specs.Hold.{OpenMeets, feed_call}
use Rattle.session.specs.Trace.{Trace}
use Rattle.ledger.specs.Entry.{Ledger, card_ledger, point_ledger}
use Rattle.c_record.specs.declared.FunnelivySession.{FunnelivySession}
use Rattle.c_record.specs.declared.FunnelivyFed.{FunnelivyFed}
use Rattle.c_record.specs.declared.FunnelivyReading.{FunnelivyReading}
use Rattle.c_record.specs.Record.{slant_of, session_of}
use Rattle.c_card.specs.declared.FunnelivyCard.{FunnelivyCard}
use Rattle.c_card.specs.declared.FunnelivyCardAnswer.{FunnelivyCardAnswer}
use Rattle.c_card.specs.Cards.{card_of_wire}
use Rattle.funnelivy.specs.Session.{FedMeets, ReadingMeets}
use Rattle.funnelivy.specs.Cards.{write_card_answer, card_buffer, read_card_answer}

-- ---- what a host reads off the numbers

-- why a call was refused, by its number. Every refused call's number is one of these 14.
abbrev pub refusal_by : ℕ → Refusal
refusal_by k =
    cond (eqb k 1) why.Mode
    (cond (eqb k 2) why.Rate
    (cond (eqb k 3) why.Shift
    (cond (eqb k 4) why.Anchor
    (cond (eqb k 5) why.Memory
    (cond (eqb k 6) why.Length
    (cond (eqb k 7) why.Flag
    (cond (eqb k 8) why.Sample
    (cond (eqb k 9) why.Count
    (cond (eqb k 10) why.Ended
    (cond (eqb k 11) why.NotEnded
    (cond (eqb k 12) why.CardLength (cond (eqb k 13) why.CardMark why.CardField))))))))))))

abbrev pub fed_answer : FunnelivyFed → Answer
fed_answer r = cond (eqb r.refusal 0) (took r.taken) (refused (refusal_by r.refusal))

-- the record to go on with: a refusal returns none
abbrev pub next_of : FunnelivySession → FunnelivyFed → FunnelivySession
next_of w r = cond (eqb r.refusal 0) r.session w

abbrev pub stage_of : FunnelivyReading → Stage
stage_of r =
    cond (eqb r.end 0) (reported r.start r.windows r.start_quality r.rate (slant_of r.has_slant r.slant) r.skip r.quality)
    (cond (eqb r.end 1) unfound (cut_short r.start r.windows r.start_quality))

abbrev pub reading_point : FunnelivyReading → Point
reading_point r = record { stage = stage_of r; taken = r.taken; evaluations = r.evaluations }

-- the same of a card, which lacks the count of windows
abbrev pub wire_ledger : FunnelivyCard → Ledger
wire_ledger w = card_ledger (card_of_wire w)

abbrev pub read_answer : FunnelivyReading → Answer
read_answer r = cond (eqb r.refusal 0) (gave (reading_point r)) (refused (refusal_by r.refusal))

-- ---- the list

-- Each call gets the record last returned and the stores as last left; the work memory may hold anything. Every list of calls is such a list:
-- each call is total, and its `ensures`, which asks nothing of record or memory, gives the step.
pub data HostTrace : FunnelivySession → List ℕ → List Float → List Call → List Answer → FunnelivySession → List ℕ → List Float → Type 0 where
  done : (w : FunnelivySession) (flag_store : List ℕ) (sample_store : List Float) → HostTrace w flag_store sample_store [] [] w flag_store sample_store
  feeds : (w : FunnelivySession) (flag_store : List ℕ) (sample_store : List Float) (img votes flags : List ℕ) (samples : List Float)
      (r : FunnelivyFed) (flag_store' : List ℕ) (sample_store' : List Float) (img' votes' : List ℕ)
      (cs : List Call) (as' : List Answer) (z : FunnelivySession) (flag_end : List ℕ) (sample_end : List Float)
      → FedMeets w flag_store sample_store img votes flags samples r flag_store' sample_store' img' votes'
      → HostTrace (next_of w r) flag_store' sample_store' cs as' z flag_end sample_end
      → HostTrace w flag_store sample_store (feed_call flag_store sample_store img votes flags samples ∷ cs) (fed_answer r ∷ as') z flag_end sample_end
  reads : (w : FunnelivySession) (flag_store : List ℕ) (sample_store : List Float) (r : FunnelivyReading)
      (cs : List Call) (as' : List Answer) (z : FunnelivySession) (flag_end : List ℕ) (sample_end : List Float)
      → ReadingMeets w r
      → HostTrace w flag_store sample_store cs as' z flag_end sample_end
      → HostTrace w flag_store sample_store (read ∷ cs) (read_answer r ∷ as') z flag_end sample_end
  -- a feed that was lent other stores, as of another length, and was refused: the host keeps the record that it has
  lends : (w : FunnelivySession) (flag_store : List ℕ) (sample_store : List Float) (other_flags : List ℕ) (other_samples : List Float)
      (img votes flags : List ℕ) (samples : List Float) (r : FunnelivyFed) (other_flags' : List ℕ) (other_samples' : List Float) (img' votes' : List ℕ)
      (cs : List Call) (as' : List Answer) (z : FunnelivySession) (flag_end : List ℕ) (sample_end : List Float)
      → FedMeets w other_flags other_samples img votes flags samples r other_flags' other_samples' img' votes'
      → (r.refusal ≡ 0 → ⊥)
      → HostTrace w flag_store sample_store cs as' z flag_end sample_end
      → HostTrace w flag_store sample_store (feed_call other_flags other_samples img votes flags samples ∷ cs) (refused (refusal_by r.refusal) ∷ as') z flag_end sample_end
  -- without parity samples nothing is kept in the sample store, and the next call may be lent another one
  changes : (w : FunnelivySession) (flag_store : List ℕ) (sample_store other_samples : List Float)
      (cs : List Call) (as' : List Answer) (z : FunnelivySession) (flag_end : List ℕ) (sample_end : List Float)
      → robot w.mode ≡ false
      → HostTrace w flag_store other_samples cs as' z flag_end sample_end
      → HostTrace w flag_store sample_store cs as' z flag_end sample_end

-- the list is one on a session that open gave, and ends in the session that the last record says
pub record Followed
    (mode anchor : ℕ) (flag_store : List ℕ) (sample_store first sample_store' : List Float) (cs : List Call) (as' : List Answer)
    (z : FunnelivySession) (flag_end : List ℕ) (sample_end : List Float) : Type 0 where
  pub session : Session
  pub opened : OpenMeets mode anchor flag_store sample_store first (Ok session) sample_store'
  pub trace : Trace session flag_store sample_store' cs as' (session_of z) flag_end sample_end

-- ---- the card

-- A session's card reads back as its report (02-change-requests.md, A.1): the card that was given is written into any buffer of 56 bytes, these
-- read back as that answer, and it says the mode of open and all that read gives but the count of windows (A.3).
pub record HostCard (opened : ℕ) (g : FunnelivyReading) (r : FunnelivyCardAnswer) : Type 0 where
  pub refusal : r.refusal ≡ 0
  pub written : (out : List ℕ) → length out ≡ 56 → write_card_answer r.card out ≡ 0
  pub back : (out : List ℕ) → length out ≡ 56 → read_card_answer (card_buffer r.card out) ≡ r
  pub mode : r.card.mode ≡ opened
  pub says : wire_ledger r.card ≡ point_ledger (reading_point g)
