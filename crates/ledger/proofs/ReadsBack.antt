-- A session's card reads back as its report (02-change-requests.md, A.1): the card of every session that has ended is one that the writer
-- takes and the reader gives back, and it says the session's mode and, without the count of windows, its point.
-- Assumes nothing.
use mathlib.Core.Path.{◌≡◌, refl, sym, ◌∙◌, ap, ap₂, subst}
use mathlib.Core.Bool.{true, false, false≢true}
use mathlib.Core.List.{List}
use Prim.Native.Nat.{ℕ, ◌+◌, ◌%◌, ◌^◌, ◌≤◌, ◌<◌}
use native.Mathlib.Omega.{arith}
use lib.ListN.{length}
use lib.Dec.{T, lit<}
use lib.IntN.{ℤ, pos, negsuc, nat_abs}
use lib.Signed.{mag}
use lib.Ieee.{Float, inf, fin, binary32, lt, le, fits}
use lib.Ieee.Bits.{is_true}
use borrow.Author.Tests.{le-leb}
use Rattle.std.specs.Prelude.{Option, Ok, Err}
use Rattle.limits.specs.declared.Refusal.TheVariants as why
use Rattle.sync.specs.declared.SyncResult.{SyncResult}
use Rattle.plain.specs.declared.End.TheVariants as end
use Rattle.plain.specs.declared.Phase.{Phase}
use Rattle.plain.specs.declared.Phase.TheVariants.{Searching, Collecting, Reported, Unfound, CutShort}
use Rattle.plain.specs.Plain.{Setup, Plain, ended_phase, opened}
use Rattle.plain.specs.Calls.{Call, Answer, run_to}
use Rattle.plain.proofs.Lists.{run_setup}
use Rattle.report_range.specs.Report.{Part, Rate, SoundReport, SoundPhase}
use Rattle.report_range.proofs.Sound.{sound_phase}
use Rattle.session.specs.declared.Session.{Session}
use Rattle.session.specs.Hold.{Sane, Holds, OpenMeets, setup, start_of, given_by, session_point}
use Rattle.session.specs.Trace.{Trace}
use Rattle.session.proofs.Demand3.{follows}
use Rattle.card.specs.declared.Card.{Card}
use Rattle.card.specs.Card.{within, positive, near, wrong}
use Rattle.card.proofs.Accepted as accepted
use Rattle.card.proofs.RoundTrip.{Typed, writes, written_reads_back}
use Rattle.ledger.specs.Ledger.{unreported_card, end_card, card_given, session_card}
use Rattle.ledger.specs.Entry.{Entry, reported, cut_short, Ledger, card_ledger, point_ledger}
use Rattle.ledger.specs.Back.{CardBack}
use Rattle.ledger.proofs.Slants.{index_free, index_small, slant_back}

-- ---- what a card may have

within_part : (x : Float) → Part x → within x ≡ true
unfolding within
within_part x h = rw (is_true (le (fin false 0 (pos 0)) x) h.low, is_true (le x (fin false 1 (pos 0))) h.high)

positive_rate : (x : Float) → Rate x → positive x ≡ true
unfolding positive
positive_rate x h = rw (is_true (lt (fin false 0 (pos 0)) x) h.positive, is_true (lt x (inf false)) h.finite)

near_skip : (z : ℤ) → nat_abs z ≤ 2 ^ 29 → near z ≡ true
unfolding near
near_skip z h = le-leb (nat_abs z) (2 ^ 62) (omega arith)

small_skip : (z : ℤ) → nat_abs z ≤ 2 ^ 29 → mag z < 2 ^ 63
small_skip (pos n) h = omega arith
small_skip (negsuc n) h = omega arith

back_by : (z : Session) (c : Card) → Typed c → wrong c ≡ false → session_card z ≡ Ok c → card_ledger c ≡ point_ledger (session_point z) → CardBack c.mode z
back_by z c typed w given says =
    record { card = c; given = given; written = λ out n. writes c out n w; back = written_reads_back c typed w; mode = refl; says = says }

-- ---- the card of a record that has ended

-- of a report with any count of windows, which no card has
abbrev reported_card : ℕ → ℕ → ℕ → ℕ → Float → SyncResult → Card
reported_card mode taken evaluations start q y =
    end_card mode (end.Reported start 0 q y.adjusted_rate_hz y.slant_deg y.skip_samples y.sync_quality) taken evaluations

module _ (z : Session) (s : Sane z) where
  few : (z.mode < 256) × (z.taken < 2 ^ 64) × (z.evaluations < 2 ^ 64)
  few =
      let a = s.mode in
      let b = s.room in
      let c = s.small in
      let d = s.evaluations in
      (omega arith, omega arith, omega arith)

  typed : (end start : ℕ) (q : Float) → end < 256 → start < 2 ^ 64 → T (fits binary32 q) → Typed (unreported_card z.mode end z.taken z.evaluations start q)
  unfolding fits
  typed end start q l n f =
      record {
        mode = few.0;
        end = l;
        taken = few.1;
        evaluations = few.2;
        start = n;
        start_quality_lem = f;
        rate = tt;
        slant = lit< tt;
        skip = lit< tt;
        quality = tt;
      }

  typed_report : (start : ℕ) (q : Float) (y : SyncResult) → start < 2 ^ 64 → T (fits binary32 q) → SoundReport y
      → Typed (reported_card z.mode z.taken z.evaluations start q y)
  typed_report start q y n f report =
      record {
        mode = few.0;
        end = lit< tt;
        taken = few.1;
        evaluations = few.2;
        start = n;
        start_quality_lem = f;
        rate = report.rate.fits;
        slant = index_small y.slant_deg report.slant;
        skip = small_skip y.skip_samples report.skip;
        quality = report.quality.fits;
      }

no_wrap : (a b : ℕ) → a ≤ 2 ^ 62 → b ≤ 2 ^ 62 → ((a + b) % 2 ^ 64 ≡ a + b) × ((a + b) % 2 ^ 64 < 2 ^ 64)
no_wrap a b ha hb = (omega arith, omega arith)

abbrev in_phase : ℕ → ℕ → ℕ → ℕ → ℕ → ℕ → Phase → Session
in_phase m a k t e r h = record { mode = m; anchor = a; capacity = k; taken = t; evaluations = e; streak = r; phase = h }

abbrev ledger_at : Entry → ℕ → ℕ → Ledger
ledger_at entry taken evaluations = record { entry = entry; taken = taken; evaluations = evaluations }

card_back : (m a k t e r : ℕ) (h : Phase) → Sane (in_phase m a k t e r h) → SoundPhase h → ended_phase h ≡ true → CardBack m (in_phase m a k t e r h)
card_back m a k t e r Searching s p ended = absurd (false≢true ended)
card_back m a k t e r (Collecting x) s p ended = absurd (false≢true ended)
card_back m a k t e r (Reported x y) s p ended =
    let z : Session = in_phase m a k t e r (Reported x y) in
    let c : Card = reported_card m t e (start_of a x) x.quality y in
    let start = no_wrap a x.position s.anchor s.near in
    back_by z c (typed_report z s (start_of a x) x.quality y start.1 p.0.quality.fits p.1)
    (accepted.reported c s.mode refl (index_free y.slant_deg p.1.slant) (within_part x.quality p.0.quality) (within_part y.sync_quality p.1.quality)
    (positive_rate y.adjusted_rate_hz p.1.rate) (near_skip y.skip_samples p.1.skip))
    refl
    (ap₂ (λ (n : ℕ) (d : Option Float). ledger_at (reported n x.quality y.adjusted_rate_hz d y.skip_samples y.sync_quality) t e)
    start.0 (slant_back y.slant_deg p.1.slant))
card_back m a k t e r Unfound s p ended =
    let z : Session = in_phase m a k t e r Unfound in
    let c : Card = unreported_card m 1 t e 0 (fin false 0 (pos 0)) in
    back_by z c (typed z s 1 0 (fin false 0 (pos 0)) (lit< tt) (lit< tt) (unfold fits in tt))
    (accepted.unfound c s.mode refl refl refl refl refl refl refl)
    refl
    refl
card_back m a k t e r (CutShort x) s p ended =
    let z : Session = in_phase m a k t e r (CutShort x) in
    let c : Card = unreported_card m 2 t e (start_of a x) x.quality in
    let start = no_wrap a x.position s.anchor s.near in
    back_by z c (typed z s 2 (start_of a x) x.quality (lit< tt) start.1 p.quality.fits)
    (accepted.cut_short_lem c s.mode refl refl refl refl refl (within_part x.quality p.quality))
    refl
    (ap (λ (n : ℕ). ledger_at (cut_short n x.quality) t e) start.0)

-- ---- of a session

-- every session that has ended, after any list of calls, has a card that reads back as its report
pub session_card_lem : (mode anchor : ℕ) (st : List ℕ) (sm first sm₀ : List Float) (s : Session) → OpenMeets mode anchor st sm first (Ok s) sm₀
    → {cs : List Call} {as' : List Answer} {z : Session} {st' : List ℕ} {sm' : List Float} → Trace s st sm₀ cs as' z st' sm'
    → ended_phase z.phase ≡ true → CardBack mode z
session_card_lem mode anchor st sm first sm₀ s o {cs} {as'} {z} {st'} {sm'} t ended =
    let u : Setup = setup mode anchor (length st) in
    let p : Plain = opened u first in
    let held : Holds (run_to p cs) z st' sm' = (follows t p o.says.2).1 in
    let phase : z.phase ≡ (run_to p cs).phase = ap (λ (q : Plain). q.phase) held.same in
    let its : z.mode ≡ mode = ap (λ (q : Plain). q.setup.mode) held.same ∙ ap (λ (v : Setup). v.mode) (run_setup p cs) in
    subst (λ (n : ℕ). CardBack n z) its
    (card_back z.mode z.anchor z.capacity z.taken z.evaluations z.streak z.phase held.sane
    (subst SoundPhase (sym phase) (sound_phase u first cs)) ended)

-- a session without an end has no card, whatever its record
pub no_card_lem : (z : Session) → ended_phase z.phase ≡ false → session_card z ≡ Err why.NotEnded
no_card_lem z live = go z.phase live
  where
    go : (h : Phase) → ended_phase h ≡ false → card_given z.mode (given_by h z) ≡ Err why.NotEnded
    go Searching e = refl
    go (Collecting x) e = refl
    go (Reported x y) e = absurd (false≢true (sym e))
    go Unfound e = absurd (false≢true (sym e))
    go (CutShort x) e = absurd (false≢true (sym e))
