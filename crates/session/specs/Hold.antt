-- What the record and the stores of a session stand for, and what open, feed and read ensure (01-scope.md, "Session", "How tight").
-- Definitions only.
use Rattle.std.specs.Prelude.{◌≡◌, ℕ, ◌+◌, ◌*◌, ◌≤◌, ◌<◌, ◌^◌, true, false, List, length, take, Float, Result, Ok, Err}
use Rattle.std.proofs.Math.Seq.{paste}
use Rattle.hough.specs.Memory.{cleared}
use Rattle.limits.specs.declared.Refusal.{Refusal}
use Rattle.limits.specs.declared.Refusal.TheVariants as why
use Rattle.modespec.specs.Sizes.{robot}
use Rattle.plain.specs.declared.Phase.{Phase}
use Rattle.plain.specs.declared.Phase.TheVariants.{Searching, Collecting, Reported, Unfound, CutShort}
use Rattle.plain.specs.declared.End.{End}
use Rattle.plain.specs.declared.End.TheVariants as end
use Rattle.plain.specs.declared.Reading.{Reading}
use Rattle.plain.specs.Plain.{Setup, Plain, ended_phase, opened}
use Rattle.plain.specs.Point.{Point, stage_of, read_point}
use Rattle.plain.specs.Calls.{Call, feed, read, Answer, took, gave, refused, answer, after, open_refusal, feed_refusal}
pub use Rattle.session_parts.specs.Stores.{kept_at}
pub use Rattle.session_parts.specs.Refusals.{setup, lengths}
pub use Rattle.session_parts.specs.Phases.{position_of, start_of}
use Rattle.session.specs.declared.Session.{Session}
use Rattle.session.specs.declared.Fed.{Fed}

-- ---- what a record stands for

abbrev pub setup_of : Session → Setup
setup_of s = record { mode = s.mode; anchor = s.anchor; capacity = s.capacity }

-- the plain session of a record, a flag store and the samples known
abbrev pub plain_of : Session → List ℕ → List Float → Plain
plain_of s flag_store known =
    record {
      setup = setup_of s;
      flags = take s.taken flag_store;
      samples = known;
      evaluations = s.evaluations;
      streak = s.streak;
      phase = s.phase;
    }

-- Robot 24 and 36 keep the samples known in the sample store; the other modes keep none
abbrev pub Known : Session → List Float → List Float → Type 0
Known s sample_store known = robot s.mode ≡ true → known ≡ take (4 * s.taken + 4) sample_store

-- the bounds that every session keeps
pub record Sane (s : Session) : Type 0 where
  pub mode : s.mode ≤ 15
  pub anchor : s.anchor ≤ 2 ^ 62
  pub small : s.capacity ≤ 16777216
  pub room : s.taken ≤ s.capacity
  pub evaluations : s.evaluations ≤ s.taken
  pub streak : s.streak ≤ s.evaluations
  pub near : position_of s.phase ≤ 2 ^ 62
  pub live : ended_phase s.phase ≡ false → s.taken < s.capacity

-- the record and the stores stand for the plain session p
pub record Holds (p : Plain) (s : Session) (flag_store : List ℕ) (sample_store : List Float) : Type 0 where
  pub same : plain_of s flag_store p.samples ≡ p
  pub known : Known s sample_store p.samples
  pub whole : length flag_store ≡ s.capacity
  pub wide : robot s.mode ≡ true → 4 * s.capacity + 4 ≤ length sample_store
  pub sane : Sane s

-- ---- open

abbrev pub OpenSays : Setup → List ℕ → List Float → List Float → Result Session Refusal → List Float → Type 0
OpenSays u flag_store sample_store first (Ok s) sample_store' =
    (open_refusal u (length sample_store) first ≡ Ok tt) × (sample_store' ≡ kept_at u.mode 0 first 4 sample_store) × Holds (opened u first) s flag_store sample_store'
OpenSays u flag_store sample_store first (Err e) sample_store' =
    (open_refusal u (length sample_store) first ≡ Err e) × (sample_store' ≡ sample_store)

-- Open. Not refused, the record and the stores stand for the plain session at its opening.
pub record OpenMeets (mode anchor : ℕ) (flag_store : List ℕ) (sample_store first : List Float) (r : Result Session Refusal) (sample_store' : List Float) : Type 0 where
  pub says : OpenSays (setup mode anchor (length flag_store)) flag_store sample_store first r sample_store'

-- ---- feed

-- an answer by its refusal and values
abbrev pub answer_of : Result Fed Refusal → Answer
answer_of (Ok f) = took f.taken
answer_of (Err e) = refused e

-- the record to go on with: a refusal returns none
abbrev pub next_of : Session → Result Fed Refusal → Session
next_of s (Ok f) = f.session
next_of s (Err e) = s

abbrev pub count_of : Result Fed Refusal → ℕ
count_of (Ok f) = f.taken
count_of (Err e) = 0

-- work memory of n places: zero in that extent where `find_sync` ran, else unchanged
abbrev pub work_after : Phase → ℕ → List ℕ → List ℕ
work_after Searching n w = w
work_after (Collecting s) n w = w
work_after (Reported s r) n w = cleared n w
work_after Unfound n w = w
work_after (CutShort s) n w = w

abbrev pub fed_work : Result Fed Refusal → ℕ → List ℕ → List ℕ
fed_work (Ok f) n w = work_after f.session.phase n w
fed_work (Err e) n w = w

abbrev pub feed_call : List ℕ → List Float → List ℕ → List ℕ → List ℕ → List Float → Call
feed_call flag_store sample_store img votes flags samples = feed (lengths (length flag_store) (length sample_store) (length img) (length votes)) flags samples

-- an answer against the refusal of the lowest number that applies: refused with it, or not refused where there is none
abbrev pub FeedNumber : Result Fed Refusal → Result Unit Refusal → Type 0
FeedNumber (Ok f) refusal = refusal ≡ Ok tt
FeedNumber (Err e) refusal = refusal ≡ Err e

-- Feed. On any record and memory: the refusal; no more than the piece and than F is taken, and only the stores' next places and the work
-- memory are written. On a record and stores that stand for a plain session: its answer, and they stand for the plain session after the call.
pub record FeedMeets
    (s : Session) (flag_store : List ℕ) (sample_store : List Float) (img votes flags : List ℕ) (samples : List Float)
    (r : Result Fed Refusal) (flag_store' : List ℕ) (sample_store' : List Float) (img' votes' : List ℕ) : Type 0 where
  pub number : FeedNumber r (feed_refusal (setup_of s) s.phase (lengths (length flag_store) (length sample_store) (length img) (length votes)) flags samples)
  pub count : count_of r ≤ length flags
  pub room : 0 < count_of r → (s.taken + count_of r ≤ s.capacity) × (length flag_store ≡ s.capacity)
  pub stored : flag_store' ≡ paste flag_store s.taken flags (count_of r)
  pub sampled : sample_store' ≡ kept_at s.mode (4 * s.taken + 4) samples (4 * count_of r) sample_store
  pub image : img' ≡ fed_work r 441000 img
  pub counts : votes' ≡ fed_work r 144000 votes
  pub plain : (p : Plain) → Holds p s flag_store sample_store
      → (answer_of r ≡ answer p (feed_call flag_store sample_store img votes flags samples))
      × Holds (after p (feed_call flag_store sample_store img votes flags samples)) (next_of s r) flag_store' sample_store'

-- ---- read

abbrev pub reading : Session → End → Result Reading Refusal
reading s e = Ok (record { end = e; taken = s.taken; evaluations = s.evaluations })

abbrev pub given_by : Phase → Session → Result Reading Refusal
given_by Searching s = Err why.NotEnded
given_by (Collecting x) s = Err why.NotEnded
given_by (Reported x r) s =
    reading s (end.Reported (start_of s.anchor x) x.windows x.quality r.adjusted_rate_hz r.slant_deg r.skip_samples r.sync_quality)
given_by Unfound s = reading s end.Unfound
given_by (CutShort x) s = reading s (end.CutShort (start_of s.anchor x) x.windows x.quality)

-- an answer by its refusal and values
abbrev pub given_of : Result Reading Refusal → Answer
given_of (Ok g) = gave (read_point g)
given_of (Err e) = refused e

-- Read. On any record what that record says; on one that stands for a plain session its answer.
pub record ReadMeets (s : Session) (r : Result Reading Refusal) : Type 0 where
  pub says : r ≡ given_by s.phase s
  pub plain : (p : Plain) (flag_store : List ℕ) (sample_store : List Float) → Holds p s flag_store sample_store → given_of r ≡ answer p read

-- ---- the point of a record

abbrev pub session_point : Session → Point
session_point s = record { stage = stage_of s.anchor s.phase; taken = s.taken; evaluations = s.evaluations }
