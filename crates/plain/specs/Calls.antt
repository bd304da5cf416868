-- Calls on the plain session (01-scope.md, "Session", "The plain session of demand 3", "Numbers given by cause"):
-- which are refused, what each answers, and what a list of them does. Definitions only.
use Rattle.std.specs.Prelude.{ℕ, ◌+◌, ◌-◌, ◌*◌, ◌^◌, Bool, cond, not, ◌&&◌, List, [], ◌∷◌, length, ltb, eqb, Result, Ok, Err, Float}
use Rattle.limits.specs.declared.Refusal.{Refusal}
use Rattle.limits.specs.declared.Refusal.TheVariants as why
use Rattle.limits.specs.Refusals.{◌⇒◌, first_of, or_else, is_allowed}
use Rattle.limits.specs.Ranges.{any_above, any_unsound}
use Rattle.modespec.specs.Sizes.{robot}
use Rattle.plain.specs.declared.Phase.{Phase}
use Rattle.plain.specs.Plain.{Setup, Plain, window_of, picture_of, ended_phase, through}
use Rattle.plain.specs.Point.{Point, point_of}

-- of stores and work memory only the lengths
pub record Lengths : Type 0 where
  pub flags : ℕ
  pub samples : ℕ
  pub img : ℕ
  pub votes : ℕ

pub data Call : Type 0 where
  feed : (memory : Lengths) (flags : List ℕ) (samples : List Float) → Call
  read : Call

pub data Answer : Type 0 where
  took : ℕ → Answer
  gave : Point → Answer
  refused : Refusal → Answer

-- ---- the lowest number that applies, if one does

-- Robot 24 and 36: a sample store below 4F + 4
abbrev pub short_samples : ℕ → ℕ → ℕ → Bool
short_samples mode capacity samples = robot mode && ltb samples (4 * capacity + 4)

unfoldable pub open_refusal : Setup → ℕ → List Float → Result Unit Refusal
open_refusal u sample_store first =
    first_of
    ((ltb 15 u.mode ⇒ why.Mode)
    ∷ (ltb (2 ^ 62) u.anchor ⇒ why.Anchor)
    ∷ (ltb u.capacity (window_of u.mode + picture_of u.mode) ⇒ why.Memory)
    ∷ (ltb 16777216 u.capacity ⇒ why.Memory)
    ∷ (short_samples u.mode u.capacity sample_store ⇒ why.Memory)
    ∷ (not (eqb (length first) 4) ⇒ why.Length)
    ∷ (any_unsound first ⇒ why.Sample)
    ∷ [])

-- of the lender of memory
unfoldable pub memory_refusal : ℕ → ℕ → Lengths → Result Unit Refusal
memory_refusal mode capacity memory =
    first_of
    ((not (eqb memory.flags capacity) ⇒ why.Memory)
    ∷ (short_samples mode capacity memory.samples ⇒ why.Memory)
    ∷ (ltb memory.img 441000 ⇒ why.Memory)
    ∷ (ltb memory.votes 144000 ⇒ why.Memory)
    ∷ [])

-- of the sound source
unfoldable pub sound_refusal : List ℕ → List Float → Result Unit Refusal
sound_refusal flags samples =
    first_of
    ((ltb 16777216 (length flags) ⇒ why.Length)
    ∷ (not (eqb (length samples) (4 * length flags)) ⇒ why.Length)
    ∷ (any_above flags ⇒ why.Flag)
    ∷ (any_unsound samples ⇒ why.Sample)
    ∷ [])

-- of the order of calls
abbrev pub order_refusal : Phase → Result Unit Refusal
order_refusal phase = first_of ((ended_phase phase ⇒ why.Ended) ∷ [])

unfoldable pub feed_refusal : Setup → Phase → Lengths → List ℕ → List Float → Result Unit Refusal
feed_refusal u phase memory flags samples = or_else (memory_refusal u.mode u.capacity memory) (or_else (sound_refusal flags samples) (order_refusal phase))

abbrev pub read_refusal : Phase → Result Unit Refusal
read_refusal phase = first_of ((not (ended_phase phase) ⇒ why.NotEnded) ∷ [])

-- ---- a call: a refused one changes nothing

abbrev pub after : Plain → Call → Plain
after p (feed memory flags samples) = cond (is_allowed (feed_refusal p.setup p.phase memory flags samples)) (through p flags samples) p
after p read = p

-- the refusal, or what is given where there is none
abbrev pub answer_by : Result Unit Refusal → Answer → Answer
answer_by (Ok u) given = given
answer_by (Err e) given = refused e

abbrev pub answer : Plain → Call → Answer
answer p (feed memory flags samples) =
    answer_by (feed_refusal p.setup p.phase memory flags samples) (took (length (through p flags samples).flags - length p.flags))
answer p read = answer_by (read_refusal p.phase) (gave (point_of p))

-- ---- a list of calls

unfoldable pub run_to : Plain → List Call → Plain
run_to p [] = p
run_to p (c ∷ cs) = run_to (after p c) cs

unfoldable pub answers : Plain → List Call → List Answer
answers p [] = []
answers p (c ∷ cs) = answer p c ∷ answers (after p c) cs
