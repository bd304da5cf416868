-- What the contracts of a session leave open (01-scope.md, "How tight"): nothing, for a record and stores that stand for a plain session.
-- So a program that meets them is right in every answer, record and place of memory, whatever its inner contracts say.
-- Assumes nothing.
use mathlib.Core.Path.{◌≡◌, sym, ◌∙◌, ap, ap₂}
use mathlib.Core.Bool.{false}
use mathlib.Core.List.{List}
use Prim.Native.Nat.{ℕ, ◌+◌, ◌*◌}
use native.Mathlib.Omega.{arith}
use borrow.Author.Tests.{ne_eqb}
use Rattle.std.specs.Prelude.{Result, Ok, Err}
use Rattle.limits.specs.declared.Refusal.{Refusal}
use Rattle.limits.specs.declared.Refusal.TheVariants as why
use lib.Dec.{eqb}
use lib.ListN.{length}
use lib.Seq.{length-take-le, paste}
use lib.Ieee.{Float}
use Rattle.plain.specs.declared.Phase.{Phase}
use Rattle.plain.specs.declared.Reading.{Reading}
use Rattle.plain.specs.Plain.{Setup, Plain, opened}
use Rattle.plain.specs.Calls.{Lengths, after, feed_refusal, memory_refusal}
use Rattle.session.specs.declared.Session.{Session}
use Rattle.session.specs.declared.Fed.{Fed}
use Rattle.session.specs.Hold.{setup_of, lengths, Holds, OpenMeets, FeedNumber, FeedMeets, ReadMeets, answer_of, next_of, count_of, fed_work, feed_call, kept_at, setup}

-- ---- a plain session has one record

abbrev record_of : Plain → ℕ → Session
record_of q taken =
    record {
      mode = q.setup.mode;
      anchor = q.setup.anchor;
      capacity = q.setup.capacity;
      taken = taken;
      evaluations = q.evaluations;
      streak = q.streak;
      phase = q.phase;
    }

taken_of : (q : Plain) (z : Session) (st : List ℕ) (sm : List Float) → Holds q z st sm → z.taken ≡ length q.flags
taken_of q z st sm h =
    let room = h.sane.room in
    let whole = h.whole in
    sym (length-take-le z.taken st (omega arith)) ∙ ap (λ (x : Plain). length x.flags) h.same

pub one_record : (q : Plain) (z : Session) (st : List ℕ) (sm : List Float) → Holds q z st sm → z ≡ record_of q (length q.flags)
one_record q z st sm h = ap (λ (x : Plain). record_of x z.taken) h.same ∙ ap (record_of q) (taken_of q z st sm h)

-- ---- open

pub open_once : (mode anchor : ℕ) (st : List ℕ) (sm first : List Float) (x y : Result Session Refusal) (sm₁ sm₂ : List Float)
    → OpenMeets mode anchor st sm first x sm₁ → OpenMeets mode anchor st sm first y sm₂ → (x ≡ y) × (sm₁ ≡ sm₂)
open_once mode anchor st sm first (Ok s) (Ok t) sm₁ sm₂ a b =
    let p : Plain = opened (setup mode anchor (length st)) first in
    (ap Ok (one_record p s st sm₁ a.says.2 ∙ sym (one_record p t st sm₂ b.says.2)), a.says.1 ∙ sym b.says.1)
open_once mode anchor st sm first (Ok s) (Err e) sm₁ sm₂ a b =
    let f = a.says.0 in
    let g = b.says.0 in
    cc
open_once mode anchor st sm first (Err e) (Ok s) sm₁ sm₂ a b =
    let f = a.says.0 in
    let g = b.says.0 in
    cc
open_once mode anchor st sm first (Err e) (Err f) sm₁ sm₂ a b =
    let p = a.says.0 in
    let q = b.says.0 in
    let same : e ≡ f = cc in
    (ap Err same, a.says.1 ∙ sym b.says.1)

-- ---- feed

-- answer, record and memory
pub record Once (x y : Result Fed Refusal) (st₁ st₂ : List ℕ) (sm₁ sm₂ : List Float) (im₁ im₂ vo₁ vo₂ : List ℕ) : Type 0 where
  pub answer : x ≡ y
  pub flags : st₁ ≡ st₂
  pub samples : sm₁ ≡ sm₂
  pub image : im₁ ≡ im₂
  pub counts : vo₁ ≡ vo₂

same_fed : (s : Session) (x y : Result Fed Refusal) → answer_of x ≡ answer_of y → next_of s x ≡ next_of s y → x ≡ y
same_fed s (Ok a) (Ok b) e f =
    let n : a.taken ≡ b.taken = cc in
    ap₂ (λ (k : ℕ) (r : Session). Ok (record { taken = k; session = r })) n f
same_fed s (Ok a) (Err k) e f = cc
same_fed s (Err k) (Ok a) e f = cc
same_fed s (Err k) (Err l) e f = let q : k ≡ l = cc in ap Err q

module _ (p : Plain) (s : Session) (st : List ℕ) (sm : List Float) (im vo fl : List ℕ) (ys : List Float) (held : Holds p s st sm) where
  pub feed_once : (x y : Result Fed Refusal) (st₁ st₂ : List ℕ) (sm₁ sm₂ : List Float) (im₁ im₂ vo₁ vo₂ : List ℕ)
      → FeedMeets s st sm im vo fl ys x st₁ sm₁ im₁ vo₁ → FeedMeets s st sm im vo fl ys y st₂ sm₂ im₂ vo₂
      → Once x y st₁ st₂ sm₁ sm₂ im₁ im₂ vo₁ vo₂
  feed_once x y st₁ st₂ sm₁ sm₂ im₁ im₂ vo₁ vo₂ a b =
      let q : Plain = after p (feed_call st sm im vo fl ys) in
      let u = a.plain p held in
      let v = b.plain p held in
      let same : x ≡ y =
      same_fed s x y (u.0 ∙ sym v.0) (one_record q (next_of s x) st₁ sm₁ u.1 ∙ sym (one_record q (next_of s y) st₂ sm₂ v.1)) in
      record {
        answer = same;
        flags = a.stored ∙ ap (λ (r : Result Fed Refusal). paste st s.taken fl (count_of r)) same ∙ sym b.stored;
        samples = a.sampled ∙ ap (λ (r : Result Fed Refusal). kept_at s.mode (4 * s.taken + 4) ys (4 * count_of r) sm) same ∙ sym b.sampled;
        image = a.image ∙ ap (λ (r : Result Fed Refusal). fed_work r 441000 im) same ∙ sym b.image;
        counts = a.counts ∙ ap (λ (r : Result Fed Refusal). fed_work r 144000 vo) same ∙ sym b.counts;
      }

-- a flag store that is not F long is refused with 5, on any record
refusal_another : (u : Setup) (h : Phase) (m : Lengths) (fl : List ℕ) (ys : List Float) → eqb m.flags u.capacity ≡ false → feed_refusal u h m fl ys ≡ Err why.Memory
unfolding feed_refusal memory_refusal
refusal_another u h m fl ys e = rw e

refused_by_lem : (x : Result Fed Refusal) (r : Result Unit Refusal) → r ≡ Err why.Memory → FeedNumber x r → x ≡ Err why.Memory
refused_by_lem (Ok f) r e number = cc
refused_by_lem (Err k) r e number = cc

pub another_store : (s : Session) (st : List ℕ) (sm : List Float) (im vo fl : List ℕ) (ys : List Float) (x : Result Fed Refusal)
    (st' : List ℕ) (sm' : List Float) (im' vo' : List ℕ) → (length st ≡ s.capacity → ⊥)
    → FeedMeets s st sm im vo fl ys x st' sm' im' vo' → x ≡ Err why.Memory
another_store s st sm im vo fl ys x st' sm' im' vo' short a =
    refused_by_lem x _
    (refusal_another (setup_of s) s.phase (lengths (length st) (length sm) (length im) (length vo)) fl ys (ne_eqb (length st) s.capacity short)) a.number

-- ---- read, on any record

pub read_once : (s : Session) (x y : Result Reading Refusal) → ReadMeets s x → ReadMeets s y → x ≡ y
read_once s x y a b = a.says ∙ sym b.says
