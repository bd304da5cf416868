-- Demand 3: every list of calls on one session answers as the plain session does and ends in its point;
-- and two lists with the same flags taken and the same parity samples end in the same point, less the anchors.
-- Assumes nothing.
use mathlib.Core.Path.{◌≡◌, refl, sym, ◌∙◌, ap, ap₂, subst}
use mathlib.Core.Bool.{false, false≢true}
use mathlib.Core.List.{List, ◌∷◌, Memᴰ}
use Prim.Native.Nat.{ℕ}
use Rattle.modespec.specs.Sizes.{robot}
use native.Mathlib.Omega.{arith}
use Rattle.std.specs.Prelude.{Ok, Err}
use Rattle.limits.specs.declared.Refusal.{Refusal}
use lib.ListN.{length, take, get_or}
use lib.Seq.{length-take-le}
use lib.Ieee.{Float}
use Rattle.plain.specs.Plain.{Plain, opened}
use Rattle.plain.specs.Point.{Point, point_of, point_less, FromAnchor}
use Rattle.plain.specs.Calls.{Lengths, Call, feed, Answer, refused, answer, answers, after, run_to, feed_refusal}
use Rattle.plain.specs.Lists.{flags_taken, list_reads}
use Rattle.plain.proofs.TwoLists.{two_lists, starts_from, silence}
use Rattle.session.specs.declared.Session.{Session}
use Rattle.session.specs.Hold.{setup_of, lengths, plain_of, Holds, OpenMeets, FeedNumber, feed_call, setup, session_point}
use Rattle.session.specs.Trace.{Trace, done, fed, gave, lent, another}
use Rattle.session.proofs.Rooms.{open_room}

-- a refused feed, whatever it was lent: the plain session refuses for the same cause, and stays
refuses : (p : Plain) (s : Session) (st : List ℕ) (sm : List Float) → Holds p s st sm → (m : Lengths) (fl : List ℕ) (ys : List Float) (e : Refusal)
    → FeedNumber (Err e) (feed_refusal (setup_of s) s.phase m fl ys)
    → (refused e ≡ answer p (feed m fl ys)) × (after p (feed m fl ys) ≡ p)
refuses p s st sm h m fl ys e number =
    let why : feed_refusal p.setup p.phase m fl ys ≡ Err e = ap (λ (q : Plain). feed_refusal q.setup q.phase m fl ys) (sym h.same) ∙ number in
    (rw why, rw why)

-- without parity samples any sample store will do
any_samples : (p : Plain) (s : Session) (st : List ℕ) (sm other : List Float) → robot s.mode ≡ false → Holds p s st sm → Holds p s st other
any_samples p s st sm other e h =
    record {
      same = h.same;
      known = λ r. absurd (false≢true (sym e ∙ r));
      whole = h.whole;
      wide = λ r. absurd (false≢true (sym e ∙ r));
      sane = h.sane;
    }

-- what is held along a list
pub follows : {s : Session} {st : List ℕ} {sm : List Float} {cs : List Call} {as' : List Answer} {z : Session} {st' : List ℕ} {sm' : List Float}
    → Trace s st sm cs as' z st' sm' → (p : Plain) → Holds p s st sm → (as' ≡ answers p cs) × Holds (run_to p cs) z st' sm'
unfolding answers run_to
follows (done s st sm) p h = (refl, h)
follows (fed s st sm im vo fl ys r st₁ sm₁ im₁ vo₁ cs as' z st' sm' m t) p h =
    let one = m.plain p h in
    let rest = follows t (after p (feed_call st sm im vo fl ys)) one.1 in
    (ap₂ (λ (a : Answer) (l : List Answer). a ∷ l) one.0 rest.0, rest.1)
follows (gave s st sm g cs as' z st' sm' m t) p h =
    let rest = follows t p h in
    (ap₂ (λ (a : Answer) (l : List Answer). a ∷ l) (m.plain p st sm h) rest.0, rest.1)
follows (lent s st sm os oy im vo fl ys e os₁ oy₁ im₁ vo₁ cs as' z st' sm' m t) p h =
    let one = refuses p s st sm h (lengths (length os) (length oy) (length im) (length vo)) fl ys e m.number in
    let rest = follows t (after p (feed_call os oy im vo fl ys)) (subst (λ (q : Plain). Holds q s st sm) (sym one.1) h) in
    (ap₂ (λ (a : Answer) (l : List Answer). a ∷ l) one.0 rest.0, rest.1)
follows (another s st sm other cs as' z st' sm' e t) p h = follows t p (any_samples p s st sm other e h)

held_point : (p : Plain) (s : Session) (st : List ℕ) (sm : List Float) → Holds p s st sm → session_point s ≡ point_of p
held_point p s st sm h =
    let room = h.sane.room in
    let whole = h.whole in
    let e : length (take s.taken st) ≡ s.taken = length-take-le s.taken st (omega arith) in
    let f : session_point s ≡ point_of (plain_of s st p.samples) = rw e in
    f ∙ ap point_of h.same

-- First theorem: all answers of a list and the point after it, in one claim.
pub as_plain : (mode anchor : ℕ) (st : List ℕ) (sm first sm₀ : List Float) (s : Session) → OpenMeets mode anchor st sm first (Ok s) sm₀
    → {cs : List Call} {as' : List Answer} {z : Session} {st' : List ℕ} {sm' : List Float} → Trace s st sm₀ cs as' z st' sm'
    → (as' ≡ answers (opened (setup mode anchor (length st)) first) cs)
    × (session_point z ≡ point_of (run_to (opened (setup mode anchor (length st)) first) cs))
as_plain mode anchor st sm first sm₀ s o {cs} {as'} {z} {st'} {sm'} t =
    let p : Plain = opened (setup mode anchor (length st)) first in
    let r = follows t p o.says.2 in
    (r.0, held_point (run_to p cs) z st' sm' r.1)

-- Beside the second theorem: the start after a list, where there is one, is not before the anchor, so that the start less the anchor is cut nowhere.
pub start_from_anchor : (mode anchor : ℕ) (st : List ℕ) (sm first sm₀ : List Float) (s : Session) → OpenMeets mode anchor st sm first (Ok s) sm₀
    → {cs : List Call} {as' : List Answer} {z : Session} {st' : List ℕ} {sm' : List Float} → Trace s st sm₀ cs as' z st' sm'
    → FromAnchor anchor (session_point z).stage
start_from_anchor mode anchor st sm first sm₀ s o {cs} t =
    subst (λ (p : Point). FromAnchor anchor p.stage) (sym (as_plain mode anchor st sm first sm₀ s o t).1) (starts_from (setup mode anchor (length st)) first cs)

-- Second theorem: two lists of one mode and store length, any anchors, cuts, refused calls and other samples. With the same flags taken,
-- and each sample that an evaluation of the first reads for parity equal under its number in the second: the same point, the starts less the anchors.
pub same_point : (mode a b : ℕ) (st₁ st₂ : List ℕ) (sm₁ first₁ sm₁' sm₂ first₂ sm₂' : List Float) (s₁ s₂ : Session) → length st₁ ≡ length st₂
    → OpenMeets mode a st₁ sm₁ first₁ (Ok s₁) sm₁' → OpenMeets mode b st₂ sm₂ first₂ (Ok s₂) sm₂'
    → {cs ds : List Call} {as' bs : List Answer} {z₁ z₂ : Session} {fe₁ fe₂ : List ℕ} {se₁ se₂ : List Float}
    → Trace s₁ st₁ sm₁' cs as' z₁ fe₁ se₁ → Trace s₂ st₂ sm₂' ds bs z₂ fe₂ se₂
    → flags_taken (opened (setup mode a (length st₁)) first₁) cs ≡ flags_taken (opened (setup mode b (length st₂)) first₂) ds
    → ((n : ℕ) → Memᴰ n (list_reads (opened (setup mode a (length st₁)) first₁) cs)
    → get_or (run_to (opened (setup mode a (length st₁)) first₁) cs).samples n silence
    ≡ get_or (run_to (opened (setup mode b (length st₂)) first₂) ds).samples n silence)
    → point_less a (session_point z₁) ≡ point_less b (session_point z₂)
same_point mode a b st₁ st₂ sm₁ first₁ sm₁' sm₂ first₂ sm₂' s₁ s₂ size o₁ o₂ {cs} {ds} t₁ t₂ flags parity =
    let k = length st₂ in
    let r₁ = as_plain mode a st₁ sm₁ first₁ sm₁' s₁ o₁ t₁ in
    let r₂ = as_plain mode b st₂ sm₂ first₂ sm₂' s₂ o₂ t₂ in
    let four₁ : length first₁ ≡ 4 = (open_room mode a (length st₁) (length sm₁) first₁ o₁.says.0).four in
    let four₂ : length first₂ ≡ 4 = (open_room mode b (length st₂) (length sm₂) first₂ o₂.says.0).four in
    ap (point_less a) r₁.1
    ∙ ap (λ (n : ℕ). point_less a (point_of (run_to (opened (setup mode a n) first₁) cs))) size
    ∙ two_lists mode (length st₂) a b first₁ first₂ cs ds four₁ four₂ (rw size at flags) (rw size at parity)
    ∙ ap (point_less b) (sym r₂.1)
