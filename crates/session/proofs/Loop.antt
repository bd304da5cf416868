-- A piece, chunk by chunk.
-- Assumes nothing.
use mathlib.Core.Path.{◌≡◌, refl, sym, ◌∙◌, ap, ap₂, subst}
use mathlib.Core.Bool.{true, false}
use mathlib.Core.List.{List, [], ◌++◌, append_assoc, append-nil}
use Prim.Native.Nat.{ℕ, ◌+◌, ◌-◌, ◌*◌, ◌≤◌, ◌<◌}
use native.Mathlib.Omega.{arith}
use lib.ListN.{length, take, drop, length-drop, take-append-drop}
use Rattle.std.proofs.lemmas.List.{drop-drop}
use lib.Seq.{length-take-le, paste, paste-zero, length-paste, take-add, take_all}
use lib.Ieee.{Float}
use Rattle.modespec.specs.Sizes.{robot}
use Rattle.plain.specs.Plain.{Plain, ended_phase, through}
use Rattle.plain.proofs.Laws.{through_append, through_ended, through_nil, chunk_any}
use Rattle.session.specs.declared.Session.{Session}
use Rattle.session.specs.Hold.{plain_of, Known, Sane, kept_at, work_after}
use Rattle.session.specs.Steps.{Gap, Turned, Ran}
use Rattle.session_parts.proofs.Lists.{paste_more, piece_length}
use Rattle.session_parts.proofs.Kept.{kept_none, kept_more}
use Rattle.session.proofs.Steps.{live_work}

-- what a run is given
pub record Room (s : Session) (st : List ℕ) (sm : List Float) (im vo fl : List ℕ) (ys : List Float) : Type 0 where
  pub kept : s.capacity ≡ length st
  pub wide : robot s.mode ≡ true → 4 * s.capacity + 4 ≤ length sm
  pub image : 441000 ≤ length im
  pub counts : 144000 ≤ length vo
  pub short : length fl ≤ 16777216
  pub four : length ys ≡ 4 * length fl

-- the session after i flags of the piece
pub record Part
    (s₀ : Session) (st₀ : List ℕ) (sm₀ : List Float) (im₀ vo₀ fl : List ℕ) (ys : List Float)
    (i : ℕ) (s : Session) (st : List ℕ) (sm : List Float) (im vo : List ℕ) : Type 0 where
  pub given : Room s₀ st₀ sm₀ im₀ vo₀ fl ys
  pub count : i ≤ length fl
  pub room : s₀.taken + i ≤ length st₀
  pub mode : s.mode ≡ s₀.mode
  pub taken : s.taken ≡ s₀.taken + i
  pub capacity : s.capacity ≡ s₀.capacity
  pub sane : Sane s
  pub plain : (known : List Float) → Known s₀ sm₀ known
      → plain_of s st (known ++ take (4 * i) ys) ≡ through (plain_of s₀ st₀ known) (take i fl) (take (4 * i) ys)
  pub known : (known : List Float) → Known s₀ sm₀ known → Known s sm (known ++ take (4 * i) ys)
  pub stored : st ≡ paste st₀ s₀.taken fl i
  pub sampled : sm ≡ kept_at s₀.mode (4 * s₀.taken + 4) ys (4 * i) sm₀
  pub image : im ≡ work_after s.phase 441000 im₀
  pub counts : vo ≡ work_after s.phase 144000 vo₀

-- what is left of the piece, as many flags as it is shorter after those taken
pub record Left (fl : List ℕ) (ys : List Float) (fl' : List ℕ) (ys' : List Float) : Type 0 where
  pub flags : fl' ≡ drop (length fl - length fl') fl
  pub samples : ys' ≡ drop (4 * (length fl - length fl')) ys

-- the whole piece is left
pub left_all : (fl : List ℕ) (ys : List Float) → Left fl ys fl ys
left_all fl ys = let e : length fl - length fl ≡ 0 = omega arith in record { flags = rw e; samples = rw e }

module _ (fl : List ℕ) (ys : List Float) (fl' : List ℕ) (ys' : List Float) (h : Left fl ys fl' ys') where
  pub left_fits : length fl' ≤ length fl
  left_fits = let e : length fl' ≡ length fl - (length fl - length fl') = ap length h.flags ∙ length-drop (length fl - length fl') fl in omega arith

  -- n flags less are left
  module _ (n : ℕ) (le : n ≤ length fl') (fl₂ : List ℕ) (ys₂ : List Float) (f : fl₂ ≡ drop n fl') (y : ys₂ ≡ drop (4 * n) ys') where
    pub left_place : length fl - length fl₂ ≡ length fl - length fl' + n
    left_place =
        let fits = left_fits in
        let e : length fl₂ ≡ length fl' - n = ap length f ∙ length-drop n fl' in
        omega arith

    pub left_more : Left fl ys fl₂ ys₂
    left_more =
        let four : 4 * (length fl - length fl' + n) ≡ 4 * (length fl - length fl') + 4 * n = omega arith in
        record {
          flags = rw left_place (f ∙ ap (drop n) h.flags ∙ drop-drop n (length fl - length fl') fl);
          samples = rw (left_place, four) (y ∙ ap (drop (4 * n)) h.samples ∙ drop-drop (4 * n) (4 * (length fl - length fl')) ys);
        }

-- ---- the length of the flag store

module _
    (s₀ : Session) (st₀ : List ℕ) (sm₀ : List Float) (im₀ vo₀ fl : List ℕ) (ys : List Float)
    (i : ℕ) (s : Session) (st : List ℕ) (sm : List Float) (im vo : List ℕ) (h : Part s₀ st₀ sm₀ im₀ vo₀ fl ys i s st sm im vo) where
  pub part_store : length st ≡ length st₀
  part_store = ap length h.stored ∙ length-paste st₀ s₀.taken fl i h.room h.count

-- ---- nothing taken yet

pub part_none : (s : Session) (st : List ℕ) (sm : List Float) (im vo fl : List ℕ) (ys : List Float)
    → Sane s → ended_phase s.phase ≡ false → Room s st sm im vo fl ys → Part s st sm im vo fl ys 0 s st sm im vo
part_none s st sm im vo fl ys sane live given =
    let room = sane.room in
    let kept = given.kept in
    record {
      given = given;
      count = omega arith;
      room = omega arith;
      mode = refl;
      taken = omega arith;
      capacity = refl;
      sane = sane;
      plain = λ known _. ap (plain_of s st) (append-nil known) ∙ sym (through_nil (plain_of s st known) []);
      known = λ known k. rw (append-nil known) k;
      stored = paste-zero st s.taken fl;
      sampled = kept_none s.mode (4 * s.taken + 4) sm ys;
      image = sym (live_work s.phase 441000 im live);
      counts = sym (live_work s.phase 144000 vo live);
    }

-- ---- one chunk more

four_more : (i n : ℕ) → 4 * (i + n) ≡ 4 * i + 4 * n
four_more i n = omega arith

-- the samples of i flags, and those of n more
samples_more : (known ys p : List Float) (i n : ℕ) → p ≡ take (4 * n) (drop (4 * i) ys)
    → (known ++ take (4 * i) ys) ++ p ≡ known ++ take (4 * (i + n)) ys
samples_more known ys p i n hp =
    append_assoc known (take (4 * i) ys) p
    ∙ ap (λ (l : List Float). known ++ (take (4 * i) ys ++ l)) hp
    ∙ ap (λ (l : List Float). known ++ l) (sym (take-add (4 * i) (4 * n) ys))
    ∙ ap (λ (k : ℕ). known ++ take k ys) (sym (four_more i n))

through_more : (p : Plain) (fl xs : List ℕ) (ys zs : List Float) (i n : ℕ) → i ≤ length fl → length ys ≡ 4 * length fl
    → xs ≡ take n (drop i fl) → zs ≡ take (4 * n) (drop (4 * i) ys)
    → through (through p (take i fl) (take (4 * i) ys)) xs zs ≡ through p (take (i + n) fl) (take (4 * (i + n)) ys)
through_more p fl xs ys zs i n le four hx hz =
    let a : length (take i fl) ≡ i = length-take-le i fl le in
    let b : length (take (4 * i) ys) ≡ 4 * i = length-take-le (4 * i) ys (omega arith) in
    sym (through_append p (take i fl) xs (take (4 * i) ys) zs (omega arith))
    ∙ ap₂ (λ (f : List ℕ) (y : List Float). through p f y)
    (ap (λ (l : List ℕ). take i fl ++ l) hx ∙ sym (take-add i n fl))
    (samples_more [] ys zs i n hz)

pub part_more : (s₀ : Session) (st₀ : List ℕ) (sm₀ : List Float) (im₀ vo₀ fl : List ℕ) (ys : List Float)
    (i : ℕ) (s : Session) (st : List ℕ) (sm : List Float) (im vo : List ℕ)
    (g n : ℕ) (xs : List ℕ) (zs : List Float) (r : Session) (st' : List ℕ) (sm' : List Float) (im' vo' : List ℕ)
    → Part s₀ st₀ sm₀ im₀ vo₀ fl ys i s st sm im vo → ended_phase s.phase ≡ false → Gap s g → 0 < n → n ≤ g → i + n ≤ length fl
    → xs ≡ take n (drop i fl) → zs ≡ take (4 * n) (drop (4 * i) ys) → Turned s st sm im vo xs zs r st' sm' im' vo'
    → Part s₀ st₀ sm₀ im₀ vo₀ fl ys (i + n) r st' sm' im' vo'
part_more s₀ st₀ sm₀ im₀ vo₀ fl ys i s st sm im vo g n xs zs r st' sm' im' vo' h live gap some le fits hx hz t =
    let kept = h.given.kept in
    let four = h.given.four in
    let room = h.room in
    let taken = h.taken in
    let cap = h.capacity in
    let gfits = gap.fits in
    let scap : s.taken ≤ s.capacity = h.sane.room in
    let size = part_store s₀ st₀ sm₀ im₀ vo₀ fl ys i s st sm im vo h in
    let len : length xs ≡ n = ap length hx ∙ piece_length fl i n fits in
    let zlen : length zs ≡ 4 * n = ap length hz ∙ piece_length ys (4 * i) (4 * n) (omega arith) in
    let zfour : length zs ≡ 4 * length xs = omega arith in
    let taken_len : length (take s.taken st) ≡ s.taken = length-take-le s.taken st (omega arith) in
    let calm : (k : ℕ) → length (take s.taken st) < k → k < length (take s.taken st) + length xs → _ = λ k lo hi. gap.calm k (omega arith) (omega arith) in
    record {
      given = h.given;
      count = fits;
      room = omega arith;
      mode = t.mode ∙ h.mode;
      taken = t.taken ∙ (let e = t.taken in omega arith);
      capacity = t.capacity ∙ cap;
      sane = t.sane;
      plain = λ known hk.
          let k' : List Float = known ++ take (4 * i) ys in
          ap (plain_of r st') (sym (samples_more known ys zs i n hz))
          ∙ t.plain k' (h.known known hk)
          ∙ sym (chunk_any (plain_of s st k') xs zs zfour (omega arith) live calm)
          ∙ ap (λ (p : Plain). through p xs zs) (h.plain known hk)
          ∙ through_more (plain_of s₀ st₀ known) fl xs ys zs i n h.count four hx hz;
      known = λ known hk. subst (λ (l : List Float). Known r sm' l) (samples_more known ys zs i n hz) (t.known (known ++ take (4 * i) ys) (h.known known hk));
      stored =
          t.stored
          ∙ ap₂ (λ (l : List ℕ) (k : ℕ). paste l k xs (length xs)) h.stored h.taken
          ∙ paste_more st₀ fl s₀.taken i n xs (omega arith) fits hx len;
      sampled =
          t.sampled
          ∙ ap (λ (m : ℕ). kept_at m (4 * s.taken + 4) zs (length zs) sm) h.mode
          ∙ ap₂ (λ (k : ℕ) (l : List Float). kept_at s₀.mode (4 * k + 4) zs (length zs) l) h.taken h.sampled
          ∙ kept_more s₀.mode s₀.taken i n sm₀ ys zs (λ b. let w = h.given.wide b in omega arith) (omega arith) hz zlen;
      image = t.image ∙ ap (work_after r.phase 441000) (h.image ∙ live_work s.phase 441000 im₀ live);
      counts = t.counts ∙ ap (work_after r.phase 144000) (h.counts ∙ live_work s.phase 144000 vo₀ live);
    }

-- ---- the end of the run

module _
    (s₀ : Session) (st₀ : List ℕ) (sm₀ : List Float) (im₀ vo₀ fl : List ℕ) (ys : List Float)
    (i : ℕ) (s : Session) (st : List ℕ) (sm : List Float) (im vo : List ℕ) (h : Part s₀ st₀ sm₀ im₀ vo₀ fl ys i s st sm im vo) where
  ran : ((known : List Float) → Known s₀ sm₀ known
      → through (plain_of s₀ st₀ known) (take i fl) (take (4 * i) ys) ≡ through (plain_of s₀ st₀ known) fl ys)
      → Ran s₀ st₀ sm₀ im₀ vo₀ fl ys i s st sm im vo
  ran e =
      record {
        count = h.count;
        room = h.room;
        mode = h.mode;
        taken = h.taken;
        capacity = h.capacity;
        sane = h.sane;
        plain = λ known k. h.plain known k ∙ e known k;
        known = h.known;
        stored = h.stored;
        sampled = h.sampled;
        image = h.image;
        counts = h.counts;
      }

  pub ran_ended : ended_phase s.phase ≡ true → Ran s₀ st₀ sm₀ im₀ vo₀ fl ys i s st sm im vo
  ran_ended e =
      let four = h.given.four in
      let count = h.count in
      let a : length (take i fl) ≡ i = length-take-le i fl h.count in
      let b : length (take (4 * i) ys) ≡ 4 * i = length-take-le (4 * i) ys (omega arith) in
      ran
      (λ known k.
      let p = plain_of s₀ st₀ known in
      let q = through p (take i fl) (take (4 * i) ys) in
      let over : ended_phase q.phase ≡ true = ap (λ (x : Plain). ended_phase x.phase) (sym (h.plain known k)) ∙ e in
      sym (through_ended q (drop i fl) (drop (4 * i) ys) over)
      ∙ sym (through_append p (take i fl) (drop i fl) (take (4 * i) ys) (drop (4 * i) ys) (omega arith))
      ∙ ap₂ (λ (f : List ℕ) (y : List Float). through p f y) (take-append-drop i fl) (take-append-drop (4 * i) ys))

  -- nothing is left of the piece
  pub ran_all : length fl ≤ i → Ran s₀ st₀ sm₀ im₀ vo₀ fl ys i s st sm im vo
  ran_all le =
      let four = h.given.four in
      ran (λ known _. ap₂ (λ (f : List ℕ) (y : List Float). through (plain_of s₀ st₀ known) f y) (take_all i fl le) (take_all (4 * i) ys (omega arith)))
