-- What the private steps of a session ensure (01-scope.md, "Session"): each does to the plain session that it stands for what the definition says.
-- Definitions only.
use Rattle.std.specs.Prelude.{◌≡◌, ℕ, ◌+◌, ◌*◌, ◌≤◌, ◌<◌, ◌^◌, Bool, true, false, List, ◌++◌, length, take, Float}
use Rattle.std.proofs.Math.Seq.{paste}
use Rattle.plain.specs.Plain.{ended_phase, stir_at, evaluating, reporting, ending, events, joined, through}
use Rattle.session.specs.declared.Session.{Session}
use Rattle.session.specs.Hold.{setup_of, plain_of, Known, position_of, Sane, kept_at, work_after}

pub record Gap (s : Session) (r : ℕ) : Type 0 where
  pub some : 0 < r
  pub fits : s.taken + r ≤ s.capacity
  pub calm : (k : ℕ) → s.taken < k → k < s.taken + r → stir_at s.phase (setup_of s) k ≡ false

-- the fields that no event changes
pub record Kept (s r : Session) : Type 0 where
  pub mode : r.mode ≡ s.mode
  pub anchor : r.anchor ≡ s.anchor
  pub capacity : r.capacity ≡ s.capacity
  pub taken : r.taken ≡ s.taken

pub record Judged (s : Session) (flag_store : List ℕ) (sample_store : List Float) (r : Session) : Type 0 where
  pub kept : Kept s r
  pub plain : (known : List Float) → Known s sample_store known → plain_of r flag_store known ≡ evaluating (plain_of s flag_store known)
  pub evaluations : r.evaluations ≤ s.evaluations + 1
  pub streak : r.streak ≤ r.evaluations
  pub near : position_of s.phase ≤ 2 ^ 62 → position_of r.phase ≤ 2 ^ 62

pub record Finished (s : Session) (flag_store img votes : List ℕ) (r : Session) (img' votes' : List ℕ) : Type 0 where
  pub kept : Kept s r
  pub plain : (known : List Float) → plain_of r flag_store known ≡ reporting (plain_of s flag_store known)
  pub evaluations : r.evaluations ≡ s.evaluations
  pub streak : r.streak ≡ s.streak
  pub near : position_of r.phase ≡ position_of s.phase
  pub image : ended_phase s.phase ≡ false → img' ≡ work_after r.phase 441000 img
  pub counts : ended_phase s.phase ≡ false → votes' ≡ work_after r.phase 144000 votes

pub record Closed (s r : Session) : Type 0 where
  pub kept : Kept s r
  pub plain : (flag_store : List ℕ) (known : List Float) → s.taken ≤ length flag_store → plain_of r flag_store known ≡ ending (plain_of s flag_store known)
  pub evaluations : r.evaluations ≡ s.evaluations
  pub streak : r.streak ≡ s.streak
  pub near : position_of r.phase ≡ position_of s.phase
  pub live : ended_phase r.phase ≡ false → r.taken ≡ r.capacity → ⊥
  pub work : (n : ℕ) (w : List ℕ) → work_after r.phase n w ≡ work_after s.phase n w

-- a chunk
pub record Turned
    (s : Session) (flag_store : List ℕ) (sample_store : List Float) (img votes flags : List ℕ) (samples : List Float)
    (r : Session) (flag_store' : List ℕ) (sample_store' : List Float) (img' votes' : List ℕ) : Type 0 where
  pub plain : (known : List Float) → Known s sample_store known
      → plain_of r flag_store' (known ++ samples) ≡ events (joined (plain_of s flag_store known) flags samples)
  pub known : (known : List Float) → Known s sample_store known → Known r sample_store' (known ++ samples)
  pub mode : r.mode ≡ s.mode
  pub taken : r.taken ≡ s.taken + length flags
  pub capacity : r.capacity ≡ s.capacity
  pub sane : Sane r
  pub stored : flag_store' ≡ paste flag_store s.taken flags (length flags)
  pub sampled : sample_store' ≡ kept_at s.mode (4 * s.taken + 4) samples (length samples) sample_store
  pub image : img' ≡ work_after r.phase 441000 img
  pub counts : votes' ≡ work_after r.phase 144000 votes

pub record SaneTest (s : Session) (b : Bool) : Type 0 where
  pub yes : b ≡ true → Sane s
  pub no : b ≡ false → ended_phase s.phase ≡ false → Sane s → ⊥

-- a whole piece
pub record Ran
    (s : Session) (flag_store : List ℕ) (sample_store : List Float) (img votes flags : List ℕ) (samples : List Float)
    (n : ℕ) (r : Session) (flag_store' : List ℕ) (sample_store' : List Float) (img' votes' : List ℕ) : Type 0 where
  pub count : n ≤ length flags
  pub room : s.taken + n ≤ length flag_store
  pub mode : r.mode ≡ s.mode
  pub taken : r.taken ≡ s.taken + n
  pub capacity : r.capacity ≡ s.capacity
  pub sane : Sane r
  pub plain : (known : List Float) → Known s sample_store known
      → plain_of r flag_store' (known ++ take (4 * n) samples) ≡ through (plain_of s flag_store known) flags samples
  pub known : (known : List Float) → Known s sample_store known → Known r sample_store' (known ++ take (4 * n) samples)
  pub stored : flag_store' ≡ paste flag_store s.taken flags n
  pub sampled : sample_store' ≡ kept_at s.mode (4 * s.taken + 4) samples (4 * n) sample_store
  pub image : img' ≡ work_after r.phase 441000 img
  pub counts : votes' ≡ work_after r.phase 144000 votes
