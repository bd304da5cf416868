-- A list of calls on one session (01-scope.md, "The plain session of demand 3"). Each step is one that the called function's `ensures` allows.
-- Every list of calls has such a trace: each call is total, and its `ensures`, which asks nothing of record or memory, gives the step.
-- Definitions only.
use Rattle.std.specs.Prelude.{◌≡◌, false, ℕ, List, [], ◌∷◌, Float, Result, Err}
use Rattle.limits.specs.declared.Refusal.{Refusal}
use Rattle.modespec.specs.Sizes.{robot}
use Rattle.plain.specs.declared.Reading.{Reading}
use Rattle.plain.specs.Calls.{Call, read, Answer, refused}
use Rattle.session.specs.declared.Session.{Session}
use Rattle.session.specs.declared.Fed.{Fed}
use Rattle.session.specs.Hold.{FeedMeets, ReadMeets, answer_of, given_of, next_of, feed_call}

-- Trace s flagStore sampleStore calls answers z: from the record s and the stores, the calls get the answers and leave the record z.
-- Each call gets the record last returned, a refusal returns none, and the stores as last left; the work memory may hold anything.
pub data Trace : Session → List ℕ → List Float → List Call → List Answer → Session → List ℕ → List Float → Type 0 where
  done : (s : Session) (flag_store : List ℕ) (sample_store : List Float) → Trace s flag_store sample_store [] [] s flag_store sample_store
  fed : (s : Session) (flag_store : List ℕ) (sample_store : List Float) (img votes flags : List ℕ) (samples : List Float)
      (r : Result Fed Refusal) (flag_store' : List ℕ) (sample_store' : List Float) (img' votes' : List ℕ)
      (cs : List Call) (as' : List Answer) (z : Session) (flag_end : List ℕ) (sample_end : List Float)
      → FeedMeets s flag_store sample_store img votes flags samples r flag_store' sample_store' img' votes'
      → Trace (next_of s r) flag_store' sample_store' cs as' z flag_end sample_end
      → Trace s flag_store sample_store (feed_call flag_store sample_store img votes flags samples ∷ cs) (answer_of r ∷ as') z flag_end sample_end
  gave : (s : Session) (flag_store : List ℕ) (sample_store : List Float) (g : Result Reading Refusal)
      (cs : List Call) (as' : List Answer) (z : Session) (flag_end : List ℕ) (sample_end : List Float)
      → ReadMeets s g
      → Trace s flag_store sample_store cs as' z flag_end sample_end
      → Trace s flag_store sample_store (read ∷ cs) (given_of g ∷ as') z flag_end sample_end
  -- a feed that was lent other stores, as of another length, and was refused
  lent : (s : Session) (flag_store : List ℕ) (sample_store : List Float) (other_flags : List ℕ) (other_samples : List Float)
      (img votes flags : List ℕ) (samples : List Float) (e : Refusal) (other_flags' : List ℕ) (other_samples' : List Float) (img' votes' : List ℕ)
      (cs : List Call) (as' : List Answer) (z : Session) (flag_end : List ℕ) (sample_end : List Float)
      → FeedMeets s other_flags other_samples img votes flags samples (Err e) other_flags' other_samples' img' votes'
      → Trace s flag_store sample_store cs as' z flag_end sample_end
      → Trace s flag_store sample_store (feed_call other_flags other_samples img votes flags samples ∷ cs) (refused e ∷ as') z flag_end sample_end
  -- without parity samples nothing is kept in the sample store, and the next call may be lent another one
  another : (s : Session) (flag_store : List ℕ) (sample_store other_samples : List Float)
      (cs : List Call) (as' : List Answer) (z : Session) (flag_end : List ℕ) (sample_end : List Float)
      → robot s.mode ≡ false
      → Trace s flag_store other_samples cs as' z flag_end sample_end
      → Trace s flag_store sample_store cs as' z flag_end sample_end
