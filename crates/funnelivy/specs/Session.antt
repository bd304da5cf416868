-- Open, feed and read, as the C interface answers them (include/funnelivy.h; 01-scope.md, "Session"): each is the inner call on the session
-- that the record says, with its answer written as numbers. Definitions only.
use Rattle.std.specs.Prelude.{◌≡◌, ℕ, List, Float, Result}
use Rattle.limits.specs.declared.Refusal.{Refusal}
use Rattle.plain.specs.declared.Reading.{Reading}
use Rattle.session.specs.declared.Session.{Session}
use Rattle.session.specs.declared.Fed.{Fed}
use Rattle.session.specs.Hold.{OpenMeets, FeedMeets, ReadMeets}
use Rattle.c_record.specs.declared.FunnelivySession.{FunnelivySession}
use Rattle.c_record.specs.declared.FunnelivyOpened.{FunnelivyOpened}
use Rattle.c_record.specs.declared.FunnelivyFed.{FunnelivyFed}
use Rattle.c_record.specs.declared.FunnelivyReading.{FunnelivyReading}
use Rattle.c_record.specs.Record.{session_of}
use Rattle.c_record.specs.Session.{opened_wire, fed_wire, reading_wire}

pub record OpenedMeets (mode anchor : ℕ) (flag_store : List ℕ) (sample_store first : List Float) (r : FunnelivyOpened) (sample_store' : List Float) : Type 0 where
  pub opened : Result Session Refusal
  pub is : r ≡ opened_wire opened
  pub meets : OpenMeets mode anchor flag_store sample_store first opened sample_store'

pub record FedMeets
    (w : FunnelivySession) (flag_store : List ℕ) (sample_store : List Float) (img votes flags : List ℕ) (samples : List Float)
    (r : FunnelivyFed) (flag_store' : List ℕ) (sample_store' : List Float) (img' votes' : List ℕ) : Type 0 where
  pub fed : Result Fed Refusal
  pub is : r ≡ fed_wire fed
  pub meets : FeedMeets (session_of w) flag_store sample_store img votes flags samples fed flag_store' sample_store' img' votes'

pub record ReadingMeets (w : FunnelivySession) (r : FunnelivyReading) : Type 0 where
  pub given : Result Reading Refusal
  pub is : r ≡ reading_wire given
  pub meets : ReadMeets (session_of w) given
