-- A record that a call returned says the session that the inner call returned: what is true of a list of inner calls is true of a host
-- that hands back the record it got.
-- Assumes nothing.
use mathlib.Core.Path.{◌≡◌, refl}
use Prim.Native.Nat.{ℕ}
use lib.IntN.{ℤ}
use lib.Ieee.{Float}
use Rattle.std.specs.Prelude.{Option, None, Some}
use Rattle.sync.specs.declared.SyncResult.{SyncResult}
use Rattle.plain.specs.declared.Start.{Start}
use Rattle.plain.specs.declared.Phase.{Phase}
use Rattle.plain.specs.declared.Phase.TheVariants.{Searching, Collecting, Reported, Unfound, CutShort}
use Rattle.session.specs.declared.Session.{Session}
use Rattle.c_record.specs.Record.{session_of, session_wire}

abbrev made : (mode anchor capacity taken evaluations streak : ℕ) → Phase → Session
made m a c t e k h = record { mode = m; anchor = a; capacity = c; taken = t; evaluations = e; streak = k; phase = h }

abbrev report : Float → ℤ → Option Float → Float → SyncResult
report rate skip slant quality =
    record { adjusted_rate_hz = rate; skip_samples = skip; slant_deg = slant; sync_quality = quality }

reported : (m a c t e k : ℕ) (x : Start) (rate : Float) (skip : ℤ) (slant : Option Float) (quality : Float)
    → let s = made m a c t e k (Reported x (report rate skip slant quality)) in session_of (session_wire s) ≡ s
reported m a c t e k x rate skip None quality = refl
reported m a c t e k x rate skip (Some d) quality = refl

by_phase : (m a c t e k : ℕ) (h : Phase) → session_of (session_wire (made m a c t e k h)) ≡ made m a c t e k h
by_phase m a c t e k Searching = refl
by_phase m a c t e k (Collecting x) = refl
by_phase m a c t e k (Reported x r) = reported m a c t e k x r.adjusted_rate_hz r.skip_samples r.slant_deg r.sync_quality
by_phase m a c t e k Unfound = refl
by_phase m a c t e k (CutShort x) = refl

pub round_trip : (s : Session) → session_of (session_wire s) ≡ s
round_trip s = by_phase s.mode s.anchor s.capacity s.taken s.evaluations s.streak s.phase
