-- What a card says of its session, and what of a session's point that is (02-change-requests.md, A.1, A.3): all but the count of windows, which a card
-- lacks. Definitions only.
use Rattle.std.specs.Prelude.{ℕ, ◌-◌, cond, eqb, ℤ, Float, Option, None, Some}
use Rattle.hough.specs.Pass.{angle_of}
use Rattle.plain.specs.Point as point
use Rattle.plain.specs.Point.{Point, Stage}
use Rattle.card.specs.declared.Card.{Card}

-- an end; of a session that has none yet there is no card
pub data Entry : Type 0 where
  reported : (start : ℕ) (start_quality rate : Float) (slant : Option Float) (skip : ℤ) (quality : Float) → Entry
  unfound : Entry
  cut_short : (start : ℕ) (start_quality : Float) → Entry
  endless : Entry

pub record Ledger : Type 0 where
  pub entry : Entry
  pub taken : ℕ
  pub evaluations : ℕ

-- ---- of a card

abbrev pub card_slant : ℕ → Option Float
card_slant q = cond (eqb q 255) None (Some (angle_of q))

abbrev pub card_entry : Card → Entry
card_entry c =
    cond (eqb c.end 0) (reported c.start c.start_quality c.rate (card_slant c.slant) c.skip c.quality)
    (cond (eqb c.end 1) unfound (cut_short c.start c.start_quality))

abbrev pub card_ledger : Card → Ledger
card_ledger c = record { entry = card_entry c; taken = c.taken; evaluations = c.evaluations }

-- ---- of a point

abbrev pub stage_entry : Stage → Entry
stage_entry point.searching = endless
stage_entry (point.collecting start windows start_quality) = endless
stage_entry (point.reported start windows start_quality rate slant skip quality) = reported start start_quality rate slant skip quality
stage_entry point.unfound = unfound
stage_entry (point.cut_short start windows start_quality) = cut_short start start_quality

abbrev pub point_ledger : Point → Ledger
point_ledger t = record { entry = stage_entry t.stage; taken = t.taken; evaluations = t.evaluations }

-- ---- the starts less an anchor

abbrev pub entry_less : ℕ → Entry → Entry
entry_less anchor (reported start start_quality rate slant skip quality) = reported (start - anchor) start_quality rate slant skip quality
entry_less anchor unfound = unfound
entry_less anchor (cut_short start start_quality) = cut_short (start - anchor) start_quality
entry_less anchor endless = endless

abbrev pub ledger_less : ℕ → Ledger → Ledger
ledger_less anchor l = record { entry = entry_less anchor l.entry; taken = l.taken; evaluations = l.evaluations }
