-- The card of a session (02-change-requests.md, A.1). Definitions only.
use Rattle.std.specs.Prelude.{ℕ, false, cond, ◌&&◌, ltb, pos, Float, Option, None, Some, Result, Ok, Err}
use Rattle.std.specs.Float.{fin, binary64}
use Rattle.std.specs.Float.Ieee.{sub, mul, eq, to_unsigned}
use Rattle.limits.specs.declared.Refusal.{Refusal}
use Rattle.ieee.specs.Numbers.{of_nat}
use Rattle.hough.specs.Pass.{angle_of}
use Rattle.plain.specs.declared.End.{End}
use Rattle.plain.specs.declared.End.TheVariants as end
use Rattle.plain.specs.declared.Reading.{Reading}
use Rattle.session.specs.declared.Session.{Session}
use Rattle.session.specs.Hold.{given_by}
use Rattle.card.specs.declared.Card.{Card}

-- q, if the angle is that of q; else 254, which no card may hold. A session's slant is always one of the 240 angles.
abbrev pub index_at : ℕ → Float → ℕ
index_at q angle = cond (ltb q 240 && eq (angle_of q) angle) q 254

-- the slant index: 30 + q / 2 is the angle of q, and 255 is for none
unfoldable pub slant_index : Option Float → ℕ
slant_index None = 255
slant_index (Some angle) = index_at (to_unsigned 64 (mul binary64 (sub binary64 angle (of_nat 30)) (of_nat 2))) angle

-- what an unfound and a cut short end lack is zero, q 255
abbrev pub unreported_card : ℕ → ℕ → ℕ → ℕ → ℕ → Float → Card
unreported_card mode end taken evaluations start start_quality =
    record {
      mode = mode;
      end = end;
      taken = taken;
      evaluations = evaluations;
      start = start;
      start_quality = start_quality;
      rate = fin false 0 (pos 0);
      slant = 255;
      skip = pos 0;
      quality = fin false 0 (pos 0);
    }

-- by the end: 0 reported, 1 unfound, 2 cut short. A card lacks the count of windows (02-change-requests.md, A.3).
abbrev pub end_card : ℕ → End → ℕ → ℕ → Card
end_card mode (end.Reported start windows start_quality rate slant skip quality) taken evaluations =
    record {
      mode = mode;
      end = 0;
      taken = taken;
      evaluations = evaluations;
      start = start;
      start_quality = start_quality;
      rate = rate;
      slant = slant_index slant;
      skip = skip;
      quality = quality;
    }
end_card mode end.Unfound taken evaluations = unreported_card mode 1 taken evaluations 0 (fin false 0 (pos 0))
end_card mode (end.CutShort start windows start_quality) taken evaluations = unreported_card mode 2 taken evaluations start start_quality

-- of what a read gave
abbrev pub card_by : ℕ → Reading → Card
card_by mode g = end_card mode g.end g.taken g.evaluations

-- a session without an end has no card: 11, as at read
abbrev pub card_given : ℕ → Result Reading Refusal → Result Card Refusal
card_given mode (Ok g) = Ok (card_by mode g)
card_given mode (Err e) = Err e

abbrev pub session_card : Session → Result Card Refusal
session_card s = card_given s.mode (given_by s.phase s)
