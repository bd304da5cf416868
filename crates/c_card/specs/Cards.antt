-- A ledger card as a record of numbers, what card any such record says, and the answers of the card calls (include/funnelivy.h;
-- 02-change-requests.md, A.1). Definitions only.
use Rattle.std.specs.Prelude.{ℕ, false, pos, Result, Ok, Err}
use Rattle.std.specs.Float.{fin}
use Rattle.limits.specs.declared.Refusal.{Refusal}
use Rattle.limits.specs.Refusals.{number_of}
use Rattle.card.specs.declared.Card.{Card}
use Rattle.c_card.specs.declared.FunnelivyCard.{FunnelivyCard}
use Rattle.c_card.specs.declared.FunnelivyCardAnswer.{FunnelivyCardAnswer}

-- ---- from the record

abbrev pub card_of_wire : FunnelivyCard → Card
card_of_wire w =
    record {
      mode = w.mode;
      end = w.end;
      taken = w.taken;
      evaluations = w.evaluations;
      start = w.start;
      start_quality = w.start_quality;
      rate = w.rate;
      slant = w.slant;
      skip = w.skip;
      quality = w.quality;
    }

-- ---- to the record

abbrev pub card_wire : Card → FunnelivyCard
card_wire c =
    record {
      taken = c.taken;
      evaluations = c.evaluations;
      start = c.start;
      skip = c.skip;
      rate = c.rate;
      start_quality = c.start_quality;
      quality = c.quality;
      mode = c.mode;
      end = c.end;
      slant = c.slant;
    }

-- the record of a refused call
abbrev pub no_card : FunnelivyCard
no_card =
    record {
      taken = 0;
      evaluations = 0;
      start = 0;
      skip = pos 0;
      rate = fin false 0 (pos 0);
      start_quality = fin false 0 (pos 0);
      quality = fin false 0 (pos 0);
      mode = 0;
      end = 0;
      slant = 0;
    }

abbrev pub holding : Card → FunnelivyCardAnswer
holding c = record { refusal = 0; card = card_wire c }

abbrev pub refused_by : ℕ → FunnelivyCardAnswer
refused_by k = record { refusal = k; card = no_card }

-- ---- the answers

-- the card that was read, or the card of a session
abbrev pub read_wire : Result Card Refusal → FunnelivyCardAnswer
read_wire (Ok c) = holding c
read_wire (Err e) = refused_by (number_of e)
