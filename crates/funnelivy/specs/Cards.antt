-- The card calls, as the C interface answers them (include/funnelivy.h; 02-change-requests.md, A.1): each is the inner call on the card or the
-- session that the record says, with its answer written as numbers. Definitions only.
use Rattle.std.specs.Prelude.{ℕ, List, length}
use Rattle.limits.specs.Refusals.{number_or_zero}
use Rattle.card.specs.Card.{write_answer, buffer_after, read_answer}
use Rattle.ledger.specs.Ledger.{session_card}
use Rattle.c_record.specs.declared.FunnelivySession.{FunnelivySession}
use Rattle.c_record.specs.Record.{session_of}
use Rattle.c_card.specs.declared.FunnelivyCard.{FunnelivyCard}
use Rattle.c_card.specs.declared.FunnelivyCardAnswer.{FunnelivyCardAnswer}
use Rattle.c_card.specs.Cards.{card_of_wire, read_wire}

-- the refusal's number, 0 where the card was written
abbrev pub write_card_answer : FunnelivyCard → List ℕ → ℕ
write_card_answer w out = number_or_zero (write_answer (card_of_wire w) (length out))

-- the buffer: the card's bytes, and after a refusal what it held
abbrev pub card_buffer : FunnelivyCard → List ℕ → List ℕ
card_buffer w out = buffer_after (card_of_wire w) out

abbrev pub read_card_answer : List ℕ → FunnelivyCardAnswer
read_card_answer bytes = read_wire (read_answer bytes)

abbrev pub session_card_answer : FunnelivySession → FunnelivyCardAnswer
session_card_answer w = read_wire (session_card (session_of w))
