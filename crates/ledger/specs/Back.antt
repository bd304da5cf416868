-- What holds of the card of a session that has ended (02-change-requests.md, A.1, A.3): "a session's card reads back as its report", without the count
-- of windows. Definitions only.
use Rattle.std.specs.Prelude.{◌≡◌, ℕ, List, length, Ok}
use Rattle.session.specs.declared.Session.{Session}
use Rattle.session.specs.Hold.{session_point}
use Rattle.card.specs.declared.Card.{Card}
use Rattle.card.specs.Card.{card_bytes, write_answer, buffer_after, read_answer}
use Rattle.ledger.specs.Ledger.{session_card}
use Rattle.ledger.specs.Entry.{card_ledger, point_ledger}

-- the session has this card, the writer takes it, its bytes read back as it, and it says the session's mode and of its point all but the count:
-- end, taken, evaluations, and as far as the end has them start, its quality, rate, slant, skip and the picture's quality
pub record CardBack (opened : ℕ) (z : Session) : Type 0 where
  pub card : Card
  pub given : session_card z ≡ Ok card
  pub written : (out : List ℕ) → length out ≡ 56 → (write_answer card (length out) ≡ Ok tt) × (buffer_after card out ≡ card_bytes card)
  pub back : read_answer (card_bytes card) ≡ Ok card
  pub mode : card.mode ≡ opened
  pub says : card_ledger card ≡ point_ledger (session_point z)
