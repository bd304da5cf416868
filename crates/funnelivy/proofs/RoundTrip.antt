-- Both round trips of the card at the C interface (02-change-requests.md, A.1): a card that is read writes back as the same bytes, and a card
-- that is written reads back as the same record.
-- Assumes nothing.
use mathlib.Core.Path.{◌≡◌, refl, ◌∙◌, ap}
use mathlib.Core.List.{List}
use Prim.Native.Nat.{ℕ}
use native.Mathlib.Omega.{arith}
use lib.ListN.{length}
use Rattle.std.specs.Prelude.{Result, Ok, Err}
use Rattle.limits.specs.declared.Refusal.{Refusal}
use Rattle.limits.specs.Refusals.{number_or_zero}
use Rattle.limits.proofs.Causes.{number_positive}
use Rattle.words.proofs.RoundTrip.{Bytes}
use Rattle.card.specs.declared.Card.{Card}
use Rattle.card.specs.Card.{write_answer, read_answer}
use Rattle.card.proofs.RoundTrip as card
use Rattle.card.proofs.RoundTrip.{Typed}
use Rattle.c_card.specs.declared.FunnelivyCard.{FunnelivyCard}
use Rattle.c_card.specs.Cards.{card_of_wire, read_wire}
use Rattle.funnelivy.specs.Cards.{write_card_answer, card_buffer, read_card_answer}

-- ---- the number 0 is that of no refusal

read_holds : (bytes : List ℕ) → (read_card_answer bytes).refusal ≡ 0 → read_answer bytes ≡ Ok (card_of_wire (read_card_answer bytes).card)
read_holds bytes none = go (read_answer bytes) none
  where
    go : (r : Result Card Refusal) → (read_wire r).refusal ≡ 0 → r ≡ Ok (card_of_wire (read_wire r).card)
    go (Ok c) z = refl
    go (Err e) z = absurd (let l = number_positive e in omega arith)

write_done : (r : Result Unit Refusal) → number_or_zero r ≡ 0 → r ≡ Ok tt
write_done (Ok tt) z = refl
write_done (Err e) z = absurd (let l = number_positive e in omega arith)

-- ---- there and back

pub read_writes_back : (bytes out : List ℕ) → Bytes bytes → length out ≡ 56 → (read_card_answer bytes).refusal ≡ 0
    → (write_card_answer (read_card_answer bytes).card out ≡ 0) × (card_buffer (read_card_answer bytes).card out ≡ bytes)
read_writes_back bytes out h size none =
    let b = card.read_writes_back bytes out (card_of_wire (read_card_answer bytes).card) h size (read_holds bytes none) in
    (ap number_or_zero b.0, b.1)

pub written_reads_back : (w : FunnelivyCard) (out : List ℕ) → Typed (card_of_wire w) → write_card_answer w out ≡ 0
    → read_card_answer (card_buffer w out) ≡ record { refusal = 0; card = w }
written_reads_back w out t none =
    let c : Card = card_of_wire w in
    let only = card.written_only c (length out) (write_done (write_answer c (length out)) none) in
    ap read_card_answer (card.writes c out only.0 only.1).1 ∙ ap read_wire (card.written_reads_back c t only.1)
