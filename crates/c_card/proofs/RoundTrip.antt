-- A record that a call returned says the card that the inner call returned, and a card that a record says is written as that record.
-- Assumes nothing.
use mathlib.Core.Path.{◌≡◌, refl}
use Rattle.card.specs.declared.Card.{Card}
use Rattle.c_card.specs.declared.FunnelivyCard.{FunnelivyCard}
use Rattle.c_card.specs.Cards.{card_of_wire, card_wire}

pub round_trip : (c : Card) → card_of_wire (card_wire c) ≡ c
round_trip c = refl

pub record_again : (w : FunnelivyCard) → card_wire (card_of_wire w) ≡ w
record_again w = refl
