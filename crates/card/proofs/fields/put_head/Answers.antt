-- `card::fields::put_head` meets its contract. Four numbers, one behind the other.
-- Assumes nothing.
use Rattle.words.proofs.Storing.{nothing, number}
use Rattle.card.specs.Card.{head_bytes}
use Rattle.card.proofs.fields.put_head.Goals as goal

pub returns : goal.returns
unfolding head_bytes
returns c =
    rw (← c.from.ensures, ← c.from-2.ensures, ← c.from-3.ensures)
    (number 1 _ (number 1 _ (number 2 _ (number 3 _ (nothing _ 0) c.put.ensures) c.put-2.ensures) c.put-3.ensures) c.put-4.ensures).is
