-- `card::fields::put_counts` meets its contract. Three numbers, one behind the other.
-- Assumes nothing.
use Rattle.words.proofs.Storing.{nothing, number}
use Rattle.card.specs.Card.{count_bytes}
use Rattle.card.proofs.fields.put_counts.Goals as goal

pub returns : goal.returns
unfolding count_bytes
returns c =
    (number 8 _ (number 8 _ (number 8 _ (nothing _ 7) c.put.ensures) c.put-2.ensures) c.put-3.ensures).is
