-- The ways of the two calls: each refusal by its cause, where the causes before it do not apply. Assumes nothing.
use mathlib.Core.Path.{◌≡◌}
use mathlib.Core.Bool.{true, false}
use mathlib.Core.List.{List}
use Prim.Native.Nat.{ℕ}
use lib.ListN.{length}
use borrow.Author.Tests.{eq-eqb, ne_eqb}
use Rattle.std.specs.Prelude.{Err}
use Rattle.limits.specs.declared.Refusal.TheVariants as why
use Rattle.card.specs.declared.Card.{Card}
use Rattle.card.specs.Card.{marked, card_of, wrong, write_answer, buffer_after, read_refusal, read_answer}

module _ (c : Card) (size : ℕ) where
  pub write_12 : (size ≡ 56 → ⊥) → write_answer c size ≡ Err why.CardLength
  unfolding write_answer
  write_12 h = rw (ne_eqb size 56 h)

  pub write_14 : size ≡ 56 → wrong c ≡ true → write_answer c size ≡ Err why.CardField
  unfolding write_answer
  write_14 h w = rw (eq-eqb size 56 h, w)

-- the buffer of a refused card is as it was
module _ (c : Card) (out : List ℕ) where
  pub kept_12 : (length out ≡ 56 → ⊥) → buffer_after c out ≡ out
  unfolding buffer_after
  kept_12 h = rw (write_12 c (length out) h)

  pub kept_14 : length out ≡ 56 → wrong c ≡ true → buffer_after c out ≡ out
  unfolding buffer_after
  kept_14 h w = rw (write_14 c (length out) h w)

module _ (bs : List ℕ) where
  pub read_12 : (length bs ≡ 56 → ⊥) → read_answer bs ≡ Err why.CardLength
  unfolding read_answer read_refusal
  read_12 h = rw (ne_eqb (length bs) 56 h)

  pub read_13 : length bs ≡ 56 → marked 1 bs ≡ false → read_answer bs ≡ Err why.CardMark
  unfolding read_answer read_refusal
  read_13 h m = rw (eq-eqb (length bs) 56 h, m)

  pub read_14 : length bs ≡ 56 → marked 1 bs ≡ true → wrong (card_of bs) ≡ true → read_answer bs ≡ Err why.CardField
  unfolding read_answer read_refusal
  read_14 h m w = rw (eq-eqb (length bs) 56 h, m, w)
