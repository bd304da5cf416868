-- Why a call is refused (01-scope.md, "Numbers given by cause"; 02-change-requests.md, A.1): the number of each cause, and which of the causes a
-- call gives, the lowest that applies. Definitions only.
use Rattle.std.specs.Prelude.{ℕ, Bool, true, false, cond, List, [], ◌∷◌, Result, Ok, Err}
use Rattle.limits.specs.declared.Refusal.{Refusal}
use Rattle.limits.specs.declared.Refusal.TheVariants as why

abbrev pub number_of : Refusal → ℕ
number_of why.Mode = 1
number_of why.Rate = 2
number_of why.Shift = 3
number_of why.Anchor = 4
number_of why.Memory = 5
number_of why.Length = 6
number_of why.Flag = 7
number_of why.Sample = 8
number_of why.Count = 9
number_of why.Ended = 10
number_of why.NotEnded = 11
number_of why.CardLength = 12
number_of why.CardMark = 13
number_of why.CardField = 14

-- the refusal's number, 0 for none
abbrev pub number_or_zero : Result Unit Refusal → ℕ
number_or_zero (Ok u) = 0
number_or_zero (Err e) = number_of e

-- a condition, and what a call is refused for where it applies
pub record Cause : Type 0 where
  pub applies : Bool
  pub refusal : Refusal

infixl 20 ◌⇒◌
abbrev pub ◌⇒◌ : Bool → Refusal → Cause
b ⇒ e = record { applies = b; refusal = e }

-- refused for the first cause that applies, or for none. A call lists its causes with the lowest number first.
abbrev pub first_of : List Cause → Result Unit Refusal
first_of [] = Ok tt
first_of (c ∷ cs) = cond c.applies (Err c.refusal) (first_of cs)

-- refused by the first, and where it is not by the second
abbrev pub or_else : Result Unit Refusal → Result Unit Refusal → Result Unit Refusal
or_else (Ok u) b = b
or_else (Err e) b = Err e

abbrev pub is_allowed : Result Unit Refusal → Bool
is_allowed (Ok u) = true
is_allowed (Err e) = false
