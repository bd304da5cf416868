-- How much of a memory is lent, and what stands in it. Definitions only.
use Rattle.std.specs.Prelude.{ℕ, ◌≤◌, Bool, true, false, cond, ltb, List, [], ◌∷◌, length, take, drop, vec_len}
use lib.Pointwise.{pointwise}
use Rattle.lent_memory.specs.declared.Sizes.{Sizes}
use Rattle.lent_memory.specs.declared.Memory.{Memory}

-- the memory has so many places
abbrev pub Fits : Sizes → Memory → Type 0
Fits sizes memory =
    (sizes.store ≤ vec_len memory.store) × (sizes.audio ≤ vec_len memory.audio) × (sizes.img ≤ vec_len memory.img) × (sizes.votes ≤ vec_len memory.votes)

-- what stands all over the work memory: 0 where it is cleared, else the mark
abbrev pub work_value : Bool → ℕ
work_value cleared = cond cleared 0 1

-- a list is empty or begins with x
abbrev pub begins_if_any : {A : Type 0} → (A → A → Bool) → List A → A → Bool
begins_if_any eq [] x = true
begins_if_any eq (y ∷ ys) x = eq y x

-- a piece stands in the memory from a place on, and a mark behind it, where there is a place
abbrev pub is_kept : {A : Type 0} → (A → A → Bool) → List A → ℕ → List A → A → Bool
is_kept eq memory at piece mark =
    cond (ltb (length memory) at) false
    (cond (pointwise eq (take (length piece) (drop at memory)) piece) (begins_if_any eq (drop (length piece) (drop at memory)) mark) false)
