-- The falling edge (01-scope.md, "Fold and pulse window", `falling_edge_from_x_acc`). Definitions only.
use Rattle.std.specs.Prelude.{ℕ, ◌+◌, ◌-◌, cond, ◌&&◌, List, length, get_or, ltb, eqb, Result, Ok, Err}
use Rattle.pulse.specs.Sums.{sum_from, largest, first_with}
use Rattle.limits.specs.Ranges.{all_at_most}
use Rattle.limits.specs.declared.Refusal.{Refusal}
use Rattle.limits.specs.declared.Refusal.TheVariants as why

-- four counts, from x on
abbrev pub four_from : List ℕ → ℕ → ℕ
four_from counts x = sum_from (λ k. get_or counts k 0) x 4

-- four counts less the next four, and 0 where that is negative
abbrev pub fall_at : List ℕ → ℕ → ℕ
fall_at counts x = four_from counts x - four_from counts (x + 4)

-- above 350, 350 less
abbrev pub slipped : ℕ → ℕ
slipped x = cond (ltb 350 x) (x - 350) x

-- x + 4 for the first x from 0 to 691 with the largest fall, and 0 where nothing falls
unfoldable pub edge_of : List ℕ → ℕ
unfolding sum_from largest first_with
edge_of counts =
    let top = largest (fall_at counts) 692 in
    cond (eqb top 0) 0 (slipped (first_with (fall_at counts) top 0 692 + 4))

-- the answer of the call: 9 unless there are 700 counts, each at most 1,000,000
unfoldable pub edge_answer : List ℕ → Result ℕ Refusal
unfolding edge_of all_at_most
edge_answer counts = cond (eqb (length counts) 700 && all_at_most 1000000 counts) (Ok (edge_of counts)) (Err why.Count)
