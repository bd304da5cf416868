-- Counts of 64 bits. Definitions only.
use Rattle.std.specs.Prelude.{ℕ, zero, suc, ◌≡◌, ◌+◌, ◌%◌, ◌^◌, List, [], ◌∷◌, map, take}
use Rattle.replay.specs.declared.tally.Tally.{Tally}

-- n more, of which 64 bits are kept
abbrev pub more_by : ℕ → ℕ → ℕ
more_by n count = (count + n) % 2 ^ 64

-- one more of the kind at place k, if there is one
unfoldable pub more_of : {A : Type 0} → ℕ → List (A × ℕ) → List (A × ℕ)
more_of k [] = []
more_of zero ((name, n) ∷ kinds) = (name, more_by 1 n) ∷ kinds
more_of (suc k) (kind ∷ kinds) = kind ∷ more_of k kinds

-- the kinds have the names that they had
abbrev pub KeepsNames : Tally → Tally → Type 0
KeepsNames before after = map (λ kind. kind.0) (take after.named after.kinds) ≡ map (λ kind. kind.0) (take before.named before.kinds)
