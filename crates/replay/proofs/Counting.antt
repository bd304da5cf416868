-- One more of a kind. Assumes nothing.
use Rattle.std.proofs.Common.{rules, ◌≡◌, ℕ, zero, suc, ◌<◌, ◌≤◌, List, [], ◌∷◌, length, take, set, map, get_or, refl, ap, ◌∙◌}
use Rattle.replay.specs.Counts.{more_by, more_of}

pub one_more_of : {A : Type 0} (k : ℕ) (kinds : List (A × ℕ)) (d : A × ℕ) → k < length kinds → set kinds k ((get_or kinds k d).0, more_by 1 (get_or kinds k d).1) ≡ more_of k kinds
unfolding more_of
one_more_of k [] d h = absurd (search rules)
one_more_of zero (kind ∷ kinds) d h = refl
one_more_of (suc k) (kind ∷ kinds) d h = ap (λ l. kind ∷ l) (one_more_of k kinds d (search rules))

pub none_more : {A : Type 0} (k : ℕ) (kinds : List (A × ℕ)) → length kinds ≤ k → kinds ≡ more_of k kinds
unfolding more_of
none_more k [] h = refl
none_more zero (kind ∷ kinds) h = absurd (search rules)
none_more (suc k) (kind ∷ kinds) h = ap (λ l. kind ∷ l) (none_more k kinds (search rules))

-- a kind that is counted among the first n
taken : {A : Type 0} (n k : ℕ) (kinds : List (A × ℕ)) → take n (more_of k kinds) ≡ more_of k (take n kinds)
unfolding more_of
taken zero k kinds = refl
taken (suc n) k [] = refl
taken (suc n) zero (kind ∷ kinds) = refl
taken (suc n) (suc k) (kind ∷ kinds) = ap (λ l. kind ∷ l) (taken n k kinds)

pub one_more_named : {A : Type 0} (n k : ℕ) (kinds : List (A × ℕ)) (d : A × ℕ) → k < length kinds → take n (set kinds k ((get_or kinds k d).0, more_by 1 (get_or kinds k d).1)) ≡ more_of k (take n kinds)
one_more_named n k kinds d h = ap (λ l. take n l) (one_more_of k kinds d h) ∙ taken n k kinds

pub none_more_named : {A : Type 0} (n k : ℕ) (kinds : List (A × ℕ)) → length kinds ≤ k → take n kinds ≡ more_of k (take n kinds)
none_more_named n k kinds h = ap (λ l. take n l) (none_more k kinds h) ∙ taken n k kinds

-- one more of a kind changes no name
pub same_names : {A : Type 0} (k : ℕ) (kinds : List (A × ℕ)) → map (λ kind. kind.0) (more_of k kinds) ≡ map (λ kind. kind.0) kinds
unfolding more_of
same_names k [] = refl
same_names zero (kind ∷ kinds) = refl
same_names (suc k) (kind ∷ kinds) = ap (λ l. kind.0 ∷ l) (same_names k kinds)
