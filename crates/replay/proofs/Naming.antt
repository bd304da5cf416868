-- Kinds by their names. Assumes nothing.
use Rattle.std.proofs.Common.{rules, ◌≡◌, ℕ, zero, suc, ◌+◌, ◌<◌, List, [], ◌∷◌, length, take, drop, set, map, get_or, refl, sym, ap, ◌∙◌, add-one}

next_named : {A B : Type 0} (f : A → B) (k : ℕ) (names : List A) (kinds : List B) (d : A) → k < length kinds → k < length names → take k kinds ≡ map f (take k names) →
    take (suc k) (set kinds k (f (get_or names k d))) ≡ map f (take (suc k) names)
next_named f k [] kinds d h i e = absurd (search rules)
next_named f k (name ∷ names) [] d h i e = absurd (search rules)
next_named f zero (name ∷ names) (kind ∷ kinds) d h i e = refl
next_named f (suc k) (name ∷ names) (kind ∷ kinds) d h i e =
    ap (λ x. x ∷ take (suc k) (set kinds k (f (get_or names k d)))) (ap (λ l. get_or l 0 kind) e)
    ∙ ap (λ l. f name ∷ l) (next_named f k names kinds d (search rules) (search rules) (ap (λ l. drop 1 l) e))

pub one_more : {A B : Type 0} (f : A → B) (k : ℕ) (names : List A) (kinds : List B) (d : A) → k < length kinds → k < length names → take k kinds ≡ map f (take k names) →
    take (k + 1) (set kinds k (f (get_or names k d))) ≡ map f (take (k + 1) names)
one_more f k names kinds d h i e =
    ap (λ (n : ℕ). take n (set kinds k (f (get_or names k d)))) (add-one k) ∙ next_named f k names kinds d h i e ∙ ap (λ (n : ℕ). map f (take n names)) (sym (add-one k))
