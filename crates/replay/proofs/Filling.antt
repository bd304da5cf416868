-- A list whose first i places hold the first values of a function, and one place more. Assumes nothing.
use Rattle.std.proofs.Common.{◌≡◌, ℕ, zero, suc, ◌+◌, ◌<◌, List, [], ◌∷◌, ◌++◌, length, drop, set, sym, refl, ap, ◌∙◌, append_assoc, add-one, length-append, drop-cons}
use Rattle.std.proofs.lemmas.List.{set_at}
use Rattle.replay.specs.Each.{each}

pub length_each : {A : Type 0} (f : ℕ → A) (n : ℕ) → length (each f n) ≡ n
unfolding each
length_each f zero = refl
length_each f (suc n) = length-append (each f n) (f n ∷ []) ∙ ap (λ (k : ℕ). k + 1) (length_each f n) ∙ add-one n

module _ {A : Type 0} (f : ℕ → A) (l : List A) where
  -- as far as place i
  abbrev pub filled : ℕ → List A
  filled i = each f i ++ drop i l

  pub nothing : l ≡ filled 0
  unfolding each
  nothing = refl

  pub one_more : (i : ℕ) → i < length l → set (filled i) i (f i) ≡ filled (i + 1)
  unfolding each
  one_more i h =
      ap (λ (r : List A). set (each f i ++ r) i (f i)) (drop-cons l i (f i) h)
      ∙ set_at (each f i) _ (drop (suc i) l) (f i) i (length_each f i)
      ∙ sym (append_assoc (each f i) (f i ∷ []) (drop (suc i) l))
      ∙ ap filled (sym (add-one i))
