-- A sum with one value more. Assumes nothing.
use Rattle.std.proofs.Common.{◌≡◌, ℕ, ◌+◌, ◌%◌, ◌^◌, List, [], ◌∷◌, ◌++◌, sym, ap, ◌∙◌}
use Rattle.std.specs.List.{AllZip, sum}
use Rattle.std.proofs.lemmas.List.Sums.{fold-append}
use Rattle.std.proofs.Math.Nat.{mod-add-mod}
use Rattle.lent_memory.specs.Sums.{IsSumOf}

module _ {A : Type 0} (converts : A → ℕ → Type 0) where
  zipped : (xs : List A) (ys : List ℕ) (x : A) (y : ℕ) → AllZip converts xs ys → converts x y → AllZip converts (xs ++ x ∷ []) (ys ++ y ∷ [])
  zipped [] [] x y h r = (r, tt)
  zipped [] (b ∷ ys) x y h r = absurd h
  zipped (a ∷ xs) [] x y h r = absurd h
  zipped (a ∷ xs) (b ∷ ys) x y h r = (h.0, zipped xs ys x y h.1 r)

  pub one_more : (xs : List A) (x : A) (s y t : ℕ) → IsSumOf converts xs s → converts x y → t ≡ (s + y) % 2 ^ 64 → IsSumOf converts (xs ++ x ∷ []) t
  one_more xs x s y t h r e = (
    h.0 ++ y ∷ [],
    zipped xs h.0 x y h.1 r,
    e ∙ ap (λ (n : ℕ). (n + y) % 2 ^ 64) h.2 ∙ mod-add-mod (sum h.0) (2 ^ 64) y ∙ ap (λ (n : ℕ). n % 2 ^ 64) (sym (fold-append (λ a x. a + x) 0 h.0 (y ∷ []))),
  )
