-- Laws of a limit that every number of a list keeps: along the list, and at each place. Assumes nothing.
use mathlib.Core.Path.{◌≡◌, refl, ap, ◌∙◌}
use mathlib.Core.Bool.{Bool, true, false, false≢true, ◌&&◌}
use mathlib.Core.List.{List, [], ◌∷◌, ◌++◌}
use Prim.Native.Nat.{ℕ, zero, suc, ◌≤◌, zero-le, max}
use native.Mathlib.Omega.{arith}
use lib.ListN.{length, get_or, drop, drop_of_length-le}
use lib.Dec.{leb}
use Rattle.std.specs.List.{fold, list_all}
use Rattle.std.proofs.lemmas.Bool.Decides.{nat_tests}
use borrow.Author.Tests.{le-leb, leb-true}
use Rattle.limits.specs.Ranges.{all_at_most}

pub at_most_end : (n : ℕ) (xs : List ℕ) (i : ℕ) → length xs ≤ i → true ≡ all_at_most n (drop i xs)
unfolding all_at_most
at_most_end n xs i l = rw (drop_of_length-le xs l)

-- a limit that two lists keep
pub at_most_append : (n : ℕ) (xs ys : List ℕ) → all_at_most n (xs ++ ys) ≡ (all_at_most n xs && all_at_most n ys)
unfolding all_at_most
at_most_append n [] ys = refl
at_most_append n (x ∷ xs) ys = both (leb x n) (all_at_most n (xs ++ ys)) (all_at_most n xs) (all_at_most n ys) (at_most_append n xs ys)
  where
    both : (a b c d : Bool) → b ≡ (c && d) → (a && b) ≡ ((a && c) && d)
    both true b c d e = e
    both false b c d e = refl

-- a limit that all keep is kept at each place
pub at_most_each : (n : ℕ) (xs : List ℕ) → all_at_most n xs ≡ true → (i : ℕ) → get_or xs i 0 ≤ n
unfolding all_at_most
at_most_each n [] e i = zero-le
at_most_each n (x ∷ xs) e i = at (leb x n) refl e (λ q k. at_most_each n xs q k) i
  where
    at : (t : Bool) → leb x n ≡ t → (t && all_at_most n xs) ≡ true → (all_at_most n xs ≡ true → (k : ℕ) → get_or xs k 0 ≤ n) → (i : ℕ) → get_or (x ∷ xs) i 0 ≤ n
    at true p q r zero = leb-true x n p
    at true p q r (suc i) = r q i
    at false p q r i = absurd (false≢true q)

-- no number is above n where the largest is not
pub at_most_largest : (n : ℕ) (xs : List ℕ) → leb (fold max 0 xs) n ≡ all_at_most n xs
unfolding all_at_most
at_most_largest n xs = go 0 xs ∙ rw (le-leb 0 n zero-le)
  where
    both : (a x : ℕ) → leb (max a x) n ≡ (leb a n && leb x n)
    both a x = grind (arith, nat_tests)

    assoc : (a b c : Bool) → ((a && b) && c) ≡ (a && (b && c))
    assoc true b c = refl
    assoc false b c = refl

    only : (a : Bool) → a ≡ (a && true)
    only true = refl
    only false = refl

    go : (a : ℕ) (xs : List ℕ) → leb (fold max a xs) n ≡ (leb a n && all_at_most n xs)
    go a [] = only (leb a n)
    go a (x ∷ xs) = go (max a x) xs ∙ rw (both a x, assoc (leb a n) (leb x n) (all_at_most n xs))

-- the same by `all`
pub at_most_list_all : (n : ℕ) (xs : List ℕ) → list_all (λ x. leb x n) xs ≡ all_at_most n xs
unfolding all_at_most
at_most_list_all n [] = refl
at_most_list_all n (x ∷ xs) = ap (λ (b : Bool). leb x n && b) (at_most_list_all n xs)
