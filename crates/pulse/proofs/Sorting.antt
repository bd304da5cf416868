-- Laws of the sorted list and of how many of its numbers are at most v: the median is the smallest m such that
-- more than n / 2 numbers are at most m. Assumes nothing.
use mathlib.Core.Path.{◌≡◌, refl, ap, ◌∙◌}
use mathlib.Core.Bool.{Bool, true, false, cond, not}
use mathlib.Core.List.{List, [], ◌∷◌}
use Prim.Native.Nat.{ℕ, zero, suc, ◌+◌, ◌/◌, ◌≤◌, ◌<◌}
use native.Mathlib.Omega.{arith}
use lib.ListN.{length, get_or}
use lib.Dec.{T, leb, leb→le, nleb→lt}
use borrow.Author.Tests.{le-leb, lt-leb}
use Rattle.std.specs.List.{sum_by}
use Rattle.std.proofs.lemmas.List.Recursion.{is_sum_by}
use Rattle.pulse.specs.Median.{insert, sorted, median_of, count_at_most}

-- 1 for a number that is at most v
abbrev pub one : ℕ → ℕ → ℕ
one v x = cond (leb x v) 1 0

-- ---- counting

one_mono : (v w x : ℕ) → v ≤ w → one v x ≤ one w x
one_mono v w x h = go (leb x v) (leb→le x v)
  where
    go : (t : Bool) → (T t → x ≤ v) → cond t 1 0 ≤ one w x
    go true a = let b : x ≤ w = omega (arith, a tt) in rw (le-leb x w b) (omega arith)
    go false a = omega arith

pub count_mono : (v w : ℕ) (xs : List ℕ) → v ≤ w → count_at_most v xs ≤ count_at_most w xs
unfolding count_at_most
count_mono v w [] h = omega arith
count_mono v w (x ∷ xs) h = omega (arith, one_mono v w x h, count_mono v w xs h)

pub one_le : (v x : ℕ) → one v x ≤ 1
one_le v x = go (leb x v)
  where
    go : (t : Bool) → cond t 1 0 ≤ 1
    go true = omega arith
    go false = omega arith

-- the count as a sum
pub count_sum : (v : ℕ) (xs : List ℕ) → count_at_most v xs ≡ sum_by (one v) xs
unfolding count_at_most
count_sum v = is_sum_by (count_at_most v) (one v) refl (λ x xs. refl)

pub count_length : (v : ℕ) (xs : List ℕ) → count_at_most v xs ≤ length xs
unfolding count_at_most
count_length v [] = omega arith
count_length v (x ∷ xs) = omega (arith, one_le v x, count_length v xs)

-- all numbers are at most v
pub count_all : (v : ℕ) (xs : List ℕ) → ((k : ℕ) → k < length xs → get_or xs k 0 ≤ v) → count_at_most v xs ≡ length xs
unfolding count_at_most
count_all v [] h = refl
count_all v (x ∷ xs) h =
    let a : x ≤ v = h 0 (omega arith) in
    let r : count_at_most v xs ≡ length xs = count_all v xs (λ k l. h (suc k) (omega arith)) in
    rw (le-leb x v a) (omega arith)

-- ---- sorting keeps the counts

count_insert : (v x : ℕ) (ys : List ℕ) → count_at_most v (insert x ys) ≡ one v x + count_at_most v ys
unfolding count_at_most insert
count_insert v x [] = refl
count_insert v x (y ∷ ys) = go (leb x y) (count_insert v x ys)
  where
    go : (t : Bool) → count_at_most v (insert x ys) ≡ one v x + count_at_most v ys
        → count_at_most v (cond t (x ∷ y ∷ ys) (y ∷ insert x ys)) ≡ one v x + (one v y + count_at_most v ys)
    go true h = refl
    go false h = omega (arith, h)

count_sorted : (v : ℕ) (xs : List ℕ) → count_at_most v (sorted xs) ≡ count_at_most v xs
unfolding count_at_most sorted
count_sorted v [] = refl
count_sorted v (x ∷ xs) = count_insert v x (sorted xs) ∙ ap (λ (n : ℕ). one v x + n) (count_sorted v xs)

-- ---- sorting sorts

-- no number of the list is below x
abbrev From : ℕ → List ℕ → Type 0
From x [] = 0 ≤ 0
From x (y ∷ ys) = (x ≤ y) × From x ys

abbrev Sorted : List ℕ → Type 0
Sorted [] = 0 ≤ 0
Sorted (x ∷ xs) = From x xs × Sorted xs

from_lower : (x y : ℕ) (ys : List ℕ) → x ≤ y → From y ys → From x ys
from_lower x y [] h f = omega arith
from_lower x y (z ∷ ys) h f = (omega (arith, f.0), from_lower x y ys h f.1)

from_insert : (z x : ℕ) (ys : List ℕ) → z ≤ x → From z ys → From z (insert x ys)
unfolding insert
from_insert z x [] h f = (h, f)
from_insert z x (y ∷ ys) h f = go (leb x y) (from_insert z x ys h f.1)
  where
    go : (t : Bool) → From z (insert x ys) → From z (cond t (x ∷ y ∷ ys) (y ∷ insert x ys))
    go true r = (h, f)
    go false r = (f.0, r)

insert_sorted : (x : ℕ) (ys : List ℕ) → Sorted ys → Sorted (insert x ys)
unfolding insert
insert_sorted x [] s = (omega arith, omega arith)
insert_sorted x (y ∷ ys) s = go (leb x y) (leb→le x y) (nleb→lt x y) (insert_sorted x ys s.1)
  where
    go : (t : Bool) → (T t → x ≤ y) → (T (not t) → y < x) → Sorted (insert x ys) → Sorted (cond t (x ∷ y ∷ ys) (y ∷ insert x ys))
    go true a b r = ((a tt, from_lower x y ys (a tt) s.0), s)
    go false a b r = (from_insert y x ys (omega (arith, b tt)) s.0, r)

sorted_is : (xs : List ℕ) → Sorted (sorted xs)
unfolding sorted
sorted_is [] = omega arith
sorted_is (x ∷ xs) = insert_sorted x (sorted xs) (sorted_is xs)

-- ---- the place in sorted order

count_none : (v x : ℕ) (ys : List ℕ) → v < x → From x ys → count_at_most v ys ≡ 0
unfolding count_at_most
count_none v x [] h f = refl
count_none v x (y ∷ ys) h f = let l : v < y = omega (arith, f.0) in rw (lt-leb y v l, count_none v x ys h f.1)

-- more than k numbers are at most m: the one at place k is
place_le : (m k : ℕ) (s : List ℕ) → Sorted s → k < count_at_most m s → get_or s k 0 ≤ m
unfolding count_at_most
place_le m k [] o h = absurd (omega arith)
place_le m zero (x ∷ s) o h = go (leb x m) (leb→le x m) (nleb→lt x m) h
  where
    go : (t : Bool) → (T t → x ≤ m) → (T (not t) → m < x) → 0 < cond t 1 0 + count_at_most m s → x ≤ m
    go true a b h = a tt
    go false a b h = let n : count_at_most m s ≡ 0 = count_none m x s (b tt) o.0 in absurd (omega arith)
place_le m (suc k) (x ∷ s) o h = place_le m k s o.1 (omega (arith, one_le m x))

from_place : (x k : ℕ) (s : List ℕ) → From x s → k < length s → x ≤ get_or s k 0
from_place x k [] f l = absurd (omega arith)
from_place x zero (y ∷ s) f l = f.0
from_place x (suc k) (y ∷ s) f l = from_place x k s f.1 (omega arith)

-- the number at place k is at most v: more than k numbers are
place_count : (v k : ℕ) (s : List ℕ) → Sorted s → k < length s → get_or s k 0 ≤ v → k < count_at_most v s
unfolding count_at_most
place_count v k [] o l h = absurd (omega arith)
place_count v zero (x ∷ s) o l h = rw (le-leb x v h) (omega arith)
place_count v (suc k) (x ∷ s) o l h =
    let a : x ≤ v = omega (arith, from_place x k s o.0 (omega arith)) in
    rw (le-leb x v a) (omega (arith, place_count v k s o.1 (omega arith) h))

pub median_is : (xs : List ℕ) (m : ℕ) → length xs / 2 < count_at_most m xs → ((v : ℕ) → v < m → count_at_most v xs ≤ length xs / 2) → m ≡ median_of xs
unfolding median_of
median_is xs m a b =
    let k = length xs / 2 in
    let h : k < count_at_most m (sorted xs) = rw (count_sorted m xs) a in
    let l : k < length (sorted xs) = omega (arith, h, count_length m (sorted xs)) in
    go k m l (place_le m k (sorted xs) (sorted_is xs) h) b
  where
    go : (k m : ℕ) → k < length (sorted xs) → get_or (sorted xs) k 0 ≤ m → ((v : ℕ) → v < m → count_at_most v xs ≤ k) → m ≡ get_or (sorted xs) k 0
    go k zero l h b = omega arith
    go k (suc v) l h b = below (leb (get_or (sorted xs) k 0) v) (leb→le (get_or (sorted xs) k 0) v) (nleb→lt (get_or (sorted xs) k 0) v)
      where
        below : (t : Bool) → (T t → get_or (sorted xs) k 0 ≤ v) → (T (not t) → v < get_or (sorted xs) k 0) → suc v ≡ get_or (sorted xs) k 0
        below true p q = absurd (omega (arith, place_count v k (sorted xs) (sorted_is xs) l (p tt), count_sorted v xs, b v (omega arith)))
        below false p q = omega (arith, q tt)
