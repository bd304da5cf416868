-- Bytes stored in a buffer: a number byte by byte, and one run behind another. Assumes nothing.
use Rattle.std.proofs.Common.{◌≡◌, refl, sym, ap, ◌∙◌, List, [], ◌∷◌, ◌++◌, append-nil, append_assoc, ℕ, zero, suc, ◌+◌, ◌-◌, ◌/◌, ◌%◌, ◌^◌, ◌≤◌, ◌<◌, min, w64, take, drop, length, set, length-append, length-drop, arith}
use native.Mathlib.Nat.{le_refl, pow-suc, div-div-eq-div-mul}
use Rattle.std.specs.Int.{to_le_bytes, bytes_low_first, byte_at}
use lib.ListN.{replicate, length-replicate}
use lib.Seq.{length-take-le, sets, sets-eq, length-sets, drop-length, drop-drop}
use borrow.Rule.Slice.PartMut.{put_mid}
use Rattle.words.specs.Words.{bytes_of}
use Rattle.words.proofs.RoundTrip.{length_bytes, part}

-- ---- a number

-- std's bytes of a number are those of the definition
from_low : (i k v : ℕ) → bytes_low_first i k v ≡ bytes_of k (v / 256 ^ i)
unfolding bytes_of
from_low i zero v = refl
from_low i (suc k) v =
    let a : byte_at i v ≡ v / 256 ^ i % 256 = first i in
    let b : bytes_low_first (suc i) k v ≡ bytes_of k (v / 256 ^ i / 256) = from_low (suc i) k v ∙ ap (bytes_of k) further in
    rw (a, b)
  where
    first : (j : ℕ) → byte_at j v ≡ v / 256 ^ j % 256
    first zero = omega arith
    first (suc j) = refl

    further : v / 256 ^ suc i ≡ v / 256 ^ i / 256
    further = rw pow-suc (sym (div-div-eq-div-mul v (256 ^ i) 256))

zeros : (n : ℕ) → replicate n 0 ≡ bytes_of n 0
unfolding bytes_of
zeros zero = refl
zeros (suc n) = ap (λ (l : List ℕ). 0 ∷ l) (zeros n)

-- of n bytes the first k are those of v, where v has no more, and the others are 0
filled : (n k v : ℕ) → v < 256 ^ k → take (min n k) (bytes_of k v) ++ replicate (n - min n k) 0 ≡ bytes_of n v
unfolding bytes_of
filled zero k v h = let e : min 0 k ≡ 0 = omega arith in rw e
filled (suc n) zero v h =
    let e : min (suc n) 0 ≡ 0 = omega arith in
    let z : v ≡ 0 = omega arith in
    let d : suc n - 0 ≡ suc n = omega arith in
    rw (e, z, d) (zeros (suc n))
filled (suc n) (suc k) v h =
    let e : min (suc n) (suc k) ≡ suc (min n k) = omega arith in
    let d : suc n - suc (min n k) ≡ n - min n k = omega arith in
    rw (e, d) (ap (λ (l : List ℕ). v % 256 ∷ l) (filled n k (v / 256) (part k v h)))

-- the n lowest bytes of a word, up to eight of them from std's and zeros behind
word_bytes : (n v : ℕ) → v < 2 ^ 64 → take (min n 8) (to_le_bytes w64 v) ++ replicate (n - min n 8) 0 ≡ bytes_of n v
word_bytes n v h =
    let e : to_le_bytes w64 v ≡ bytes_of 8 v = from_low 0 8 v ∙ ap (bytes_of 8) one in
    rw e (filled n 8 v h)
  where
    one : v / 256 ^ 0 ≡ v
    one = omega arith

-- ---- a run put back

-- a run behind another is one run
sets_append : (b : List ℕ) (at k : ℕ) (xs ys : List ℕ) → at + length xs ≡ k → sets (sets b at xs) k ys ≡ sets b at (xs ++ ys)
sets_append b at k [] ys e = rw same
  where
    same : k ≡ at
    same = omega arith
sets_append b at k (x ∷ xs) ys e = sets_append (set b at x) (suc at) k xs ys (omega arith)

-- the bytes put back in their place, k of them from place `at` on
pub put_back : (b bytes : List ℕ) (at n : ℕ) → at + n ≤ length b → length bytes ≡ n → put_mid at (at + n - at) b bytes ≡ sets b at bytes
put_back b bytes at n h e = rw (here, sets-eq bytes b at (rw e h), e, drop-drop n at b, append_assoc)
  where
    here : at + n - at ≡ n
    here = omega arith

-- two runs put back, one behind the other
put_two : (b xs ys zs : List ℕ) (at n k : ℕ) → k ≤ n → at + n ≤ length b → length xs ≡ k → length ys ≡ n - k → xs ++ ys ≡ zs
    → put_mid (at + k) (at + n - (at + k)) (put_mid at (at + k - at) b xs) ys ≡ sets b at zs
put_two b xs ys zs at n k l h e f z =
    rw (put_back b xs at k (omega arith) e, ends)
    (put_back (sets b at xs) ys (at + k) (n - k) (rw length-sets (omega arith)) f ∙ sets_append b at (at + k) xs ys (omega arith) ∙ ap (sets b at) z)
  where
    ends : at + n - (at + k) ≡ at + k + (n - k) - (at + k)
    ends = omega arith

-- a word's bytes put back, and zeros behind them
pub put_done : (b xs ys : List ℕ) (at n m v : ℕ) → v < 2 ^ 64 → at + n ≤ length b → m ≡ min n 8 → xs ≡ take m (to_le_bytes w64 v)
    → ys ≡ replicate (length (take (at + n - (at + m)) (drop (at + m) (put_mid at (at + m - at) b xs)))) 0
    → put_mid (at + m) (at + n - (at + m)) (put_mid at (at + m - at) b xs) ys ≡ sets b at (bytes_of n v)
put_done b xs ys at n m v h l e x y = put_two b xs ys (bytes_of n v) at n m few l front back all
  where
    few : m ≤ n
    few = omega arith

    front : length xs ≡ m
    front = rw x (length-take-le m (to_le_bytes w64 v) (omega arith))

    rest : length (take (at + n - (at + m)) (drop (at + m) (put_mid at (at + m - at) b xs))) ≡ n - m
    rest = rw (put_back b xs at m (omega arith) front) (length-take-le _ _ (rw (length-drop, length-sets) (omega arith)) ∙ omega arith)

    zeros_behind : ys ≡ replicate (n - m) 0
    zeros_behind = rw rest at y

    back : length ys ≡ n - m
    back = rw zeros_behind (length-replicate (n - m) 0)

    all : xs ++ ys ≡ bytes_of n v
    all = rw (x, zeros_behind, e) (word_bytes n v h)

-- ---- fields

-- l is b with the bytes xs stored from place `at` on, and k is the place behind them
pub record Stored (b : List ℕ) (at : ℕ) (xs : List ℕ) (k : ℕ) (l : List ℕ) : Type 0 where
  pub is : l ≡ sets b at xs
  pub behind : at + length xs ≡ k

pub nothing : (b : List ℕ) (at : ℕ) → Stored b at [] at b
nothing b at = record { is = refl; behind = omega arith }

-- a field of n bytes more
pub field : {b xs l l' : List ℕ} {at k : ℕ} (n : ℕ) (ys : List ℕ) → Stored b at xs k l → length ys ≡ n → l' ≡ sets l k ys → Stored b at (xs ++ ys) (k + n) l'
field {b} {xs} {l} {l'} {at} {k} n ys s size e =
    record {
      is = e ∙ rw s.is (sets_append b at k xs ys s.behind);
      behind = rw (length-append xs ys, size) (go at (length xs) k s.behind);
    }
  where
    go : (a x k : ℕ) → a + x ≡ k → a + (x + n) ≡ k + n
    go a x k h = omega arith

-- a number more
pub number : {b xs l l' : List ℕ} {at k : ℕ} (n v : ℕ) → Stored b at xs k l → l' ≡ sets l k (bytes_of n v) → Stored b at (xs ++ bytes_of n v) (k + n) l'
number n v s e = field n (bytes_of n v) s (length_bytes n v) e

-- a buffer that is stored over from its front to its end
pub whole : {b xs l : List ℕ} {k : ℕ} → Stored b 0 xs k l → length b ≡ k → l ≡ xs
whole {b} {xs} {l} {k} s e = s.is ∙ sets-eq xs b 0 (rw (s.behind, e) (le_refl k)) ∙ rw (s.behind, ← e, drop-length b, append-nil xs)
