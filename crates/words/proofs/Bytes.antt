-- One byte of a list as a number, and up to eight of them, with zeros behind. Assumes nothing.
use Rattle.std.proofs.Common.{◌≡◌, ℕ, zero, suc, ◌+◌, ◌*◌, ◌^◌, ◌≤◌, ◌<◌, List, [], ◌∷◌, ◌++◌, length, take, drop, length-drop, drop-cons, ◌-◌, subst, get_or, w64, refl, sym, ap, ◌∙◌, arith}
use Rattle.std.specs.Int.{from_le_bytes}
use native.Mathlib.Nat.{pow-succ'}
use lib.Pow.{pow-add}
use lib.Seq.{length-take-le}
use Rattle.words.specs.Words.{little_endian, number_at}
use Rattle.words.proofs.RoundTrip.{Bytes}
use Rattle.words.proofs.Packing.{number_at_lt}

-- a single byte
pub single : (b : List ℕ) (at : ℕ) → at < length b → get_or b at 0 ≡ number_at b at 1
unfolding little_endian
single b at h = sym (ap (λ (l : List ℕ). little_endian (take 1 l)) (drop-cons b at 0 h) ∙ plus (get_or b at 0))
  where
    plus : (n : ℕ) → n + 256 * 0 ≡ n
    plus n = omega arith

abbrev pub zeros : List ℕ
zeros = 0 ∷ 0 ∷ 0 ∷ 0 ∷ 0 ∷ 0 ∷ 0 ∷ 0 ∷ []

pub padded : (xs : List ℕ) → length xs ≤ 8 → from_le_bytes w64 (xs ++ drop (length xs) zeros) ≡ little_endian xs
unfolding little_endian
padded [] h = omega arith
padded (a ∷ []) h = omega arith
padded (a ∷ b ∷ []) h = omega arith
padded (a ∷ b ∷ c ∷ []) h = omega arith
padded (a ∷ b ∷ c ∷ d ∷ []) h = omega arith
padded (a ∷ b ∷ c ∷ d ∷ e ∷ []) h = omega arith
padded (a ∷ b ∷ c ∷ d ∷ e ∷ f ∷ []) h = omega arith
padded (a ∷ b ∷ c ∷ d ∷ e ∷ f ∷ g ∷ []) h = omega arith
padded (a ∷ b ∷ c ∷ d ∷ e ∷ f ∷ g ∷ i ∷ []) h = omega arith
padded (a ∷ b ∷ c ∷ d ∷ e ∷ f ∷ g ∷ i ∷ j ∷ xs) h = absurd (omega arith)

-- n bytes are 8 n bits
pub bits_of_bytes : (n : ℕ) → 256 ^ n ≡ 2 ^ (8 * n)
bits_of_bytes zero = refl
bits_of_bytes (suc n) = rw (pow-succ' 256 n, bits_of_bytes n, more) (rw (pow-add 2 (8 * n) 8) (turn (2 ^ (8 * n))))
  where
    more : 8 * suc n ≡ 8 * n + 8
    more = omega arith

    turn : (p : ℕ) → 256 * p ≡ p * 256
    turn p = omega arith

-- a run of n bytes, copied before zeros and read
pub run_read : (b : List ℕ) (at n r : ℕ) (run : List ℕ) → Bytes b → n ≤ 8 → at + n ≤ length b → run ≡ take (at + n - at) (drop at b)
    → r ≡ from_le_bytes w64 (run ++ drop n zeros) → (r ≡ number_at b at n) × (r < 2 ^ (8 * n))
run_read b at n r run bytes few within e h = (is, subst (λ (k : ℕ). r < k) (bits_of_bytes n) (rw is (number_at_lt n at b bytes)))
  where
    here : at + n - at ≡ n
    here = omega arith

    size : length (take n (drop at b)) ≡ n
    size = length-take-le n (drop at b) (rw length-drop (omega arith))

    own : from_le_bytes w64 (take n (drop at b) ++ drop (length (take n (drop at b))) zeros) ≡ number_at b at n
    own = padded (take n (drop at b)) (rw size few)

    is : r ≡ number_at b at n
    is = h ∙ rw (e, here) (rw size at own)
