-- Numbers to bytes and back, and bytes to numbers and back. Assumes nothing.
use mathlib.Core.Path.{◌≡◌, refl, ap, ◌∙◌, subst}
use mathlib.Core.Bool.{Bool, true, false, not, cond}
use mathlib.Core.List.{List, [], ◌∷◌}
use Prim.Native.Nat.{ℕ, zero, suc, ◌+◌, ◌-◌, ◌*◌, ◌/◌, ◌%◌, ◌^◌, ◌≤◌, ◌<◌}
use native.Mathlib.Nat.{pow-succ'}
use native.Mathlib.Omega.{arith}
use lib.Dec.{T, ltb, ltb→lt, nltb→le, lit<}
use lib.ListN.{length, get_or}
use lib.IntN.{ℤ, pos, negsuc}
use lib.Signed.{mag}
use borrow.Author.Tests.{lt-ltb, le-ltb}
use Rattle.words.specs.Words.{little_endian, bytes_of, bits_of, signed_of}

-- each is a byte
abbrev pub Bytes : List ℕ → Type 0
Bytes bs = (k : ℕ) → get_or bs k 0 < 256

pub length_bytes : (n v : ℕ) → length (bytes_of n v) ≡ n
unfolding bytes_of
length_bytes zero v = refl
length_bytes (suc n) v = ap suc (length_bytes n (v / 256))

pub bytes_are : (n v : ℕ) → Bytes (bytes_of n v)
unfolding bytes_of
bytes_are zero v k = lit< tt
bytes_are (suc n) v zero = omega arith
bytes_are (suc n) v (suc k) = bytes_are n (v / 256) k

whole : (v : ℕ) → v % 256 + 256 * (v / 256) ≡ v
whole v = omega arith

pub part : (n v : ℕ) → v < 256 ^ suc n → v / 256 < 256 ^ n
part n v h = go v (256 ^ n) (subst (λ (k : ℕ). v < k) (pow-succ' 256 n) h)
  where
    go : (v p : ℕ) → v < 256 * p → v / 256 < p
    go v p h = omega arith

pub number_bytes : (n v : ℕ) → v < 256 ^ n → little_endian (bytes_of n v) ≡ v
unfolding little_endian bytes_of
number_bytes zero v h = go v h
  where
    go : (v : ℕ) → v < 1 → 0 ≡ v
    go v h = omega arith
number_bytes (suc n) v h = ap (λ (k : ℕ). v % 256 + 256 * k) (number_bytes n (v / 256) (part n v h)) ∙ whole v

pub bytes_number : (bs : List ℕ) → Bytes bs → bytes_of (length bs) (little_endian bs) ≡ bs
unfolding little_endian bytes_of
bytes_number [] h = refl
bytes_number (b ∷ bs) h =
    ap (λ (x : ℕ). x ∷ bytes_of (length bs) ((b + 256 * little_endian bs) / 256)) (first b (little_endian bs) (h 0))
    ∙ ap (λ (x : ℕ). b ∷ bytes_of (length bs) x) (rest b (little_endian bs) (h 0))
    ∙ ap (λ (l : List ℕ). b ∷ l) (bytes_number bs (λ k. h (suc k)))
  where
    first : (b n : ℕ) → b < 256 → (b + 256 * n) % 256 ≡ b
    first b n h = omega arith

    rest : (b n : ℕ) → b < 256 → (b + 256 * n) / 256 ≡ n
    rest b n h = omega arith

-- ---- signs

pub signed_bits : (z : ℤ) → mag z < 2 ^ 63 → signed_of (bits_of z) ≡ z
signed_bits (pos n) h = ap (λ (t : Bool). cond t (pos n) (negsuc (2 ^ 64 - 1 - n))) (lt-ltb n (2 ^ 63) h)
signed_bits (negsuc n) h =
    ap (λ (t : Bool). cond t (pos (2 ^ 64 - suc n)) (negsuc (2 ^ 64 - 1 - (2 ^ 64 - suc n)))) (le-ltb (2 ^ 64 - suc n) (2 ^ 63) (high n h))
    ∙ ap negsuc (back n h)
  where
    high : (n : ℕ) → n < 2 ^ 63 → 2 ^ 63 ≤ 2 ^ 64 - suc n
    high n h = omega arith

    back : (n : ℕ) → n < 2 ^ 63 → 2 ^ 64 - 1 - (2 ^ 64 - suc n) ≡ n
    back n h = omega arith

pub bits_signed : (b : ℕ) → b < 2 ^ 64 → bits_of (signed_of b) ≡ b
bits_signed b h = go (ltb b (2 ^ 63)) (nltb→le b (2 ^ 63))
  where
    back : (b : ℕ) → b < 2 ^ 64 → 2 ^ 64 - suc (2 ^ 64 - 1 - b) ≡ b
    back b h = omega arith

    go : (t : Bool) → (T (not t) → 2 ^ 63 ≤ b) → bits_of (cond t (pos b) (negsuc (2 ^ 64 - 1 - b))) ≡ b
    go true k = refl
    go false k = back b h

pub signed_small : (b : ℕ) → b < 2 ^ 64 → mag (signed_of b) < 2 ^ 63
signed_small b h = go (ltb b (2 ^ 63)) (ltb→lt b (2 ^ 63)) (nltb→le b (2 ^ 63))
  where
    rest : (b : ℕ) → b < 2 ^ 64 → 2 ^ 63 ≤ b → 2 ^ 64 - 1 - b < 2 ^ 63
    rest b h k = omega arith

    go : (t : Bool) → (T t → b < 2 ^ 63) → (T (not t) → 2 ^ 63 ≤ b) → mag (cond t (pos b) (negsuc (2 ^ 64 - 1 - b))) < 2 ^ 63
    go true f g = f tt
    go false f g = rest b h (g tt)

pub bits_small : (z : ℤ) → mag z < 2 ^ 63 → bits_of z < 2 ^ 64
bits_small (pos n) h = wider n h
  where
    wider : (n : ℕ) → n < 2 ^ 63 → n < 2 ^ 64
    wider n h = omega arith
bits_small (negsuc n) h = less n
  where
    less : (n : ℕ) → 2 ^ 64 - suc n < 2 ^ 64
    less n = omega arith
