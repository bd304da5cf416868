-- Fields packed one behind the other, and read at their places. Assumes nothing.
use mathlib.Core.Path.{◌≡◌, refl, sym, ◌∙◌}
use mathlib.Core.List.{List, [], ◌∷◌, ◌++◌, append_assoc}
use Prim.Native.Nat.{ℕ, zero, suc, ◌+◌, ◌*◌, ◌^◌, ◌<◌}
use native.Mathlib.Nat.{one-le-pow, pow-succ'}
use native.Mathlib.Omega.{arith}
use lib.Dec.{lit<}
use lib.ListN.{length, take, drop, length-append, length-drop, take-append-drop}
use lib.Seq.{length-take-le, take_at, drop_at, drop-drop, drop-length, get_or-drop}
use Rattle.words.specs.Words.{little_endian, bytes_of, number_at}
use Rattle.words.proofs.RoundTrip.{Bytes, length_bytes, number_bytes, bytes_number, bytes_are}

-- numbers in fields of these widths, one behind the other
unfoldable pub packed : List ℕ → List ℕ → List ℕ
packed [] vs = []
packed (w ∷ ws) [] = []
packed (w ∷ ws) (v ∷ vs) = bytes_of w v ++ packed ws vs

-- the numbers of fields of these widths, from place `at` on
unfoldable pub numbers_from : ℕ → List ℕ → List ℕ → List ℕ
numbers_from at [] bs = []
numbers_from at (w ∷ ws) bs = number_at bs at w ∷ numbers_from (at + w) ws bs

-- the bytes that fields of these widths take
unfoldable pub total : List ℕ → ℕ
total [] = 0
total (w ∷ ws) = w + total ws

-- each number fits its field
pub data Fit : List ℕ → List ℕ → Type 0 where
  none : Fit [] []
  one : {w v : ℕ} {ws vs : List ℕ} → v < 256 ^ w → Fit ws vs → Fit (w ∷ ws) (v ∷ vs)

-- ---- bytes are bytes

pub append_bytes : (xs ys : List ℕ) → Bytes xs → Bytes ys → Bytes (xs ++ ys)
append_bytes [] ys h g k = g k
append_bytes (x ∷ xs) ys h g zero = h zero
append_bytes (x ∷ xs) ys h g (suc k) = append_bytes xs ys (λ j. h (suc j)) g k

pub packed_bytes : (ws vs : List ℕ) → Bytes (packed ws vs)
unfolding packed
packed_bytes [] vs k = lit< tt
packed_bytes (w ∷ ws) [] k = lit< tt
packed_bytes (w ∷ ws) (v ∷ vs) k = append_bytes (bytes_of w v) (packed ws vs) (bytes_are w v) (packed_bytes ws vs) k

take_bytes : (n : ℕ) (bs : List ℕ) → Bytes bs → Bytes (take n bs)
take_bytes zero bs h k = lit< tt
take_bytes (suc n) [] h k = lit< tt
take_bytes (suc n) (b ∷ bs) h zero = h zero
take_bytes (suc n) (b ∷ bs) h (suc k) = take_bytes n bs (λ j. h (suc j)) k

drop_bytes : (n : ℕ) (bs : List ℕ) → Bytes bs → Bytes (drop n bs)
drop_bytes n bs h k = rw get_or-drop (h (n + k))

-- the number of n bytes, or of fewer, is below 256 ^ n
number_lt : (n : ℕ) (bs : List ℕ) → Bytes bs → little_endian (take n bs) < 256 ^ n
unfolding little_endian
number_lt zero bs h = lit< tt
number_lt (suc n) [] h = one-le-pow (suc n) 256 (lit< tt)
number_lt (suc n) (b ∷ bs) h = rw (pow-succ' 256 n) (go b (little_endian (take n bs)) (256 ^ n) (h 0) (number_lt n bs (λ k. h (suc k))))
  where
    go : (b l p : ℕ) → b < 256 → l < p → b + 256 * l < 256 * p
    go b l p h k = omega arith

pub number_at_lt : (n at : ℕ) (bs : List ℕ) → Bytes bs → number_at bs at n < 256 ^ n
number_at_lt n at bs h = number_lt n (drop at bs) (drop_bytes at bs h)

-- ---- there and back

-- what is read from bytes and packed is these bytes
pub pack_numbers : (ws bs : List ℕ) (at : ℕ) → at + total ws ≡ length bs → Bytes bs → packed ws (numbers_from at ws bs) ≡ drop at bs
unfolding packed numbers_from total
pack_numbers [] bs at e h = sym (rw end (drop-length bs))
  where
    end : at ≡ length bs
    end = omega arith
pack_numbers (w ∷ ws) bs at e h = cc (first, pack_numbers ws bs (at + w) (omega arith) h, drop-drop w at bs, take-append-drop w (drop at bs))
  where
    size : length (take w (drop at bs)) ≡ w
    size = length-take-le w (drop at bs) (rw length-drop (omega arith))

    first : bytes_of w (number_at bs at w) ≡ take w (drop at bs)
    first = rw size at (bytes_number (take w (drop at bs)) (take_bytes w (drop at bs) (drop_bytes at bs h)))

-- numbers that are packed are read back, also behind other bytes
pub numbers_pack : (front ws vs : List ℕ) (at : ℕ) → length front ≡ at → Fit ws vs → numbers_from at ws (front ++ packed ws vs) ≡ vs
unfolding packed numbers_from
numbers_pack front ws vs at e none = refl
numbers_pack front ws vs at e (one {w = w} {v = v} {ws = ws'} {vs = vs'} h f) = cc (first, rw append_assoc at (numbers_pack (front ++ bytes_of w v) ws' vs' (at + w) size f))
  where
    first : number_at (front ++ (bytes_of w v ++ packed ws' vs')) at w ≡ v
    first = rw (drop_at front (bytes_of w v ++ packed ws' vs') at e, take_at (bytes_of w v) (packed ws' vs') w (length_bytes w v)) (number_bytes w v h)

    size : length (front ++ bytes_of w v) ≡ at + w
    size = length-append front (bytes_of w v) ∙ rw (e, length_bytes w v)
