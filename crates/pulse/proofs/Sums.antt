-- Laws of sums over a run of places. Assumes nothing.
use mathlib.Core.Path.{◌≡◌, refl, ap, sym, ◌∙◌}
use mathlib.Core.List.{List}
use Prim.Native.Nat.{ℕ, zero, suc, ◌+◌, ◌-◌, ◌*◌, ◌%◌, ◌^◌, ◌≤◌, ◌<◌}
use native.Mathlib.Nat.{mod-eq_of_lt}
use native.Mathlib.Numerals.{add-one}
use native.Mathlib.Omega.{arith}
use lib.ListN.{length, get_or, take, drop, length-drop}
use lib.Seq.{take-suc}
use Rattle.std.specs.List.{sum}
use Rattle.std.proofs.lemmas.List.{get_or-drop}
use Rattle.std.proofs.lemmas.List.Sums.{sum_by_push}
use Rattle.pulse.specs.Sums.{sum_from}
use Rattle.pulse.specs.PulseWindow.{ring_at, window_sum}

pub sum_none : (f : ℕ → ℕ) (s : ℕ) → 0 ≡ sum_from f s 0
unfolding sum_from
sum_none f s = refl

pub sum_more : (f : ℕ → ℕ) (s n : ℕ) → sum_from f s (n + 1) ≡ sum_from f s n + f (s + n)
unfolding sum_from
sum_more f s n = rw add-one

-- the first place taken off
sum_shift : (f : ℕ → ℕ) (s n : ℕ) → sum_from f s (suc n) ≡ f s + sum_from f (suc s) n
unfolding sum_from
sum_shift f s zero = let z : s + 0 ≡ s = omega arith in let e : f (s + 0) ≡ f s = ap f z in omega arith
sum_shift f s (suc n) =
    let e : s + suc n ≡ suc s + n = omega arith in
    let g : f (s + suc n) ≡ f (suc s + n) = ap f e in
    omega (arith, sum_shift f s n)

-- from one run to the next: less the value that leaves, plus the one that enters
pub sum_slide : (f : ℕ → ℕ) (s n : ℕ) → sum_from f (suc s) n + f s ≡ sum_from f s n + f (s + n)
sum_slide f s n = omega (arith, sum_shift f s n, sum_more f s n, ap (sum_from f s) (add-one n))

pub sum_same : (f g : ℕ → ℕ) (s n : ℕ) → ((k : ℕ) → k < n → f (s + k) ≡ g (s + k)) → sum_from f s n ≡ sum_from g s n
unfolding sum_from
sum_same f g s zero h = refl
sum_same f g s (suc n) h =
    let e : sum_from f s n ≡ sum_from g s n = sum_same f g s n (λ k l. h k (omega arith)) in
    let d : f (s + n) ≡ g (s + n) = h n (omega arith) in
    cc

-- a sum of values that are at most m
pub sum_below : (f : ℕ → ℕ) (m s n : ℕ) → ((k : ℕ) → f k ≤ m) → sum_from f s n ≤ n * m
unfolding sum_from
sum_below f m s zero h = omega arith
sum_below f m s (suc n) h = omega (arith, sum_below f m s n h, h (s + n))

-- the sum of a part of a list
pub sum_taken : (xs : List ℕ) (s n : ℕ) → s + n ≤ length xs → sum (take n (drop s xs)) ≡ sum_from (λ k. get_or xs k 0) s n
unfolding sum_from
sum_taken xs s zero h = refl
sum_taken xs s (suc n) h =
    let l : n < length (drop s xs) = rw length-drop (omega arith) in
    rw (take-suc (drop s xs) n 0 l, get_or-drop)
    (sum_by_push (λ x. x) (take n (drop s xs)) (get_or xs (s + n) 0) ∙ ap (λ (k : ℕ). k + get_or xs (s + n) 0) (sum_taken xs s n (omega arith)))

-- ---- the ring

-- a window that does not go round
pub window_straight : (counts : List ℕ) (width : ℕ) → width ≤ length counts → sum_from (λ k. get_or counts k 0) 0 width ≡ window_sum counts width 0
window_straight counts width h =
    sum_same (λ k. get_or counts k 0) (ring_at counts) 0 width
    (λ k l. let b : 0 + k < length counts = omega arith in ap (λ (i : ℕ). get_or counts i 0) (sym (mod-eq_of_lt b)))

-- the next window's sum, with the places as the code has them
pub window_next : (counts : List ℕ) (width start : ℕ) → 1 ≤ start → start < length counts → 1 ≤ width
    → window_sum counts width start + get_or counts (start - 1) 0 ≡ window_sum counts width (start - 1) + get_or counts ((start + width - 1) % length counts) 0
window_next counts width zero a b w = absurd (omega arith)
window_next counts width (suc s) a b w =
    let l : s < length counts = omega arith in
    let e : s % length counts ≡ s = mod-eq_of_lt l in
    let i : ring_at counts s ≡ get_or counts s 0 = ap (λ (k : ℕ). get_or counts k 0) e in
    let o : s + width ≡ suc s + width - 1 = omega arith in
    let j : ring_at counts (s + width) ≡ get_or counts ((suc s + width - 1) % length counts) 0 = ap (ring_at counts) o in
    let q : suc s - 1 ≡ s = omega arith in
    rw q (omega (arith, sum_slide (ring_at counts) s width))

-- a window of 65,536 counts of 32 bits at most
pub window_below : (counts : List ℕ) (width start : ℕ) → ((k : ℕ) → get_or counts k 0 < 2 ^ 32) → width ≤ 65536 → window_sum counts width start ≤ 281474976645120
window_below counts width start h w =
    let e : window_sum counts width start ≤ width * 4294967295 = sum_below (ring_at counts) 4294967295 start width (λ k. omega (arith, h (k % length counts))) in
    omega arith
