-- What the proof of `ceil_to_u64` cites: the whole part t of x, cast back to a float and compared with x. Assumes nothing.
use Rattle.std.proofs.Common.{◌≡◌, ℕ, suc, ◌+◌, ◌-◌, ◌*◌, ◌/◌, ◌%◌, ◌^◌, ◌<◌, ◌≤◌, min, true, false, not, T, ℤ, pos, negsuc, sym, ap, ◌∙◌, true≢false, le_trans, le_of_eq, lt_of_le_of_lt, le_of_lt, lt_irrefl, mod-lt, lt_of_mul-lt-mul_right, div-add-mod', mul-one, mul_right_comm, le_of_mul-le-mul_right, arith, ltb→lt, nltb→le}
use lib.Arith.{digits_div}
use lib.Ieee.{Float, nan, inf, fin, binary64, up, down, lt, fits, of_int, to_unsigned}
use lib.Ieee.Fits.{down_pos}
use lib.Ieee.Exact.{HasValue}
use lib.Ieee.Back.{round_whole}
use Rattle.ieee.proofs.Order.{yes, no}
use Rattle.ieee.specs.Casts.{ceil_unsigned}
use Rattle.ieee.proofs.Unique.{digits_lt}

-- ---- a whole number compared with x
pub lt_whole : (y : Float) (a m : ℕ) (e : ℤ) → HasValue y false a 1 → T (lt y (fin false m e)) → a * down e < m * up e
unfolding lt
lt_whole nan a m e h t = absurd h
lt_whole (inf s) a m e h t = absurd h
lt_whole (fin true n d) a m e h t = absurd (true≢false h.0)
lt_whole (fin false n d) a m e h t =
    lt_of_mul-lt-mul_right (down d)
    (lt_of_le_of_lt (le_of_eq (mul_right_comm a (down e) (down d) ∙ ap (λ (z : ℕ). z * down e) (sym h.1 ∙ mul-one (n * up d)))) (ltb→lt (n * up d * down e) (m * up e * down d) t))

pub ge_whole : (y : Float) (a m : ℕ) (e : ℤ) → HasValue y false a 1 → T (not (lt y (fin false m e))) → m * up e ≤ a * down e
unfolding lt
ge_whole nan a m e h t = absurd h
ge_whole (inf s) a m e h t = absurd h
ge_whole (fin true n d) a m e h t = absurd (true≢false h.0)
ge_whole (fin false n d) a m e h t =
    le_of_mul-le-mul_right
    (le_trans (nltb→le (n * up d * down e) (m * up e * down d) t) (le_of_eq (ap (λ (z : ℕ). z * down e) (sym (mul-one (n * up d)) ∙ h.1) ∙ mul_right_comm a (down d) (down e)))) (down_pos d)

-- no negative value is above a whole number
not_above : (y : Float) (a m : ℕ) (e : ℤ) → HasValue y false a 1 → T (lt y (fin true m e)) → ⊥
unfolding lt
not_above nan a m e h t = absurd h
not_above (inf s) a m e h t = absurd h
not_above (fin true n d) a m e h t = absurd (true≢false h.0)
not_above (fin false n d) a m e h t = t

not_above_inf : (y : Float) (a : ℕ) → HasValue y false a 1 → T (lt y (inf true)) → ⊥
unfolding lt
not_above_inf nan a h t = absurd h
not_above_inf (inf s) a h t = absurd h
not_above_inf (fin s n d) a h t = t

not_above_nan : (y : Float) (a : ℕ) → HasValue y false a 1 → T (lt y nan) → ⊥
unfolding lt
not_above_nan nan a h t = absurd h
not_above_nan (inf s) a h t = absurd h
not_above_nan (fin s n d) a h t = t

pub whole : (t : ℕ) → t < 2 ^ 53 → HasValue (of_int binary64 (pos t)) false t 1
unfolding of_int
whole t h = round_whole binary64 false t (le_of_lt h)

-- ---- n / d up to a whole number, where the whole part t is below the cap
module _ (n d t : ℕ) (D : 0 < d) where
  -- something is dropped
  up_by_one : n / d ≡ t → t * d < n → (n + (d - 1)) / d ≡ t + 1
  up_by_one p h =
      let r = n % d in
      let w : t * d + r ≡ n = ap (λ (z : ℕ). z * d + r) (sym p) ∙ div-add-mod' n d in
      ap (λ (z : ℕ). z / d) (go n d r (t * d) ((t + 1) * d) (suc_times t d) D w h) ∙ digits_div (t + 1) (less d r D (mod-lt n D) (some n r (t * d) w h))
    where
      suc_times : (a b : ℕ) → (a + 1) * b ≡ a * b + b
      suc_times a b = omega (arith, native.Mathlib.Nat.add-mul a 1 b)

      some : (a r b : ℕ) → b + r ≡ a → b < a → 0 < r
      some a r b p q = omega arith

      less : (a r : ℕ) → 0 < a → r < a → 0 < r → r - 1 < a
      less a r p q k = omega arith

      go : (n d r b b' : ℕ) → b' ≡ b + d → 0 < d → b + r ≡ n → b < n → n + (d - 1) ≡ b' + (r - 1)
      go n d r b b' p q k l = omega arith

  -- nothing is
  as_is : n / d ≡ t → n ≤ t * d → (n + (d - 1)) / d ≡ t
  as_is p h =
      let w : t * d + n % d ≡ n = ap (λ (z : ℕ). z * d + n % d) (sym p) ∙ div-add-mod' n d in
      ap (λ (z : ℕ). (z + (d - 1)) / d) (same n (t * d) (n % d) w h) ∙ digits_div t (less d D)
    where
      same : (a b r : ℕ) → b + r ≡ a → a ≤ b → a ≡ b
      same a b r p q = omega arith

      less : (a : ℕ) → 0 < a → a - 1 < a
      less a p = omega arith

uncap : (a t c : ℕ) → t ≡ min a (c - 1) → t < 9007199254740992 → 9007199254740992 < c → a ≡ t
uncap a t c p h k = omega arith

in_cap : (t c : ℕ) → t < 9007199254740992 → 9007199254740992 < c → min t (c - 1) ≡ t
in_cap t c h k = omega arith

in_cap' : (t c : ℕ) → t < 9007199254740992 → 9007199254740992 < c → min (t + 1) (c - 1) ≡ t + 1
in_cap' t c h k = omega arith

wide : 9007199254740992 < 2 ^ 64
wide = lib.Dec.lit< tt

pub ceil_up : (x : Float) (t : ℕ) → t ≡ to_unsigned 64 x → t < 2 ^ 53 → lt (of_int binary64 (pos t)) x ≡ true → t + 1 ≡ ceil_unsigned 64 x
unfolding to_unsigned ceil_unsigned
ceil_up nan t p h k = absurd (not_above_nan (of_int binary64 (pos t)) t (whole t h) (yes k))
ceil_up (inf true) t p h k = absurd (not_above_inf (of_int binary64 (pos t)) t (whole t h) (yes k))
ceil_up (inf false) t p h k = omega arith
ceil_up (fin true m e) t p h k = absurd (not_above (of_int binary64 (pos t)) t m e (whole t h) (yes k))
ceil_up (fin false m e) t p h k =
    sym (ap (λ (z : ℕ). min z (2 ^ 64 - 1)) (up_by_one (m * up e) (down e) t (down_pos e) (uncap (m * up e / down e) t (2 ^ 64) p h wide) (lt_whole (of_int binary64 (pos t)) t m e (whole t h) (yes k))) ∙ in_cap' t (2 ^ 64) h wide)

pub ceil_as_is : (x : Float) (t : ℕ) → t ≡ to_unsigned 64 x → t < 2 ^ 53 → lt (of_int binary64 (pos t)) x ≡ false → t ≡ ceil_unsigned 64 x
unfolding to_unsigned ceil_unsigned
ceil_as_is nan t p h k = p
ceil_as_is (inf true) t p h k = p
ceil_as_is (inf false) t p h k = p
ceil_as_is (fin true m e) t p h k = p
ceil_as_is (fin false m e) t p h k =
    sym (ap (λ (z : ℕ). min z (2 ^ 64 - 1)) (as_is (m * up e) (down e) t (down_pos e) (uncap (m * up e / down e) t (2 ^ 64) p h wide) (ge_whole (of_int binary64 (pos t)) t m e (whole t h) (no k))) ∙ in_cap t (2 ^ 64) h wide)

-- ---- from 2 ^ 53 on there is no fraction
too_big : (m k : ℕ) → m < 2 ^ 53 → 2 ^ 53 ≤ m * 1 / 2 ^ suc k → ⊥
too_big m k h g = lt_irrefl (2 ^ 53) (lt_of_le_of_lt (le_trans g (le_trans (native.Mathlib.Nat.div-le_self (m * 1) (2 ^ suc k)) (le_of_eq (mul-one m)))) h)

at_least : (a t c : ℕ) → t ≡ min a c → 9007199254740992 ≤ t → 9007199254740992 ≤ a
at_least a t c p h = omega arith

pub ceil_big : (x : Float) (t : ℕ) → fits binary64 x ≡ true → t ≡ to_unsigned 64 x → 2 ^ 53 ≤ t → t ≡ ceil_unsigned 64 x
unfolding to_unsigned ceil_unsigned
ceil_big nan t F p h = p
ceil_big (inf true) t F p h = p
ceil_big (inf false) t F p h = p
ceil_big (fin true m e) t F p h = p
ceil_big (fin false m (pos k)) t F p h = p ∙ ap (λ (z : ℕ). min (z / 1) (2 ^ 64 - 1)) (sym (native.Mathlib.Nat.add-zero (m * 2 ^ k)))
ceil_big (fin false m (negsuc k)) t F p h = absurd (too_big m k (digits_lt binary64 false m (negsuc k) (yes F)) (at_least (m * 1 / 2 ^ suc k) t (2 ^ 64 - 1) p h))
