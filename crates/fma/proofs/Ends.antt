-- What the proof of `finish` cites. Assumes nothing.
use mathlib.Core.Path.{◌≡◌, refl, sym, ap, ◌∙◌, subst}
use mathlib.Core.Bool.{Bool, false, cond}
use Prim.Native.Nat.{ℕ, suc, ◌+◌, ◌-◌, ◌*◌, ◌%◌, ◌^◌, ◌≤◌, ◌<◌}
use native.Mathlib.Nat.{le_trans, le_refl, lt_of_lt_of_le, lt_irrefl, zero-add, mul-le-mul_left, mul-le-mul_right, mul-lt-mul_of_pos_right}
use native.Mathlib.Omega.{arith}
use lib.IntN.{pos}
use lib.Dec.{lit≤, lit<}
use lib.Pow.{pow_pos, pow_mono, shl_exact}
use lib.Ieee.{inf, fin, binary64, of_fields, of_bits}
use lib.Ieee.Nearest.{closest}
use Rattle.ieee.proofs.Pack.{fields, fields_top, closest_le, too_large, too_small}
use Rattle.fma.specs.Near.{Finished}
use Rattle.fma.proofs.Sticky.{near_lt_pow, near_ge_pow, written_near}

inf_bits : (s : Bool) → of_bits binary64 (cond s (2 ^ 63) 0 + 0x7ff0_0000_0000_0000) ≡ inf s
inf_bits s = fields binary64 s 2047 0 (lit< tt) (lit< tt) ∙ fields_top binary64 s 2047 0 refl

pub zero_bits : (s : Bool) → of_bits binary64 (cond s (2 ^ 63) 0 + 0) ≡ fin s 0 (pos 0)
unfolding of_fields
zero_bits s = fields binary64 s 0 0 (lit< tt) (lit< tt)

huge : (i : ℕ) → 3278 < i → 2 ^ 1024 * 2 ^ 2317 ≤ 2 ^ 62 * 2 ^ i
huge i h =
    let a : 2 ^ 1024 * 2 ^ 2317 ≤ 2 ^ 62 * 2 ^ 3279 = lit≤ tt in
    le_trans a (mul-le-mul_left (2 ^ 62) (pow_mono h))

pub finish_top : (v i : ℕ) → 2 ^ 62 ≤ v → 3278 < i → Finished v i 0x7ff0_0000_0000_0000
finish_top v i lo h = record {
  small = le_refl 0x7ff0_0000_0000_0000;
  value = λ s S near. inf_bits s ∙ sym (too_large binary64 s S (2 ^ 2317) (pow_pos 2317) (le_trans (huge i h) (near_ge_pow S i v 62 (lit≤ tt) near lo)));
}

pub finish_mid : (v i n : ℕ) → 2 ^ 62 ≤ v → v < 2 ^ 63 → i ≤ 3278 → 1232 < i → n ≡ closest v (2 ^ 10) → Finished v i ((i - 1233) * 2 ^ 52 % 2 ^ 64 + n)
finish_mid v i n lo hi h g p =
    let k = i - 1233 in
    let m : (i - 1233) * 2 ^ 52 % 2 ^ 64 + n ≡ k * 2 ^ 52 + closest v (2 ^ 10) =
    ap (λ (z : ℕ). z + n) (shl_exact 11 52 64 (few i h) (lit≤ tt)) ∙ ap (λ (z : ℕ). k * 2 ^ 52 + z) p in
    record {
      small = subst (λ (z : ℕ). z ≤ 0x7ff0_0000_0000_0000) (sym m) (most k (closest v (2 ^ 10)) (less i h) (closest_le binary64 false v i 2317 k 10 (at i g) hi (λ q. lo)));
      value = λ s S near. ap (λ (z : ℕ). of_bits binary64 (cond s (2 ^ 63) 0 + z)) m ∙ written_near binary64 s S v i 2317 k 10 (at i g) (lit≤ tt) hi (λ q. lo) near (room i h);
    }
  where
    few : (i : ℕ) → i ≤ 3278 → i - 1233 < 2 ^ 11
    few i x = omega arith

    less : (i : ℕ) → i ≤ 3278 → i - 1233 ≤ 2045
    less i x = omega arith

    at : (i : ℕ) → 1232 < i → i + 1074 + 10 ≡ 2317 + (i - 1233)
    at i x = omega arith

    room : (i : ℕ) → i ≤ 3278 → suc (i - 1233) < 2047
    room i x = omega arith

    most : (k c : ℕ) → k ≤ 2045 → c ≤ 2 ^ 53 → k * 2 ^ 52 + c ≤ 0x7ff0_0000_0000_0000
    most k c x y = omega arith

pub finish_low : (v i n : ℕ) → v < 2 ^ 63 → i ≤ 1232 → n ≡ closest v (2 ^ (1243 - i)) → Finished v i n
finish_low v i n hi h p =
    let sh = 1243 - i in
    let hi' : v < 2 ^ (53 + sh) = lt_of_lt_of_le hi (pow_mono (wide i h)) in
    let lo : 0 < 0 → 2 ^ (52 + sh) ≤ v = λ q. absurd (lt_irrefl 0 q) in
    record {
      small = subst (λ (z : ℕ). z ≤ 0x7ff0_0000_0000_0000) (sym p) (le_trans (closest_le binary64 false v i 2317 0 sh (at i h) hi' lo) (lit≤ tt));
      value = λ s S near.
          ap (λ (z : ℕ). of_bits binary64 (cond s (2 ^ 63) 0 + z)) (p ∙ sym (zero-add (closest v (2 ^ sh)))) ∙ written_near binary64 s S v i 2317 0 sh (at i h) (deep i h) hi' lo near (lit< tt);
    }
  where
    wide : (i : ℕ) → i ≤ 1232 → 63 ≤ 53 + (1243 - i)
    wide i x = omega arith

    at : (i : ℕ) → i ≤ 1232 → i + 1074 + (1243 - i) ≡ 2317 + 0
    at i x = omega arith

    deep : (i : ℕ) → i ≤ 1232 → 2 ≤ 1243 - i
    deep i x = omega arith

tiny : (S i : ℕ) → S < 2 ^ 63 * 2 ^ i → i ≤ 1179 → S * 2 ^ 1074 * 2 < 2 ^ 2317
tiny S i h k =
    lt_of_lt_of_le (mul-lt-mul_of_pos_right (mul-lt-mul_of_pos_right h (pow_pos 1074)) (pow_pos 1))
    (le_trans (mul-le-mul_right 2 (mul-le-mul_right (2 ^ 1074) (mul-le-mul_left (2 ^ 63) (pow_mono k)))) (lit≤ tt))

pub finish_zero : (v i : ℕ) → v < 2 ^ 63 → i ≤ 1179 → Finished v i 0
finish_zero v i hi h = record {
  small = lit≤ tt;
  value = λ s S near. zero_bits s ∙ sym (too_small binary64 s S (2 ^ 2317) (pow_pos 2317) (tiny S i (near_lt_pow S i v 63 (lit≤ tt) near hi) h));
}
