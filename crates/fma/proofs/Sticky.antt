-- Rounding a number S by way of a X that stands for it (`Near`): for either format. Assumes nothing.
use mathlib.Core.Path.{◌≡◌, refl, sym, ap, ◌∙◌, subst}
use mathlib.Core.Bool.{Bool, true, false, not, cond}
use Prim.Native.Nat.{ℕ, zero, suc, ◌+◌, ◌-◌, ◌*◌, ◌/◌, ◌%◌, ◌^◌, ◌≤◌, ◌<◌, compare, Ordering}
use native.Mathlib.Nat.{le_trans, le_of_eq, le_refl, lt_of_lt_of_le, lt_irrefl, add_assoc, add-mul, mul_comm, mul_assoc, mul_left_comm, mul-pos, mul-le-mul_right, mul-lt-mul_of_pos_right, pow-succ', div-add-mod', mod-lt, le-add_right}
use native.Mathlib.Omega.{arith}
use lib.Dec.{T, ltb, ltb→lt, nltb→le}
use lib.Arith.{digits_div, digits_mod, digits_lt}
use lib.Pow.{pow-add, pow_pos}
use lib.Ieee.{Format, prec, low, hid, ones, top, units, nearest, round, of_bits}
use lib.Ieee.Nearest.{closest, closest_same}
use Rattle.ieee.proofs.Closest.{Cmp, compare_is}
use Rattle.ieee.proofs.Pack.{round_at, pack, closest_le, closest_ge}
use Rattle.fma.specs.Near.{Near, exact, inside}

-- ---- `closest`, by the digits of n
closest_is : (n u q r : ℕ) (o : Ordering) → n ≡ q * u + r → r < u → Cmp o (r * 2) u → closest n u ≡ nearest q o
closest_is n u q r o e h c =
    ap (λ (z : ℕ). closest z u) e
    ∙ ap (λ (z : ℕ). nearest z (compare ((q * u + r) % u * 2) u)) (digits_div q h)
    ∙ ap (λ (z : ℕ). nearest q (compare (z * 2) u)) (digits_mod q h)
    ∙ ap (nearest q) (compare_is o (r * 2) u c)

-- S is h * U + r, strictly between h * U and (h + 1) * U, and X is 2 * h + 1: S by U * (2 * G) and X by 4 * G round alike, since neither can be a tie
module _ (h r U G : ℕ) (R : 0 < r) (L : r < U) (P : 0 < G) where
  q : ℕ
  q = h / (2 * G)

  g : ℕ
  g = h % (2 * G)

  h_is : h / (2 * G) * (2 * G) + h % (2 * G) ≡ h
  h_is = div-add-mod' h (2 * G)

  g_lt : h % (2 * G) < 2 * G
  g_lt = mod-lt h (pos2 G P)
    where
      pos2 : (a : ℕ) → 0 < a → 0 < 2 * a
      pos2 a x = omega arith

  s_is : h * U + r ≡ h / (2 * G) * (U * (2 * G)) + (h % (2 * G) * U + r)
  s_is = ap (λ (z : ℕ). z * U + r) (sym h_is) ∙ go (h / (2 * G)) (h % (2 * G)) (2 * G) U r
    where
      go : (q g t U r : ℕ) → (q * t + g) * U + r ≡ q * (U * t) + (g * U + r)
      go q g t U r =
          let a : (q * t + g) * U ≡ q * (U * t) + g * U = add-mul (q * t) g U ∙ ap (λ (z : ℕ). z + g * U) (mul_assoc q t U ∙ ap (λ (z : ℕ). q * z) (mul_comm t U)) in
          ap (λ (z : ℕ). z + r) a ∙ add_assoc (q * (U * t)) (g * U) r

  s_rest : h % (2 * G) * U + r < U * (2 * G)
  s_rest = subst (λ (z : ℕ). h % (2 * G) * U + r < z) (mul_comm (2 * G) U) (digits_lt g_lt L)

  x_is : 2 * h + 1 ≡ h / (2 * G) * (2 * (2 * G)) + (2 * (h % (2 * G)) + 1)
  x_is = go h (h / (2 * G)) (h % (2 * G)) (h / (2 * G) * (2 * G)) (2 * G) refl h_is
    where
      go : (h q g qt t : ℕ) → qt ≡ q * t → qt + g ≡ h → 2 * h + 1 ≡ q * (2 * t) + (2 * g + 1)
      go h q g qt t a b =
          let c : q * (2 * t) ≡ 2 * (q * t) = mul_left_comm q 2 t in
          omega arith

  x_rest : 2 * (h % (2 * G)) + 1 < 2 * (2 * G)
  x_rest = go (h % (2 * G)) (2 * G) g_lt
    where
      go : (g t : ℕ) → g < t → 2 * g + 1 < 2 * t
      go g t x = omega arith

  below : h % (2 * G) < G → closest (h * U + r) (U * (2 * G)) ≡ closest (2 * h + 1) (2 * (2 * G))
  below x =
      closest_is (h * U + r) (U * (2 * G)) (h / (2 * G)) (h % (2 * G) * U + r) Ordering.lt s_is s_rest
      (go (h % (2 * G)) (h % (2 * G) * U) (G * U) (U * (2 * G)) (lt_of_lt_of_le (digits_lt x L) (le_refl (G * U))) (mul_left_comm U 2 G ∙ ap (λ (z : ℕ). 2 * z) (mul_comm U G)))
      ∙ sym (closest_is (2 * h + 1) (2 * (2 * G)) (h / (2 * G)) (2 * (h % (2 * G)) + 1) Ordering.lt x_is x_rest (go2 (h % (2 * G)) G x))
    where
      go : (g gu GU t : ℕ) → gu + r < GU → t ≡ 2 * GU → (gu + r) * 2 < t
      go g gu GU t a b = omega arith

      go2 : (g G : ℕ) → g < G → (2 * g + 1) * 2 < 2 * (2 * G)
      go2 g G a = omega arith

  above : G ≤ h % (2 * G) → closest (h * U + r) (U * (2 * G)) ≡ closest (2 * h + 1) (2 * (2 * G))
  above x =
      closest_is (h * U + r) (U * (2 * G)) (h / (2 * G)) (h % (2 * G) * U + r) Ordering.gt s_is s_rest
      (go (h % (2 * G) * U) (G * U) (U * (2 * G)) (mul-le-mul_right U x) (mul_left_comm U 2 G ∙ ap (λ (z : ℕ). 2 * z) (mul_comm U G)))
      ∙ sym (closest_is (2 * h + 1) (2 * (2 * G)) (h / (2 * G)) (2 * (h % (2 * G)) + 1) Ordering.gt x_is x_rest (go2 (h % (2 * G)) G x))
    where
      go : (gu GU t : ℕ) → GU ≤ gu → t ≡ 2 * GU → t < (gu + r) * 2
      go gu GU t a b = omega arith

      go2 : (g G : ℕ) → G ≤ g → 2 * (2 * G) < (2 * g + 1) * 2
      go2 g G a = omega arith

  alike : closest (h * U + r) (U * (2 * G)) ≡ closest (2 * h + 1) (2 * (2 * G))
  alike = go (ltb (h % (2 * G)) G) (ltb→lt (h % (2 * G)) G) (nltb→le (h % (2 * G)) G)
    where
      go : (b : Bool) → (T b → h % (2 * G) < G) → (T (not b) → G ≤ h % (2 * G)) → closest (h * U + r) (U * (2 * G)) ≡ closest (2 * h + 1) (2 * (2 * G))
      go true a c = below (a tt)
      go false a c = above (c tt)

pub near_closest : (S i X g : ℕ) → Near S i X → closest S (2 ^ i * 2 ^ suc (suc g)) ≡ closest X (2 ^ suc (suc g))
near_closest S i X g (exact e) =
    closest_same S (2 ^ i * 2 ^ suc (suc g)) X (2 ^ suc (suc g)) (mul-pos (pow_pos i) (pow_pos (suc (suc g)))) (pow_pos (suc (suc g)))
    (ap (λ (z : ℕ). z * 2 ^ suc (suc g)) (sym e) ∙ mul_assoc X (2 ^ i) (2 ^ suc (suc g)))
near_closest S i X g (inside h r v e p l) =
    let four : 2 ^ suc (suc g) ≡ 2 * (2 * 2 ^ g) = pow-succ' 2 (suc g) ∙ ap (λ (z : ℕ). 2 * z) (pow-succ' 2 g) in
    let unit : 2 ^ i * 2 ^ suc (suc g) ≡ 2 ^ suc i * (2 * 2 ^ g) =
    ap (λ (z : ℕ). 2 ^ i * z) four ∙ mul_left_comm (2 ^ i) 2 (2 * 2 ^ g) ∙ sym (mul_assoc 2 (2 ^ i) (2 * 2 ^ g)) ∙ ap (λ (z : ℕ). z * (2 * 2 ^ g)) (sym (pow-succ' 2 i)) in
    ap (λ (z : ℕ). closest z (2 ^ i * 2 ^ suc (suc g))) e
    ∙ ap (λ (z : ℕ). closest (h * 2 ^ suc i + r) z) unit
    ∙ alike h r (2 ^ suc i) (2 ^ g) p l (pow_pos g)
    ∙ ap (λ (z : ℕ). closest (2 * h + 1) z) (sym four)
    ∙ ap (λ (z : ℕ). closest z (2 ^ suc (suc g))) (sym v)

-- ---- an even bound B on X is one on S
pub near_lt : (S i X B : ℕ) → Near S i X → X < 2 * B → S < 2 * B * 2 ^ i
near_lt S i X B (exact e) h = subst (λ (z : ℕ). z < 2 * B * 2 ^ i) e (mul-lt-mul_of_pos_right h (pow_pos i))
near_lt S i X B (inside a r v e p l) h =
    subst (λ (z : ℕ). z < 2 * B * 2 ^ i) (sym e)
    (lt_of_lt_of_le (digits_lt (less a B (subst (λ (z : ℕ). z < 2 * B) v h)) l) (le_of_eq (ap (λ (z : ℕ). B * z) (pow-succ' 2 i) ∙ mul_left_comm B 2 (2 ^ i) ∙ sym (mul_assoc 2 B (2 ^ i)))))
  where
    less : (a B : ℕ) → 2 * a + 1 < 2 * B → a < B
    less a B x = omega arith

pub near_ge : (S i X B : ℕ) → Near S i X → 2 * B ≤ X → 2 * B * 2 ^ i ≤ S
near_ge S i X B (exact e) h = subst (λ (z : ℕ). 2 * B * 2 ^ i ≤ z) e (mul-le-mul_right (2 ^ i) h)
near_ge S i X B (inside a r v e p l) h =
    subst (λ (z : ℕ). 2 * B * 2 ^ i ≤ z) (sym e)
    (le_trans (le_of_eq (mul_assoc 2 B (2 ^ i) ∙ mul_left_comm 2 B (2 ^ i) ∙ ap (λ (z : ℕ). B * z) (sym (pow-succ' 2 i))))
    (le_trans (mul-le-mul_right (2 ^ suc i) (less a B (subst (λ (z : ℕ). 2 * B ≤ z) v h))) (le-add_right (a * 2 ^ suc i) r)))
  where
    less : (a B : ℕ) → 2 * B ≤ 2 * a + 1 → B ≤ a
    less a B x = omega arith

-- the same where the bound is a power
pub near_lt_pow : (S i X n : ℕ) → 1 ≤ n → Near S i X → X < 2 ^ n → S < 2 ^ n * 2 ^ i
near_lt_pow S i X zero x w h = absurd (lt_irrefl 0 x)
near_lt_pow S i X (suc n) x w h = subst (λ (z : ℕ). S < z * 2 ^ i) (sym (pow-succ' 2 n)) (near_lt S i X (2 ^ n) w (subst (λ (z : ℕ). X < z) (pow-succ' 2 n) h))

pub near_ge_pow : (S i X n : ℕ) → 1 ≤ n → Near S i X → 2 ^ n ≤ X → 2 ^ n * 2 ^ i ≤ S
near_ge_pow S i X zero x w h = absurd (lt_irrefl 0 x)
near_ge_pow S i X (suc n) x w h = subst (λ (z : ℕ). z * 2 ^ i ≤ S) (sym (pow-succ' 2 n)) (near_ge S i X (2 ^ n) w (subst (λ (z : ℕ). z ≤ X) (pow-succ' 2 n) h))

-- ---- the fraction S / 2 ^ D, where X * 2 ^ i stands for S and sh of X's digits are dropped, two at least
module _ (f : Format) (s : Bool) (S X i D k sh : ℕ) (e : i + low f + sh ≡ D + k) (deep : 2 ≤ sh) (hi : X < 2 ^ (prec f + sh)) (lo : 0 < k → 2 ^ (prec f - 1 + sh) ≤ X) (near : Near S i X) where
  sum : 2 ^ i * 2 ^ low f * 2 ^ sh ≡ 2 ^ D * 2 ^ k
  sum = ap (λ (a : ℕ). a * 2 ^ sh) (sym (pow-add 2 i (low f))) ∙ sym (pow-add 2 (i + low f) sh) ∙ ap (λ (a : ℕ). 2 ^ a) e ∙ pow-add 2 D k

  scaled : (a : ℕ) → 2 ^ (a + sh) * 2 ^ i * 2 ^ low f ≡ 2 ^ (a + k) * 2 ^ D
  scaled a =
      mul_assoc (2 ^ (a + sh)) (2 ^ i) (2 ^ low f)
      ∙ ap (λ (z : ℕ). z * (2 ^ i * 2 ^ low f)) (pow-add 2 a sh)
      ∙ mul_assoc (2 ^ a) (2 ^ sh) (2 ^ i * 2 ^ low f)
      ∙ ap (λ (z : ℕ). 2 ^ a * z) (mul_comm (2 ^ sh) (2 ^ i * 2 ^ low f) ∙ sum ∙ mul_comm (2 ^ D) (2 ^ k))
      ∙ sym (mul_assoc (2 ^ a) (2 ^ k) (2 ^ D))
      ∙ ap (λ (z : ℕ). z * 2 ^ D) (sym (pow-add 2 a k))

  some : (p n : ℕ) → 2 ≤ n → 1 ≤ p + n
  some p n x = omega arith

  by_two : closest S (2 ^ i * 2 ^ sh) ≡ closest X (2 ^ sh)
  by_two = subst (λ (z : ℕ). closest S (2 ^ i * 2 ^ z) ≡ closest X (2 ^ z)) (back sh deep) (near_closest S i X (sh - 2) near)
    where
      back : (n : ℕ) → 2 ≤ n → suc (suc (n - 2)) ≡ n
      back n x = omega arith

  pub encode_near : round f s S (2 ^ D) ≡ units f s (closest X (2 ^ sh)) k
  encode_near =
      round_at f s S (2 ^ D) k (pow_pos D)
      (subst (λ (a : ℕ). S * 2 ^ low f < a) (scaled (prec f)) (mul-lt-mul_of_pos_right (near_lt_pow S i X (prec f + sh) (some (prec f) sh deep) near hi) (pow_pos (low f))))
      (λ q. subst (λ (a : ℕ). a ≤ S * 2 ^ low f) (scaled (prec f - 1)) (mul-le-mul_right (2 ^ low f) (near_ge_pow S i X (prec f - 1 + sh) (some (prec f - 1) sh deep) near (lo q))))
      ∙ ap (λ (a : ℕ). units f s a k)
      (closest_same (S * 2 ^ low f) (2 ^ D * 2 ^ k) S (2 ^ i * 2 ^ sh) (mul-pos (pow_pos D) (pow_pos k)) (mul-pos (pow_pos i) (pow_pos sh))
      (mul_assoc S (2 ^ low f) (2 ^ i * 2 ^ sh) ∙ ap (λ (a : ℕ). S * a) (mul_left_comm (2 ^ low f) (2 ^ i) (2 ^ sh) ∙ sym (mul_assoc (2 ^ i) (2 ^ low f) (2 ^ sh)) ∙ sum))
      ∙ by_two)

  -- as bits
  pub written_near : suc k < ones f → of_bits f (cond s (top f) 0 + (k * hid f + closest X (2 ^ sh))) ≡ round f s S (2 ^ D)
  written_near R = pack f s k (closest X (2 ^ sh)) (closest_le f s X i D k sh e hi lo) (closest_ge f s X i D k sh e hi lo) R ∙ sym encode_near
