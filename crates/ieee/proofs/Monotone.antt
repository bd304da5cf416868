-- The casts and roundings to whole numbers keep the order. Assumes nothing.
use Rattle.std.proofs.Common.{◌≡◌, ℕ, zero, suc, ◌+◌, ◌-◌, ◌*◌, ◌/◌, ◌%◌, ◌^◌, ◌<◌, ◌≤◌, min, true, false, cond, T, eqb, ℤ, sym, refl, ap, ◌∙◌, subst, zero-le, le_trans, le_of_eq, le_refl, mul-le-mul_right, mod-lt, mul_assoc, mul_comm, div-lt_iff_lt-mul, add-mul, mul-pos, div-add-mod', mul_right_comm, le_of_mul-le-mul_right, mul_left_comm, arith, eqb→eq}
use native.Mathlib.Nat.{zero-div}
use lib.Ieee.{Float, nan, inf, fin, Format, up, down, le, to_unsigned}
use lib.Ieee.Fits.{down_pos, and_r}
use lib.Ieee.Nearest.{div_mono}
use lib.Ieee.Order.{round_mono}
use Rattle.ieee.specs.Casts.{ceil_unsigned, round_away}
use Rattle.ieee.proofs.Unsigned.{unsigned, le→cross}

min_mono : (a b c : ℕ) → a ≤ b → min a c ≤ min b c
min_mono a b c h = omega arith

min_le : (a c : ℕ) → min a c ≤ c
min_le a c = omega arith

-- a fraction of 0
nothing : (m u : ℕ) → 0 < u → m * u ≡ 0 → m ≡ 0
nothing zero u U h = refl
nothing (suc m) u U h = absurd (none (suc m * u) (mul-pos (pos_suc m) U) h)
  where
    none : (a : ℕ) → 0 < a → a ≡ 0 → ⊥
    none a p q = omega arith

    pos_suc : (a : ℕ) → 0 < suc a
    pos_suc a = omega arith

-- ---- rounded up: (n + (d - 1)) / d
abbrev pub up_div : ℕ → ℕ → ℕ
up_div n d = (n + (d - 1)) / d

pub up_div_le : (n d k : ℕ) → 0 < d → n ≤ k * d → up_div n d ≤ k
up_div_le n d k D h = le_of_suc ((div-lt_iff_lt-mul D).1 (subst (λ (z : ℕ). n + (d - 1) < z) (sym (add_mul_one k d)) (less n d (k * d) D h)))
  where
    le_of_suc : {a b : ℕ} → a < b + 1 → a ≤ b
    le_of_suc l = omega arith

    add_mul_one : (a b : ℕ) → (a + 1) * b ≡ a * b + b
    add_mul_one a b = omega (arith, add-mul a 1 b)

    less : (n d p : ℕ) → 0 < d → n ≤ p → n + (d - 1) < p + d
    less n d p u v = omega arith

pub le_up_div : (n d : ℕ) → 0 < d → n ≤ up_div n d * d
le_up_div n d D = go (n + (d - 1)) (up_div n d * d) ((n + (d - 1)) % d) (div-add-mod' (n + (d - 1)) d) (mod-lt (n + (d - 1)) D) refl
  where
    go : (a q r : ℕ) → q + r ≡ a → r < d → a ≡ n + (d - 1) → n ≤ q
    go a q r p h e = omega arith

up_div_mono : (a b c d : ℕ) → 0 < b → 0 < d → a * d ≤ c * b → up_div a b ≤ up_div c d
up_div_mono a b c d B D h =
    let k = up_div c d in
    up_div_le a b k B
    (le_of_mul-le-mul_right
    (le_trans h (le_trans (mul-le-mul_right b (le_up_div c d D)) (le_of_eq (mul_right_comm k d b))))
    D)

least : (k : ℕ) → min 0 k ≡ 0
least k = omega arith

-- a value that is not negative and not above one that is: a zero
vanishes : (m : ℕ) (e : ℤ) (n : ℕ) (d : ℤ) → T (le (fin false m e) (fin true n d)) → m * up e ≡ 0
unfolding le
vanishes m e n d h =
    nothing (m * up e) (down d) (down_pos d)
    (eqb→eq (m * up e * down d) 0 (and_r (eqb (m * up e * down d) (n * up d * down e)) (eqb (m * up e * down d) 0) h))

-- ---- the casts
module _ (w : ℕ) where
  pub to_unsigned_mono : (x y : Float) → T (le x y) → to_unsigned w x ≤ to_unsigned w y
  unfolding le to_unsigned
  to_unsigned_mono nan y h = absurd h
  to_unsigned_mono (inf true) y h = zero-le
  to_unsigned_mono (inf false) nan h = absurd h
  to_unsigned_mono (inf false) (inf true) h = absurd h
  to_unsigned_mono (inf false) (inf false) h = le_refl (2 ^ w - 1)
  to_unsigned_mono (inf false) (fin t n d) h = absurd h
  to_unsigned_mono (fin true m e) y h = zero-le
  to_unsigned_mono (fin false m e) nan h = absurd h
  to_unsigned_mono (fin false m e) (inf true) h = absurd h
  to_unsigned_mono (fin false m e) (inf false) h = min_le (m * up e / down e) (2 ^ w - 1)
  to_unsigned_mono (fin false m e) (fin true n d) h = le_of_eq (ap (λ (k : ℕ). min (k / down e) (2 ^ w - 1)) (vanishes m e n d h) ∙ ap (λ (k : ℕ). min k (2 ^ w - 1)) (zero-div (down e)) ∙ least (2 ^ w - 1))
  to_unsigned_mono (fin false m e) (fin false n d) h =
      min_mono (m * up e / down e) (n * up d / down d) (2 ^ w - 1) (div_mono (m * up e) (down e) (n * up d) (down d) (down_pos e) (down_pos d) (le→cross (fin false m e) (fin false n d) tt tt h))

  pub ceil_unsigned_mono : (x y : Float) → T (le x y) → ceil_unsigned w x ≤ ceil_unsigned w y
  unfolding le ceil_unsigned
  ceil_unsigned_mono nan y h = absurd h
  ceil_unsigned_mono (inf true) y h = zero-le
  ceil_unsigned_mono (inf false) nan h = absurd h
  ceil_unsigned_mono (inf false) (inf true) h = absurd h
  ceil_unsigned_mono (inf false) (inf false) h = le_refl (2 ^ w - 1)
  ceil_unsigned_mono (inf false) (fin t n d) h = absurd h
  ceil_unsigned_mono (fin true m e) y h = zero-le
  ceil_unsigned_mono (fin false m e) nan h = absurd h
  ceil_unsigned_mono (fin false m e) (inf true) h = absurd h
  ceil_unsigned_mono (fin false m e) (inf false) h = min_le (up_div (m * up e) (down e)) (2 ^ w - 1)
  ceil_unsigned_mono (fin false m e) (fin true n d) h =
      le_of_eq (ap (λ (k : ℕ). min (up_div k (down e)) (2 ^ w - 1)) (vanishes m e n d h) ∙ ap (λ (k : ℕ). min k (2 ^ w - 1)) (none (down e) (down_pos e)) ∙ least (2 ^ w - 1))
    where
      none : (d : ℕ) → 0 < d → up_div 0 d ≡ 0
      none d D = eq_zero (up_div_le 0 d 0 D zero-le)
        where
          eq_zero : {a : ℕ} → a ≤ 0 → a ≡ 0
          eq_zero l = omega arith
  ceil_unsigned_mono (fin false m e) (fin false n d) h =
      min_mono (up_div (m * up e) (down e)) (up_div (n * up d) (down d)) (2 ^ w - 1) (up_div_mono (m * up e) (down e) (n * up d) (down d) (down_pos e) (down_pos d) (le→cross (fin false m e) (fin false n d) tt tt h))

  -- cut, and rounded up
  pub cut_le_ceil : (x : Float) → to_unsigned w x ≤ ceil_unsigned w x
  unfolding to_unsigned ceil_unsigned
  cut_le_ceil nan = zero-le
  cut_le_ceil (inf s) = le_refl (cond s 0 (2 ^ w - 1))
  cut_le_ceil (fin true m e) = zero-le
  cut_le_ceil (fin false m e) = min_mono (m * up e / down e) (up_div (m * up e) (down e)) (2 ^ w - 1) (div_mono (m * up e) (down e) (m * up e + (down e - 1)) (down e) (down_pos e) (down_pos e) (mul-le-mul_right (down e) (more (m * up e) (down e - 1))))
    where
      more : (a b : ℕ) → a ≤ a + b
      more a b = omega arith

-- ---- to the nearest whole number
pub round_away_mono : (f : Format) (x y : Float) → T (unsigned x) → T (unsigned y) → T (le x y) → T (le (round_away f x) (round_away f y))
unfolding round_away
round_away_mono f nan y p q h = absurd p
round_away_mono f (inf s) y p q h = absurd p
round_away_mono f (fin true m e) y p q h = absurd p
round_away_mono f (fin false m e) nan p q h = absurd q
round_away_mono f (fin false m e) (inf t) p q h = absurd q
round_away_mono f (fin false m e) (fin true n d) p q h = absurd q
round_away_mono f (fin false m e) (fin false n d) p q h =
    round_mono f ((m * up e * 2 + down e) / (down e * 2)) 1 ((n * up d * 2 + down d) / (down d * 2)) 1 one one
    (mul-le-mul_right 1 (div_mono (m * up e * 2 + down e) (down e * 2) (n * up d * 2 + down d) (down d * 2) (mul-pos (down_pos e) two) (mul-pos (down_pos d) two)
    (crossed (m * up e) (down e) (n * up d) (down d) (le→cross (fin false m e) (fin false n d) tt tt h))))
  where
    one : 0 < 1
    one = omega arith

    two : 0 < 2
    two = omega arith

    crossed : (a b c d : ℕ) → a * d ≤ c * b → (a * 2 + b) * (d * 2) ≤ (c * 2 + d) * (b * 2)
    crossed a b c d u =
        let l : (a * 2 + b) * (d * 2) ≡ a * d * 4 + b * d * 2 = simp (add-mul, mul_assoc, mul_comm, mul_left_comm) (omega arith) in
        let r : (c * 2 + d) * (b * 2) ≡ c * b * 4 + b * d * 2 = simp (add-mul, mul_assoc, mul_comm, mul_left_comm) (omega arith) in
        le_trans (le_of_eq l) (le_trans (plus (a * d) (c * b) (b * d * 2) u) (le_of_eq (sym r)))
      where
        plus : (i j k : ℕ) → i ≤ j → i * 4 + k ≤ j * 4 + k
        plus i j k t = omega arith
