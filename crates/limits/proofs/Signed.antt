-- Signed numbers of 64 bits: differences of two counts, how large they get, and that the machine gives back what fits. Assumes nothing.
use mathlib.Core.Path.{◌≡◌, refl, sym, ap, ◌∙◌, subst}
use mathlib.Core.Bool.{Bool, true, false, not, cond, true≢false}
use Prim.Native.Nat.{ℕ, zero, suc, ◌+◌, ◌-◌, ◌^◌, ◌≤◌, ◌<◌}
use native.Mathlib.Omega.{arith}
use lib.Dec.{T, ltb, ltb→lt, nltb→le}
use lib.IntN.{ℤ, pos, negsuc, neg_ℤ, nat_abs, ◌+ℤ◌, ◌-ℤ◌, sub_ℕ, +ℤ_assoc, +ℤ_comm, neg_ℤ-+ℤ}
use lib.Signed.{mag, non_neg, lt_z, pos-nat_abs}
use mir.Syntax.{w64}
use mir.Val.{Fits, SFits, to_z, of_z}
use mir.ValLaws.{to_z-of_z}
use borrow.Author.Tests.{ltb-true}

-- ---- differences of two natural numbers

pub difference_is : (a b : ℕ) → pos a -ℤ pos b ≡ sub_ℕ a b
difference_is a zero = go (ltb a 0) (ltb→lt a 0)
  where
    same : a + 0 ≡ a - 0
    same = omega arith

    go : (t : Bool) → (T t → a < 0) → pos (a + 0) ≡ cond t (negsuc (0 - suc a)) (pos (a - 0))
    go true h = absurd (omega (arith, h tt))
    go false h = ap pos same
difference_is a (suc b) = refl

-- a - b and c - d are one number where a + d and c + b are
pub same_difference : (a b c d : ℕ) → a + d ≡ c + b → pos a -ℤ pos b ≡ pos c -ℤ pos d
same_difference a b c d e = difference_is a b ∙ go (ltb a b) (ltb c d) (ltb→lt a b) (nltb→le a b) (ltb→lt c d) (nltb→le c d) ∙ sym (difference_is c d)
  where
    go : (s t : Bool) → (T s → a < b) → (T (not s) → b ≤ a) → (T t → c < d) → (T (not t) → d ≤ c)
        → cond s (negsuc (b - suc a)) (pos (a - b)) ≡ cond t (negsuc (d - suc c)) (pos (c - d))
    go true true h i k l = let n : b - suc a ≡ d - suc c = omega (arith, h tt, k tt) in ap negsuc n
    go true false h i k l = absurd (omega (arith, h tt, l tt))
    go false true h i k l = absurd (omega (arith, i tt, k tt))
    go false false h i k l = let n : a - b ≡ c - d = omega (arith, i tt, l tt) in ap pos n

-- less n, and n more
pub difference_less : (a b n : ℕ) → pos a -ℤ pos b -ℤ pos n ≡ pos a -ℤ pos (b + n)
difference_less a b n = +ℤ_assoc (pos a) (neg_ℤ (pos b)) (neg_ℤ (pos n)) ∙ ap (λ (z : ℤ). pos a +ℤ z) (sym (neg_ℤ-+ℤ (pos b) (pos n)))

pub difference_more : (a b n : ℕ) → pos a -ℤ pos b +ℤ pos n ≡ pos (a + n) -ℤ pos b
difference_more a b n = +ℤ_assoc (pos a) (neg_ℤ (pos b)) (pos n) ∙ ap (λ (z : ℤ). pos a +ℤ z) (+ℤ_comm (neg_ℤ (pos b)) (pos n)) ∙ sym (+ℤ_assoc (pos a) (pos n) (neg_ℤ (pos b)))

-- ---- how large they get

difference_mag : (a b : ℕ) → mag (sub_ℕ a b) ≤ a + b
difference_mag a b = go (ltb a b)
  where
    go : (t : Bool) → mag (cond t (negsuc (b - suc a)) (pos (a - b))) ≤ a + b
    go true = omega arith
    go false = omega arith

pub more_mag : (z : ℤ) (n : ℕ) → mag (z +ℤ pos n) ≤ mag z + n
more_mag (pos a) n = omega arith
more_mag (negsuc a) n = go (ltb n (suc a))
  where
    go : (t : Bool) → mag (cond t (negsuc (suc a - suc n)) (pos (n - suc a))) ≤ a + n
    go true = omega arith
    go false = omega arith

pub less_mag : (z : ℤ) (n : ℕ) → mag (z -ℤ pos n) ≤ mag z + n
less_mag (pos a) n = subst (λ (z : ℤ). mag z ≤ a + n) (sym (difference_is a n)) (difference_mag a n)
less_mag (negsuc a) zero = omega (arith, more_mag (negsuc a) 0)
less_mag (negsuc a) (suc n) = omega arith

-- ---- the machine's bits

-- what a step works out is z, which fits
pub fits_as : {x z : ℤ} → x ≡ z → mag z < 2 ^ 63 → SFits w64 x
fits_as e h = subst (SFits w64) (sym e) (record { sfits = h })

-- so its bits are read back as z
pub kept_as : {x z : ℤ} → x ≡ z → mag z < 2 ^ 63 → to_z w64 (of_z w64 x) ≡ z
kept_as e h = to_z-of_z w64 _ (fits_as e h) ∙ e

-- and so are those of an argument or a call's result, which is known to fit
pub given_as : {x z : ℤ} → mag x < 2 ^ 63 → x ≡ z → to_z w64 (of_z w64 x) ≡ z
given_as h e = to_z-of_z w64 _ (record { sfits = h }) ∙ e

module _ (z : ℤ) (f : SFits w64 z) where
  abbrev read : ℤ
  read = to_z w64 (of_z w64 z)

  -- a number that a test found below 0
  pub negative : lt_z read (pos 0) ≡ true → (n : ℕ) × (n < 2 ^ 63) × (z ≡ negsuc n)
  negative h = go z f.sfits (ap (λ (k : ℤ). lt_z k (pos 0)) (sym (to_z-of_z w64 z f)) ∙ h)
    where
      go : (k : ℤ) → mag k < 2 ^ 63 → lt_z k (pos 0) ≡ true → (n : ℕ) × (n < 2 ^ 63) × (k ≡ negsuc n)
      go (pos n) l t = absurd (omega (arith, ltb-true n 0 t))
      go (negsuc n) l t = (n, l, refl)

  -- one that it found not to be below 0, cast to an unsigned number
  module _ (h : lt_z read (pos 0) ≡ false) where
    not_negative : T (non_neg read)
    not_negative = go read h
      where
        go : (k : ℤ) → lt_z k (pos 0) ≡ false → T (non_neg k)
        go (pos n) t = tt
        go (negsuc n) t = absurd (true≢false t)

    pub cast_is : pos (nat_abs read) ≡ z
    cast_is = pos-nat_abs read not_negative ∙ to_z-of_z w64 z f

    pub cast_fits : T (non_neg read) × Fits w64 (nat_abs read)
    cast_fits = (not_negative, record { fits = omega (arith, ap mag cast_is, f.sfits) })
