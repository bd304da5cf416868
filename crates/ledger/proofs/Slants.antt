-- The slant index of an angle of the table is its number, and gives the angle back. Assumes nothing.
use mathlib.Core.Path.{◌≡◌, refl, ap, ◌∙◌}
use mathlib.Core.Bool.{Bool, true, false, cond, ◌&&◌}
use Prim.Native.Nat.{ℕ, zero, suc, ◌<◌}
use native.Mathlib.Omega.{arith}
use lib.Dec.{T, eqb, eqb→eq, lit<}
use lib.Ieee.{add, sub, mul, eq, of_int, to_unsigned}
use lib.Ieee.Fits.{and_l, and_r}
use borrow.Author.Tests.{eqb-true, eqb-false, ne_eqb, lt-leb}
use Rattle.ieee.specs.Numbers.{decimal}
use Rattle.std.specs.Prelude.{Float, Option, None, Some}
use Rattle.hough.specs.Pass.{angle_of}
use Rattle.report_range.specs.Report.{Listed, none, angle}
use Rattle.card.specs.Card.{between}
use Rattle.ledger.specs.Ledger.{slant_index}
use Rattle.ledger.specs.Entry.{card_slant}

-- the index of the angle of q is q
abbrev indexed : ℕ → Bool
indexed q = eqb (slant_index (Some (angle_of q))) q

abbrev all_below : (ℕ → Bool) → ℕ → Bool
all_below test zero = true
all_below test (suc n) = test n && all_below test n

at_below : (test : ℕ → Bool) (n : ℕ) → T (all_below test n) → (q : ℕ) → q < n → T (test q)
at_below test zero all q h = absurd (omega arith)
at_below test (suc n) all q h = go (λ l. at_below test n (and_r (test n) (all_below test n) all) q l) (eqb q n) refl
  where
    go : (q < n → T (test q)) → (b : Bool) → eqb q n ≡ b → T (test q)
    go below true e = rw (eqb-true q n e) (and_l (test n) (all_below test n) all)
    go below false e = let k : q ≡ n → ⊥ = eqb-false q n e in below (omega arith)

-- one test over the 240 angles
all_indexed : T (all_below indexed 240)
unfolding slant_index angle_of add sub mul eq of_int decimal to_unsigned
all_indexed = tt

pub index_of_angle : (q : ℕ) → q < 240 → slant_index (Some (angle_of q)) ≡ q
index_of_angle q h = eqb→eq (slant_index (Some (angle_of q))) q (at_below indexed 240 all_indexed q h)

-- ---- of a slant that a session can report

between_not : (q : ℕ) → q < 240 → between q ≡ false
unfolding between
between_not q h = rw (lt-leb 240 q h)

-- no card is refused for it
pub index_free : (s : Option Float) → Listed s → between (slant_index s) ≡ false
index_free None none = unfold slant_index between in refl
index_free (Some a) (angle q h) = ap between (index_of_angle q h) ∙ between_not q h

pub index_small : (s : Option Float) → Listed s → slant_index s < 256
index_small None none = unfold slant_index in (lit< tt)
index_small (Some a) (angle q h) = rw (index_of_angle q h) (omega arith)

pub slant_back : (s : Option Float) → Listed s → card_slant (slant_index s) ≡ s
slant_back None none = unfold slant_index in refl
slant_back (Some a) (angle q h) =
    let other : q ≡ 255 → ⊥ = λ e. omega arith in
    ap card_slant (index_of_angle q h) ∙ ap (λ (b : Bool). cond b None (Some (angle_of q))) (ne_eqb q 255 other)
