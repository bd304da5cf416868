-- Every rate that four passes reach from 11,025 Hz lies from 7,997 to 14,053, and the slant is none or one of the 240 angles. Assumes nothing.
use mathlib.Core.Path.{◌≡◌, refl, sym, ap, ◌∙◌, subst}
use mathlib.Core.Bool.{Bool, true, false, ◌&&◌}
use mathlib.Core.Logic.{◌⊎◌, inl, inr}
use mathlib.Core.List.{List, [], ◌∷◌}
use Prim.Native.Nat.{ℕ, zero, suc, ◌+◌, ◌-◌, ◌*◌, ◌/◌, ◌%◌, ◌^◌, ◌≤◌, ◌<◌}
use native.Mathlib.Nat.{le_trans, le_of_eq, le_refl, one-mul, mul-pos, mul-le-mul_right, le_of_suc-le-suc, not-suc-le-zero, eq-or-lt_of_le, mod-lt}
use native.Mathlib.Omega.{arith}
use lib.Dec.{T, leb, leb→le, lit<, lit≤}
use lib.IntN.{ℤ, negsuc}
use lib.ListN.{get_or}
use lib.Ieee.{Float, nan, inf, fin, binary64, up, down, round, neg, add, sub, mul, div, le, fits, of_int, of_bits}
use lib.Ieee.Fits.{down_pos, and_l, and_r, add-fits}
use lib.Ieee.Order.{round_mono}
use lib.Ieee.Positive.{num, den, positive}
use Rattle.std.specs.Prelude.{None, Some}
use Rattle.std.proofs.lemmas.Bool.{cond_both}
use Rattle.ieee.specs.Numbers.{of_nat}
use Rattle.ieee.proofs.Whole.{whole_value, whole_positive}
use Rattle.ieee.proofs.Unsigned.{unsigned, own_value, le→cross, bounded, div_at}
use Rattle.ieee.proofs.Magnitudes.{Under, is_under, under_tested}
use Rattle.ieee.proofs.Ranges.{In, wider, div_neg, mul_neg, add_in, sub_in, part_in}
use Rattle.modespec.specs.declared.ModeSpec.{ModeSpec}
use Rattle.modespec.specs.ModeSpec.{spec_of}
use Rattle.modespec.specs.Sizes.{working_rate, line_width}
use Rattle.modespec.proofs.Rows.{line_width_lem}
use Rattle.angles.specs.Angle.{tangent_table, tangent_bits}
use Rattle.hough.specs.declared.Passes.{Passes}
use Rattle.hough.specs.Pass.{pass_of, votes_of, winner_of, angle_of, rate_of, slant_by, slant_of}
use Rattle.hough.specs.Passes.{outside_deadband, slant_ok, adjusted, after_pass, passes_from, passes_of}
use Rattle.report_range.specs.Report.{Listed, none, angle}

-- ---- the table: each tangent is at most 2 in size

abbrev tangents_to : ℕ → Bool
tangents_to zero = true
tangents_to (suc n) = is_under 1 (get_or tangent_table n nan) && tangents_to n

tangents : T (tangents_to 240)
unfolding tangent_table tangent_bits of_bits
tangents = tt

tangent : (n q : ℕ) → T (tangents_to n) → q < n → Under 1 (get_or tangent_table q nan)
tangent zero q t h = absurd (not-suc-le-zero h)
tangent (suc n) q t h = at (eq-or-lt_of_le h) (λ l. tangent n q (and_r (is_under 1 (get_or tangent_table n nan)) (tangents_to n) t) l)
  where
    at : (suc q ≡ suc n) ⊎ (suc q < suc n) → (q < n → Under 1 (get_or tangent_table q nan)) → Under 1 (get_or tangent_table q nan)
    at (inl e) r = let d : q ≡ n = omega arith in rw d (under_tested 1 (get_or tangent_table n nan) (and_l (is_under 1 (get_or tangent_table n nan)) (tangents_to n) t))
    at (inr l) r = r (le_of_suc-le-suc l)

-- ---- tangent / W is at most 1/16, for W from 32 on

record Sixteenth (u : Float) : Type 0 where
  pub unsigned : T (unsigned u)
  pub most : num u * 16 ≤ den u

round_sixteenth : (a c : ℕ) → 0 < c → a * 16 ≤ 1 * c → Sixteenth (round binary64 false a c)
unfolding round
round_sixteenth a c C h =
    let x = round binary64 false a c in
    let y = fin false 1 (negsuc 3) in
    let xy : T (le x y) = round_mono binary64 a c 1 16 C (lit< tt) h in
    let p : T (unsigned x) = bounded binary64 a c x y refl tt xy in
    record { unsigned = p; most = le_trans (le→cross x y p tt xy) (le_of_eq (one-mul (den x))) }

module _ (w : ℕ) (k : 32 ≤ w) (l : w ≤ 65536) where
  small : w ≤ 2 ^ 53
  small = le_trans l (lit≤ tt)

  some : 0 < w
  some = le_trans (lit≤ tt) k

  width_positive : T (positive (of_nat w))
  width_positive = whole_positive w small some

  -- without its sign
  part : (m : ℕ) (e : ℤ) → m * up e ≤ 2 * down e → Sixteenth (div binary64 (fin false m e) (of_nat w))
  part m e h =
      subst Sixteenth (sym (div_at binary64 (fin false m e) (of_nat w) (m * up e) (down e) w 1 (down_pos e) (lit< tt) (own_value (fin false m e) tt) (whole_value w small) some))
      (round_sixteenth (m * up e * 1) (w * down e) (mul-pos some (down_pos e)) (le_trans (many (m * up e) (down e) h) (le_trans (mul-le-mul_right (down e) k) (le_of_eq (sym (one-mul (w * down e)))))))
    where
      many : (a d : ℕ) → a ≤ 2 * d → a * 1 * 16 ≤ 32 * d
      many a d h = omega arith

-- ---- a new rate

-- how far a pass moves a rate of at most b: b / 16, rounded up
abbrev pub reach : ℕ → ℕ
reach b = (b + 15) / 16

less : (a s : ℕ) → a - s ≤ a
less a s = omega arith

more : (b s : ℕ) → b ≤ b + s
more b s = omega arith

module _ (a b w : ℕ) (r : Float) (R : In a b r) (k : 32 ≤ w) (l : w ≤ 65536) (h : b + reach b ≤ 2 ^ 53) (g : reach b ≤ a) where
  room : reach b ≤ 2 ^ 53
  room = le_trans (go (reach b) b) h
    where
      go : (x b : ℕ) → x ≤ b + x
      go x b = omega arith

  reaches : (b : ℕ) → b ≤ 16 * reach b
  reaches b = omega arith

  moves : (u : Float) → Sixteenth u → In 0 (reach b) (mul binary64 u r)
  moves u s = part_in 16 a b (reach b) u r (lit< tt) s.unsigned s.most R (reaches b) room

  by_entry : (t : Float) → Under 1 t → In (a - reach b) (b + reach b) (add binary64 r (mul binary64 (div binary64 t (of_nat w)) r))
  unfolding sub
  by_entry nan p = absurd p
  by_entry (inf s) p = absurd p
  by_entry (fin false m e) p =
      let v = div binary64 (fin false m e) (of_nat w) in
      wider a (b + reach b) (a - reach b) (b + reach b) _ (less a (reach b)) (le_refl (b + reach b)) (add_in a b (reach b) r (mul binary64 v r) R (moves v (part w k l m e p)) h)
  by_entry (fin true m e) p =
      let u = part w k l m e p in
      let v = div binary64 (fin false m e) (of_nat w) in
      let e1 : mul binary64 (div binary64 (fin true m e) (of_nat w)) r ≡ neg (mul binary64 v r) =
      ap (λ (z : Float). mul binary64 z r) (div_neg m e (of_nat w) (width_positive w k l)) ∙ mul_neg v r u.unsigned R.unsigned in
      subst (λ (z : Float). In (a - reach b) (b + reach b) (add binary64 r z)) (sym e1)
      (wider (a - reach b) b (a - reach b) (b + reach b) _ (le_refl (a - reach b)) (more b (reach b)) (sub_in a b (reach b) r (mul binary64 v r) R (moves v u) h g))

  rate_in : (q : ℕ) → q < 240 → In (a - reach b) (b + reach b) (rate_of r w q)
  unfolding rate_of
  rate_in q j = by_entry (get_or tangent_table q nan) (tangent 240 q tangents j)

rate_fits : (r : Float) (w q : ℕ) → T (fits binary64 (rate_of r w q))
unfolding rate_of
rate_fits r w q = add-fits binary64 r _

-- ---- the passes

-- where n passes may lead from a to b, and whether each step is one that the laws above take
abbrev low_to : ℕ → ℕ → ℕ → ℕ
low_to zero a b = a
low_to (suc n) a b = low_to n (a - reach b) (b + reach b)

abbrev high_to : ℕ → ℕ → ℕ
high_to zero b = b
high_to (suc n) b = high_to n (b + reach b)

abbrev steps : ℕ → ℕ → ℕ → Bool
steps zero a b = true
steps (suc n) a b = leb (b + reach b) (2 ^ 53) && leb (reach b) a && steps n (a - reach b) (b + reach b)

pub record Reached (a b : ℕ) (t : Passes) : Type 0 where
  pub fits : T (fits binary64 t.rate)
  pub rate : In a b t.rate
  pub slant : Listed t.slant_deg

widen : (a b c d : ℕ) (t : Passes) → c ≤ a → b ≤ d → Reached a b t → Reached c d t
widen a b c d t p q r = record { fits = r.fits; rate = wider a b c d t.rate p q r.rate; slant = r.slant }

falling : (n a b : ℕ) → low_to n a b ≤ a
falling zero a b = le_refl a
falling (suc n) a b = le_trans (falling n (a - reach b) (b + reach b)) (less a (reach b))

rising : (n b : ℕ) → b ≤ high_to n b
rising zero b = le_refl b
rising (suc n) b = le_trans (more b (reach b)) (rising n (b + reach b))

module _ (w : ℕ) (k : 32 ≤ w) (l : w ≤ 65536) (flags : List ℕ) (spec : ModeSpec) where
  passes_in : (n a b : ℕ) → T (steps n a b) → (t : Passes) → Reached a b t → Reached (low_to n a b) (high_to n b) (passes_from n flags spec w t)
  unfolding passes_from slant_of
  passes_in zero a b ok t r = r
  passes_in (suc n) a b ok t r = after (λ t' m. passes_in n a' b' (and_r (leb b' (2 ^ 53) && leb (reach b) a) (steps n a' b') ok) t' m) (votes_of (pass_of flags t.rate spec w))
    where
      a' : ℕ
      a' = a - reach b

      b' : ℕ
      b' = b + reach b

      both : T (leb b' (2 ^ 53) && leb (reach b) a)
      both = and_l (leb b' (2 ^ 53) && leb (reach b) a) (steps n a' b') ok

      moved : (q : ℕ) → q < 240 → Reached a' b' (adjusted t (angle_of q) (rate_of t.rate w q))
      moved q j =
          cond_both (outside_deadband (angle_of q)) (rate_of t.rate w q) t.rate (λ x. Reached a' b' (record { rate = x; slant_deg = Some (angle_of q) }))
          (λ e. record {
            fits = rate_fits t.rate w q;
            rate = rate_in a b w t.rate r.rate k l (leb→le b' (2 ^ 53) (and_l (leb b' (2 ^ 53)) (leb (reach b) a) both)) (leb→le (reach b) a (and_r (leb b' (2 ^ 53)) (leb (reach b) a) both)) q j;
            slant = angle q j;
          })
          (λ e. record { fits = r.fits; rate = wider a b a' b' t.rate (less a (reach b)) (more b (reach b)) r.rate; slant = angle q j })

      -- a pass without votes ends the passes, and one with votes tells an angle of the list
      after : ((t' : Passes) → Reached a' b' t' → Reached (low_to n a' b') (high_to n b') (passes_from n flags spec w t'))
          → (vs : List ℕ) → Reached (low_to n a' b') (high_to n b') (after_pass (slant_by vs t.rate w) t (passes_from n flags spec w))
      after on [] = widen a b _ _ t (le_trans (falling n a' b') (less a (reach b))) (le_trans (more b (reach b)) (rising n b')) r
      after on (v ∷ vs) =
          let q = winner_of (v ∷ vs) % 240 in
          let t' = adjusted t (angle_of q) (rate_of t.rate w q) in
          let m : Reached a' b' t' = moved q (mod-lt (winner_of (v ∷ vs)) (lit< tt)) in
          cond_both (slant_ok (angle_of q)) t' (passes_from n flags spec w t') (Reached (low_to n a' b') (high_to n b'))
          (λ e. widen a' b' _ _ t' (falling n a' b') (rising n b') m) (λ e. on t' m)

-- from 11,025 Hz, in every mode
pub passes_reach : (mode : ℕ) (flags : List ℕ) → Reached 7997 14053 (passes_of (spec_of mode) working_rate flags)
unfolding passes_of of_int fits
passes_reach mode flags =
    let W = line_width_lem mode in
    passes_in (line_width (spec_of mode)) (le_trans (lit≤ tt) W.low) (le_trans W.high (lit≤ tt)) flags (spec_of mode) 4 11025 11025 tt
    (record { rate = working_rate; slant_deg = None })
    (record { fits = tt; rate = record { unsigned = tt; least = le_refl 11025; most = le_refl 11025 }; slant = none })
