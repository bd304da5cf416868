-- Laws of the runs of set flags. Assumes nothing.
use Rattle.std.proofs.Common.{◌≡◌, ℕ, zero, suc, ◌+◌, ◌-◌, ◌≤◌, max, Bool, true, false, cond, eqb, List, get_or, arith}
use Rattle.first_line.specs.Pulsed.{run_to, longest_to}
use Rattle.first_line.specs.Steps.{run_with}

with_most : (b : Bool) (r n : ℕ) → r ≤ n → cond b 0 (r + 1) ≤ suc n
with_most true r n h = omega arith
with_most false r n h = omega arith

module _ (flags : List ℕ) (lo : ℕ) where
  pub run_most : (n : ℕ) → run_to flags lo n ≤ n
  unfolding run_to
  run_most zero = omega arith
  run_most (suc n) = with_most (eqb (get_or flags (lo + n) 0) 0) (run_to flags lo n) n (run_most n)

  -- one flag more, where i is the n-th after lo
  pub run_next : (i : ℕ) → lo ≤ i → run_with (run_to flags lo (i - lo)) (get_or flags i 0) ≡ run_to flags lo (i + 1 - lo)
  unfolding run_to
  run_next i h =
      let e : i + 1 - lo ≡ suc (i - lo) = omega arith in
      let q : lo + (i - lo) ≡ i = omega arith in
      rw (e, q)

  pub longest_next : (i run longest : ℕ) → lo ≤ i → longest ≡ longest_to flags lo (i - lo) → run ≡ run_to flags lo (i + 1 - lo)
      → max longest run ≡ longest_to flags lo (i + 1 - lo)
  unfolding longest_to
  longest_next i run longest h p r =
      let e : i + 1 - lo ≡ suc (i - lo) = omega arith in
      rw (p, r, e)

  pub run_none : 0 ≡ run_to flags lo (lo - lo)
  unfolding run_to
  run_none = let e : lo - lo ≡ 0 = omega arith in rw e

  pub longest_none : 0 ≡ longest_to flags lo (lo - lo)
  unfolding longest_to
  longest_none = let e : lo - lo ≡ 0 = omega arith in rw e
