-- Laws of the search for a first line. Assumes nothing.
use Rattle.std.proofs.Common.{◌≡◌, ℕ, zero, suc, ◌+◌, ◌-◌, ◌<◌, ◌≤◌, Bool, true, false, cond, ◌&&◌, ◌⊎◌, sym, refl, ◌∙◌, inl, inr, true≢false, not-suc-le-zero, eq-or-lt_of_le, Some, None, arith}
use Rattle.first_line.specs.Pulsed.{first_line, first_pair}

module _ (test : ℕ → Bool) where
  -- no line passes
  pub first_none : (y n : ℕ) → ((k : ℕ) → y ≤ k → k < y + n → test k ≡ false) → first_line test y n ≡ None
  unfolding first_line
  first_none y zero h = refl
  first_none y (suc n) h = rw (h y (omega arith) (omega arith)) (first_none (suc y) n (λ k l r. h k (omega arith) (omega arith)))

  -- line m passes, and none before it
  pub first_at : (y n m : ℕ) → y ≤ m → m < y + n → ((k : ℕ) → y ≤ k → k < m → test k ≡ false) → test m ≡ true → first_line test y n ≡ Some m
  unfolding first_line
  first_at y zero m l r h t = absurd (not-suc-le-zero (none l r))
    where
      none : y ≤ m → m < y + 0 → 1 ≤ 0
      none l r = omega arith
  first_at y (suc n) m l r h t = at (eq-or-lt_of_le l) (λ q. first_at (suc y) n m q (omega arith) (λ k a b. h k (omega arith) b) t)
    where
      at : (y ≡ m) ⊎ (y < m) → (suc y ≤ m → first_line test (suc y) n ≡ Some m) → cond (test y) (Some y) (first_line test (suc y) n) ≡ Some m
      at (inl e) rest = rw (e, t)
      at (inr q) rest = rw (h y (omega arith) q) (rest q)

-- What a scan for a pair knows before it looks at `line`: no pair ends before it, and `clean` says whether there is a line before it that is pulsed.
pub record Scanned (pulsed : ℕ → Bool) (clean : Bool) (line : ℕ) : Type 0 where
  pub none : (k : ℕ) → k + 1 < line → pulsed k && pulsed (k + 1) ≡ false
  pub last : (k : ℕ) → line ≡ k + 1 → clean ≡ pulsed k
  pub fresh : line ≡ 0 → clean ≡ false

module _ (pulsed : ℕ → Bool) where
  pub scanned_start : Scanned pulsed false 0
  scanned_start =
      record {
        none = λ k h. absurd (not-suc-le-zero h);
        last = λ k e. absurd (never k e);
        fresh = λ e. refl;
      }
    where
      never : (k : ℕ) → 0 ≡ k + 1 → ⊥
      never k e = omega arith

  module _ (clean : Bool) (line : ℕ) (s : Scanned pulsed clean line) where
    -- a pulsed line before `line` is a line
    pub scanned_behind : clean ≡ true → 1 ≤ line
    scanned_behind c = at line refl
      where
        at : (n : ℕ) → line ≡ n → 1 ≤ n
        at zero e = let z : true ≡ false = sym c ∙ s.fresh e in absurd (true≢false z)
        at (suc n) e = omega arith

    -- a pair that ends at `line` begins with the line before it
    pair_here : (k : ℕ) → k + 1 ≡ line → clean && pulsed line ≡ false → pulsed k && pulsed (k + 1) ≡ false
    pair_here k e p = rw (← s.last k (sym e), e) p

    pub scanned_next : (now : Bool) → now ≡ pulsed line → clean && now ≡ false → Scanned pulsed now (line + 1)
    scanned_next now e p =
        record {
          none = λ k h. at k (eq-or-lt_of_le (below k h));
          last = λ k q. rw (same k q) e;
          fresh = λ q. absurd (never q);
        }
      where
        below : (k : ℕ) → k + 1 < line + 1 → k + 1 ≤ line
        below k h = omega arith

        at : (k : ℕ) → (k + 1 ≡ line) ⊎ (k + 1 < line) → pulsed k && pulsed (k + 1) ≡ false
        at k (inl q) = pair_here k q (rw e at p)
        at k (inr q) = s.none k q

        same : (k : ℕ) → line + 1 ≡ k + 1 → k ≡ line
        same k q = omega arith

        never : line + 1 ≡ 0 → ⊥
        never q = omega arith

    pub scanned_missing : (lines : ℕ) → lines ≤ line → None ≡ first_pair pulsed lines
    unfolding first_pair
    scanned_missing lines h = sym (first_none (λ k. pulsed k && pulsed (k + 1)) 0 (lines - 1) (λ k l r. s.none k (omega arith)))

    pub scanned_found : (lines : ℕ) → line < lines → clean ≡ true → pulsed line ≡ true → Some (line - 1) ≡ first_pair pulsed lines
    unfolding first_pair
    scanned_found lines h c p =
        let some : 1 ≤ line = scanned_behind c in
        let q : line ≡ line - 1 + 1 = omega arith in
        let first : pulsed (line - 1) ≡ true = sym (s.last (line - 1) q) ∙ c in
        let second : pulsed (line - 1 + 1) ≡ true = rw (← q) p in
        sym
        (first_at (λ k. pulsed k && pulsed (k + 1)) 0 (lines - 1) (line - 1) (omega arith) (omega arith) (λ k l r. s.none k (omega arith)) (rw (first, second)))
