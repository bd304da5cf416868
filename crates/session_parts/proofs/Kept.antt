-- Laws of the sample store: a piece written into it, and the samples known by it.
-- Assumes nothing.
use Rattle.std.proofs.Common.{◌≡◌, ℕ, ◌+◌, ◌*◌, ◌≤◌, Bool, true, false, cond, List, ◌++◌, length, take, drop, sym, refl, ap, ◌∙◌, ap₂, arith}
use lib.Seq.{paste, paste-zero, length-paste, take-paste, take-length}
use lib.Ieee.{Float}
use Rattle.modespec.specs.Sizes.{robot}
use Rattle.session_parts.specs.Stores.{kept_at}
use Rattle.session_parts.proofs.Lists.{paste_more}

-- the samples known after a piece are in the store, too
pub known_more : (m t n : ℕ) (sm ys known : List Float) → (robot m ≡ true → known ≡ take (4 * t + 4) sm)
    → (robot m ≡ true → 4 * t + 4 + length ys ≤ length sm) → length ys ≡ 4 * n
    → robot m ≡ true → known ++ ys ≡ take (4 * (t + n) + 4) (kept_at m (4 * t + 4) ys (length ys) sm)
known_more m t n sm ys known h wide size r =
    let w : 4 * t + 4 + length ys ≤ length sm = wide r in
    let place : 4 * (t + n) + 4 ≡ 4 * t + 4 + length ys = omega arith in
    let stored : kept_at m (4 * t + 4) ys (length ys) sm ≡ paste sm (4 * t + 4) ys (length ys) =
    ap (λ (b : Bool). cond b (paste sm (4 * t + 4) ys (length ys)) sm) r in
    sym
    (ap₂ (λ (i : ℕ) (l : List Float). take i l) place stored
    ∙ take-paste sm (4 * t + 4) ys (length ys) (omega arith) (omega arith)
    ∙ ap₂ (λ (a b : List Float). a ++ b) (sym (h r)) (take-length ys))

-- the store keeps its length
pub kept_length : (m at : ℕ) (sm ys : List Float) (n : ℕ) → (robot m ≡ true → at + n ≤ length sm) → n ≤ length ys
    → length (kept_at m at ys n sm) ≡ length sm
kept_length m at sm ys n wide le = go (robot m) refl
  where
    go : (b : Bool) → robot m ≡ b → length (cond b (paste sm at ys n) sm) ≡ length sm
    go true r = length-paste sm at ys n (wide r) le
    go false r = refl

-- nothing written
pub kept_none : (m at : ℕ) (sm ys : List Float) → sm ≡ kept_at m at ys 0 sm
kept_none m at sm ys = go (robot m)
  where
    go : (b : Bool) → sm ≡ cond b (paste sm at ys 0) sm
    go true = paste-zero sm at ys
    go false = refl

-- two pieces written one after the other
pub kept_more : (m t i n : ℕ) (sm ys p : List Float) → (robot m ≡ true → 4 * t + 4 + 4 * i + 4 * n ≤ length sm) → 4 * i + 4 * n ≤ length ys
    → p ≡ take (4 * n) (drop (4 * i) ys) → length p ≡ 4 * n
    → kept_at m (4 * (t + i) + 4) p (length p) (kept_at m (4 * t + 4) ys (4 * i) sm) ≡ kept_at m (4 * t + 4) ys (4 * (i + n)) sm
kept_more m t i n sm ys p wide le hp hn = go (robot m) refl
  where
    at : 4 * (t + i) + 4 ≡ 4 * t + 4 + 4 * i
    at = omega arith

    more : 4 * (i + n) ≡ 4 * i + 4 * n
    more = omega arith

    go : (b : Bool) → robot m ≡ b
        → cond b (paste (cond b (paste sm (4 * t + 4) ys (4 * i)) sm) (4 * (t + i) + 4) p (length p)) (cond b (paste sm (4 * t + 4) ys (4 * i)) sm)
        ≡ cond b (paste sm (4 * t + 4) ys (4 * (i + n))) sm
    go true r =
        ap (λ (k : ℕ). paste (paste sm (4 * t + 4) ys (4 * i)) k p (length p)) at
        ∙ paste_more sm ys (4 * t + 4) (4 * i) (4 * n) p (wide r) le hp hn
        ∙ ap (λ (k : ℕ). paste sm (4 * t + 4) ys k) (sym more)
    go false r = refl
