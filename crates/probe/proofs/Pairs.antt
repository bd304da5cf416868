-- Laws of a window's pairs, whose real parts are written one by one, and of the samples that go into them. Assumes nothing.
use Rattle.std.proofs.Common.{◌≡◌, refl, ap, sym, ◌∙◌, List, [], ◌∷◌, ◌++◌, Bool, true, false, cond, ltb, ℕ, zero, suc, ◌+◌, ◌-◌, ◌*◌, ◌≤◌, ◌<◌, length, get_or, set, length-append, arith}
use lib.ListN.{replicate}
use lib.Ieee.{Float, nan, binary32, mul}
use borrow.Author.Tests.{lt-ltb, le-ltb}
use Rattle.std.proofs.lemmas.Bool.{ltb-true, ltb-false}
use Rattle.std.proofs.lemmas.List.{get_or_default, set-append_left, set-append_right, replicate-append-replicate}
use Rattle.dsp.specs.Spectrum.{hann, hann_bits}
use Rattle.probe.specs.Window.{nothing, sound_at, real_at, pairs_of, window_of}

-- ---- the samples

sixteen : length hann ≡ 16
unfolding hann hann_bits
sixteen = refl

module _ (sound : List Float) (centre i : ℕ) where
  pub sound_before : centre + i < 8 → nothing ≡ sound_at sound centre i
  unfolding sound_at
  sound_before h = rw (lt-ltb (centre + i) 8 h)

  pub sound_from : 8 ≤ centre + i → get_or sound (centre + i - 8) nothing ≡ sound_at sound centre i
  unfolding sound_at
  sound_from h = rw (le-ltb (centre + i) 8 h)

  pub real_in : (s : Float) (weights : List Float) → i < 16 → weights ≡ hann → s ≡ sound_at sound centre i → mul binary32 s (get_or weights i nan) ≡ real_at sound centre i
  unfolding real_at
  real_in s weights h w e = rw (lt-ltb i 16 h, w, e) (ap (mul binary32 (sound_at sound centre i)) (get_or_default hann i nan nothing (rw sixteen h)))

  real_beyond : cond (ltb i 16) (real_at sound centre i) nothing ≡ real_at sound centre i
  unfolding real_at
  real_beyond = go (ltb i 16)
    where
      go : (t : Bool) → cond t (cond t (mul binary32 (sound_at sound centre i) (get_or hann i nothing)) nothing) nothing
          ≡ cond t (mul binary32 (sound_at sound centre i) (get_or hann i nothing)) nothing
      go true = refl
      go false = refl

-- the real parts of the pairs before n, and 0 beyond them
abbrev pub real_to : List Float → ℕ → ℕ → ℕ → Float
real_to sound centre n k = cond (ltb k n) (real_at sound centre k) nothing

-- ---- the pairs

pairs_same : (f g : ℕ → Float) (n : ℕ) → ((k : ℕ) → k < n → f k ≡ g k) → pairs_of f n ≡ pairs_of g n
unfolding pairs_of
pairs_same f g zero h = refl
pairs_same f g (suc n) h =
    let a : pairs_of f n ≡ pairs_of g n = pairs_same f g n (λ k l. h k (omega arith)) in
    let b : f n ≡ g n = h n (omega arith) in
    rw (a, b)

length_pairs : (f : ℕ → Float) (n : ℕ) → length (pairs_of f n) ≡ 2 * n
unfolding pairs_of
length_pairs f zero = refl
length_pairs f (suc n) = length-append (pairs_of f n) (f n ∷ nothing ∷ []) ∙ omega (arith, length_pairs f n)

-- the real part of one pair written
pairs_set : (f g : ℕ → Float) (n i : ℕ) → i < n → ((k : ℕ) → (k ≡ i → ⊥) → f k ≡ g k) → set (pairs_of f n) (2 * i) (g i) ≡ pairs_of g n
unfolding pairs_of
pairs_set f g zero i l h = absurd (omega arith)
pairs_set f g (suc n) i l h = go (ltb i n) refl (λ b. pairs_set f g n i b h)
  where
    go : (t : Bool) → ltb i n ≡ t → (i < n → set (pairs_of f n) (2 * i) (g i) ≡ pairs_of g n)
        → set (pairs_of f n ++ (f n ∷ nothing ∷ [])) (2 * i) (g i) ≡ pairs_of g n ++ (g n ∷ nothing ∷ [])
    go true e r =
        let b : i < n = ltb-true i n e in
        let q : f n ≡ g n = h n (λ o. absurd (omega arith)) in
        set-append_left (pairs_of f n) (f n ∷ nothing ∷ []) (2 * i) (g i) (omega (arith, length_pairs f n)) ∙ rw (r b, q)
    go false e r =
        let b : i ≡ n = omega (arith, ltb-false i n e) in
        let z : 2 * i - 2 * n ≡ 0 = omega arith in
        let p : pairs_of f n ≡ pairs_of g n = pairs_same f g n (λ k o. h k (λ d. absurd (omega arith))) in
        let q : g i ≡ g n = ap g b in
        set-append_right (pairs_of f n) (f n ∷ nothing ∷ []) (2 * n) (2 * i) (g i) (length_pairs f n) (omega arith) ∙ rw (z, p, q)

pairs_zero : (n : ℕ) → replicate (2 * n) nothing ≡ pairs_of (λ k. nothing) n
unfolding pairs_of
pairs_zero zero = refl
pairs_zero (suc n) =
    let e : 2 * suc n ≡ 2 * n + 2 = omega arith in
    rw (e, ← pairs_zero n) (sym (replicate-append-replicate (2 * n) 2 nothing))

module _ (sound : List Float) (centre : ℕ) where
  pub pairs_none : (m : ℕ) → m ≡ 512 → replicate m nothing ≡ pairs_of (real_to sound centre 0) 256
  pairs_none m e = rw e (pairs_zero 256 ∙ pairs_same (λ k. nothing) (real_to sound centre 0) 256 (λ k l. sym (rw (le-ltb k 0 (omega arith)))))

  pub pairs_more : (i : ℕ) (x : Float) → i < 256 → x ≡ real_at sound centre i
      → set (pairs_of (real_to sound centre i) 256) (2 * i) x ≡ pairs_of (real_to sound centre (i + 1)) 256
  pairs_more i x h e = rw here (pairs_set (real_to sound centre i) (real_to sound centre (i + 1)) 256 i h others)
    where
      here : x ≡ real_to sound centre (i + 1) i
      here = e ∙ rw (lt-ltb i (i + 1) (omega arith))

      others : (k : ℕ) → (k ≡ i → ⊥) → real_to sound centre i k ≡ real_to sound centre (i + 1) k
      others k d = ap (λ (t : Bool). cond t (real_at sound centre k) nothing) (go (ltb k i) refl)
        where
          go : (t : Bool) → ltb k i ≡ t → ltb k i ≡ ltb k (i + 1)
          go true e = e ∙ sym (lt-ltb k (i + 1) (omega (arith, ltb-true k i e)))
          go false e = e ∙ sym (le-ltb k (i + 1) (omega (arith, ltb-false k i e, d)))

  pub pairs_all : (b : List Float) (i : ℕ) → i ≡ 16 → b ≡ pairs_of (real_to sound centre i) 256 → b ≡ window_of sound centre
  unfolding window_of
  pairs_all b i e h = h ∙ pairs_same _ _ 256 (λ k l. rw e (real_beyond sound centre k))
