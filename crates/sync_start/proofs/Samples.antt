-- Which samples an evaluation reads. Assumes nothing.
use Rattle.std.proofs.Common.{◌≡◌, ℕ, zero, suc, ◌+◌, ◌*◌, ◌<◌, ◌≤◌, Bool, true, false, cond, ◌⊎◌, List, [], ◌∷◌, ◌++◌, length, get_or, take, drop, pos, sym, refl, ◌∙◌, inl, inr, not-suc-le-zero, eq-or-lt_of_le, arith, length-drop, length-take-le, get_or-drop, get_or-take, ext_get_or, Option, Some, None}
use mathlib.Core.List.Memᴰ
use mathlib.Core.List.{Memᴰ}
use lib.Ieee.{Float, fin, to_unsigned}
use Rattle.modespec.specs.declared.ModeSpec.{ModeSpec}
use Rattle.modespec.specs.Sizes.{robot, window_lines}
use Rattle.columns.specs.Columns.{list_to}
use Rattle.line_parity.specs.Parity.{tone_at, tone_known, tone_of, vote_on, vote_to, odd_line, reads_to}
use Rattle.sync_start.specs.Evaluate.{line_start, located_by, reads_by}
use Rattle.line_parity.proofs.Tones.{known_end}

abbrev pub sample_of : List Float → ℕ → Float
sample_of s n = get_or s n (fin false 0 (pos 0))

-- ---- members of the list of reads

pub in_list : (f : ℕ → ℕ) (n i : ℕ) → i < n → Memᴰ (f i) (list_to f n)
unfolding list_to
in_list f zero i h = absurd (not-suc-le-zero h)
in_list f (suc n) i h = at (eq-or-lt_of_le h) (λ l. in_list f n i l)
  where
    at : (suc i ≡ suc n) ⊎ (suc i < suc n) → (i < n → Memᴰ (f i) (list_to f n)) → Memᴰ (f i) (list_to f n ++ (f n ∷ []))
    at (inl e) r = let q : i ≡ n = omega arith in rw q (Memᴰ.append_right (list_to f n) (Memᴰ.head refl))
    at (inr l) r = Memᴰ.append_left (f n ∷ []) (r (omega arith))

pub of_list : (f : ℕ → ℕ) (n m : ℕ) → Memᴰ m (list_to f n) → (i : ℕ) × (i < n) × (m ≡ f i)
unfolding list_to
of_list f zero m h = absurd (Memᴰ.not-nil h)
of_list f (suc n) m h = at (Memᴰ.append_cases (list_to f n) h) (λ k. of_list f n m k)
  where
    at : Memᴰ m (list_to f n) ⊎ Memᴰ m (f n ∷ []) → (Memᴰ m (list_to f n) → (i : ℕ) × (i < n) × (m ≡ f i)) → (i : ℕ) × (i < suc n) × (m ≡ f i)
    at (inl k) r = let t = r k in let b : t.0 < n = t.1 in (t.0, omega arith, t.2)
    at (inr k) r = (n, omega arith, Memᴰ.eq_of_singleton k)

-- ---- two lists of samples that agree where they are read

module _ (known : ℕ) (s t : List Float) (a : length s ≡ known) (b : length t ≡ known) where
  tone_same : (from : Float) → tone_known known from ≡ true → ((i : ℕ) → i < 49 → sample_of s (to_unsigned 64 from + i) ≡ sample_of t (to_unsigned 64 from + i))
      → tone_of s from ≡ tone_of t from
  unfolding tone_of
  tone_same from e h =
      let l : to_unsigned 64 from + 49 ≤ known = known_end known from e in
      let p : length (take 49 (drop (to_unsigned 64 from) s)) ≡ 49 = length-take-le 49 (drop (to_unsigned 64 from) s) (rw (length-drop, a) (omega arith)) in
      let q : length (take 49 (drop (to_unsigned 64 from) t)) ≡ 49 = length-take-le 49 (drop (to_unsigned 64 from) t) (rw (length-drop, b) (omega arith)) in
      ext_get_or (fin false 0 (pos 0)) (take 49 (drop (to_unsigned 64 from) s)) (take 49 (drop (to_unsigned 64 from) t)) (p ∙ sym q)
      (λ i r.
      let k : i < 49 = rw p at r in
      get_or-take 49 (drop (to_unsigned 64 from) s) i (fin false 0 (pos 0)) k
      ∙ get_or-drop (to_unsigned 64 from) s i (fin false 0 (pos 0))
      ∙ h i k
      ∙ sym (get_or-drop (to_unsigned 64 from) t i (fin false 0 (pos 0)))
      ∙ sym (get_or-take 49 (drop (to_unsigned 64 from) t) i (fin false 0 (pos 0)) k))

  module _ (spec : ModeSpec) (start : Float) where
    -- one line's vote, by whether its tone is known
    on_same : (k : ℕ) (t' : Bool) (v w : Float) → tone_known known (tone_at spec start k) ≡ t' → v ≡ w
        → (t' ≡ true → tone_of s (tone_at spec start k) ≡ tone_of t (tone_at spec start k)) → vote_on spec s start k v ≡ vote_on spec t start k w
    unfolding vote_on
    on_same k true v w e p h = rw (a, b, e, p, h refl)
    on_same k false v w e p h = rw (a, b, e, p)

    listed : (k : ℕ) → tone_known known (tone_at spec start k) ≡ true → (i : ℕ) → i < 49 → Memᴰ (to_unsigned 64 (tone_at spec start k) + i) (reads_to spec known start (suc k))
    unfolding reads_to
    listed k e i h = rw e (Memᴰ.append_right (reads_to spec known start k) (in_list (λ n. to_unsigned 64 (tone_at spec start k) + n) 49 i h))

    earlier : (k m : ℕ) → Memᴰ m (reads_to spec known start k) → Memᴰ m (reads_to spec known start (suc k))
    unfolding reads_to
    earlier k m h = Memᴰ.append_left _ h

    pub vote_same : (n : ℕ) → ((m : ℕ) → Memᴰ m (reads_to spec known start n) → sample_of s m ≡ sample_of t m) → vote_to spec s start n ≡ vote_to spec t start n
    unfolding vote_to
    vote_same zero h = refl
    vote_same (suc k) h =
        on_same k (tone_known known (tone_at spec start k)) (vote_to spec s start k) (vote_to spec t start k) refl
        (vote_same k (λ m r. h m (earlier k m r)))
        (λ e. tone_same (tone_at spec start k) e (λ i l. h (to_unsigned 64 (tone_at spec start k) + i) (listed k e i l)))

-- every number that is read is known
pub reads_below : (spec : ModeSpec) (known : ℕ) (start : Float) (n m : ℕ) → Memᴰ m (reads_to spec known start n) → m < known
unfolding reads_to
reads_below spec known start zero m h = absurd (Memᴰ.not-nil h)
reads_below spec known start (suc k) m h = at (Memᴰ.append_cases (reads_to spec known start k) h) (λ r. reads_below spec known start k m r)
  where
    tone : (b : Bool) → tone_known known (tone_at spec start k) ≡ b → Memᴰ m (cond b (list_to (λ i. to_unsigned 64 (tone_at spec start k) + i) 49) []) → m < known
    tone true e r =
        let t = of_list (λ i. to_unsigned 64 (tone_at spec start k) + i) 49 m r in
        let l : t.0 < 49 = t.1 in
        let v : m ≡ to_unsigned 64 (tone_at spec start k) + t.0 = t.2 in
        let z : to_unsigned 64 (tone_at spec start k) + 49 ≤ known = known_end known (tone_at spec start k) e in
        omega arith
    tone false e r = absurd (Memᴰ.not-nil r)

    at : Memᴰ m (reads_to spec known start k) ⊎ Memᴰ m (cond (tone_known known (tone_at spec start k)) (list_to (λ i. to_unsigned 64 (tone_at spec start k) + i) 49) [])
        → (Memᴰ m (reads_to spec known start k) → m < known) → m < known
    at (inl r) f = f r
    at (inr r) f = tone (tone_known known (tone_at spec start k)) refl r

-- ---- the start

module _ (mode : ℕ) (spec : ModeSpec) (first column windows : ℕ) where
  pub start_others : (l : Option ℕ) (s t : List Float) → robot mode ≡ false → located_by l mode spec first column windows s ≡ located_by l mode spec first column windows t
  unfolding odd_line
  start_others None s t e = refl
  start_others (Some y) s t e = rw e

  pub start_same : (l : Option ℕ) (flags : List ℕ) (s t : List Float) → length s ≡ 4 * (length flags + 1) → length t ≡ 4 * (length flags + 1)
      → ((m : ℕ) → Memᴰ m (reads_by l spec first flags column) → sample_of s m ≡ sample_of t m) → located_by l mode spec first column windows s ≡ located_by l mode spec first column windows t
  unfolding odd_line
  start_same None flags s t a b h = refl
  start_same (Some y) flags s t a b h = rw (vote_same (4 * (length flags + 1)) s t a b spec (line_start spec first column y) (window_lines spec) h)
