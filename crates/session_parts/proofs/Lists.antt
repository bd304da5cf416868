-- Laws of lists: a piece written into a store, and a part of a piece.
-- Assumes nothing.
use Rattle.std.proofs.Common.{◌≡◌, ℕ, zero, suc, ◌+◌, ◌-◌, ◌<◌, ◌≤◌, List, [], ◌∷◌, ◌++◌, length, get_or, take, drop, set, sym, refl, ap, append_assoc, append-nil, le_of_suc-le-suc, not-suc-le-zero, add_assoc, add-one, arith, length-drop, drop_of_length-le, length-take, take_all, drop-drop, take-add}
use lib.Seq.{paste, take-paste, drop-paste, take-length}

module _ {A : Type 0} where
  copied : (z : A) (n : ℕ) (s d : List A) → n < length s → n < length d
      → set (take n s ++ drop n d) n (get_or s n z) ≡ take (suc n) s ++ drop (suc n) d
  copied z n [] d h l = absurd (not-suc-le-zero h)
  copied z n (y ∷ s) [] h l = absurd (not-suc-le-zero l)
  copied z zero (y ∷ s) (x ∷ d) h l = refl
  copied z (suc n) (y ∷ s) (x ∷ d) h l = ap (λ (t : List A). y ∷ t) (copied z n s d (le_of_suc-le-suc h) (le_of_suc-le-suc l))

  -- one more element written at the front of a tail
  pub more : (z : A) (w s d : List A) (i : ℕ) → i < length s → i < length d → w ≡ take i s ++ drop i d
      → set w i (get_or s i z) ≡ take (i + 1) s ++ drop (i + 1) d
  more z w s d i h l e = rw (e, add-one) (copied z i s d h l)

  -- the tail that was lent comes back with the piece at its front
  pub put_tail : (t : ℕ) (st p : List A) → t + length p ≤ length st
      → take t st ++ ((p ++ drop (length p) (take (length st - t) (drop t st))) ++ drop (length st - t) (drop t st)) ≡ paste st t p (length p)
  put_tail t st p h =
      rw (take_all (length st - t) (drop t st) (simp length-drop (omega arith)), drop_of_length-le (drop t st) {i = length st - t} (simp length-drop (omega arith)), append-nil, drop-drop (length p) t st, take-length)
      (sym (append_assoc (take t st) p (drop (t + length p) st)))

  -- two pieces written one after the other
  pub paste_more : (d fl : List A) (t i n : ℕ) (p : List A) → t + i + n ≤ length d → i + n ≤ length fl → p ≡ take n (drop i fl) → length p ≡ n
      → paste (paste d t fl i) (t + i) p (length p) ≡ paste d t fl (i + n)
  paste_more d fl t i n p hd hf hp hn =
      rw (hn, take-paste d t fl i (omega arith) (omega arith), ← drop-drop n (t + i) (paste d t fl i), drop-paste d t fl i (omega arith) (omega arith), drop-drop n (t + i) d, take_all n p (omega arith), take-add i n fl, ← hp, add_assoc t i n)
      (ap (λ (l : List A). l ++ drop (t + (i + n)) d) (append_assoc (take t d) (take i fl) p))

  -- the part of a piece from i on has n elements
  pub piece_length : (l : List A) (i n : ℕ) → i + n ≤ length l → length (take n (drop i l)) ≡ n
  piece_length l i n h = rw (length-take, length-drop) (omega arith)
