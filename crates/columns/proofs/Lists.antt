-- Laws of `list_to`, and of a list that is rewritten from the front. Assumes nothing.
use mathlib.Core.Path.{◌≡◌, refl, sym, ap, ◌∙◌, subst}
use mathlib.Core.Bool.{Bool, true, false, not}
use mathlib.Core.Logic.{◌⊎◌, inl, inr}
use mathlib.Core.List.{List, [], ◌∷◌, ◌++◌}
use Prim.Native.Nat.{ℕ, zero, suc, ◌+◌, ◌-◌, ◌≤◌, ◌<◌, zero-le}
use native.Mathlib.Numerals.{add-one}
use native.Mathlib.Omega.{arith}
use native.Mathlib.Nat.{not-suc-le-zero, eq-or-lt_of_le}
use lib.ListN.{length, get_or, take, drop, set, replicate, length-replicate, get_or-replicate, length-append, length-drop, length-set, get_or-append, get_or-eq_default}
use lib.Dec.{T, ltb, ltb→lt, nltb→le}
use lib.Seq.{ext_get_or, get_or_at, take-suc, take-suc-set, drop-set-lt, drop-cons, take_all}
use Rattle.std.specs.Array.{IsFromFnResult, IsFromFnResultFrom}
use denote.Param.Members.{Mut, Called}
use Rattle.columns.specs.Columns.{list_to}

-- the part of a list from a on, as the code takes it
pub tail_is : {A : Type 0} (l : List A) (a : ℕ) → take (length l - a) (drop a l) ≡ drop a l
tail_is l a = take_all (length l - a) (drop a l) (rw length-drop (omega arith))

module _ {A : Type 0} (f : ℕ → A) where
  pub length_list : (n : ℕ) → length (list_to f n) ≡ n
  unfolding list_to
  length_list zero = refl
  length_list (suc n) = length-append (list_to f n) (f n ∷ []) ∙ ap (λ (k : ℕ). k + 1) (length_list n) ∙ add-one n

  pub get_d_list : (n k : ℕ) (d : A) → k < n → get_or (list_to f n) k d ≡ f k
  unfolding list_to
  get_d_list zero k d h = absurd (not-suc-le-zero h)
  get_d_list (suc n) k d h = at (eq-or-lt_of_le h) (λ l. get_d_list n k d l)
    where
      at : (suc k ≡ suc n) ⊎ (suc k < suc n) → (k < n → get_or (list_to f n) k d ≡ f k) → get_or (list_to f n ++ (f n ∷ [])) k d ≡ f k
      at (inl e) r = let q : k ≡ n = omega arith in rw q (get_or_at (list_to f n) (f n) [] d n (length_list n))
      at (inr l) r =
          let s : k < length (list_to f n) = rw (length_list n) (omega arith) in
          get_or-append (list_to f n) (f n ∷ []) d k s ∙ r (omega arith)

  -- a list of n places that are f's
  pub is_list : (l : List A) (n : ℕ) (d : A) → length l ≡ n → ((k : ℕ) → k < n → get_or l k d ≡ f k) → l ≡ list_to f n
  is_list l n d e h =
      ext_get_or d l (list_to f n) (e ∙ sym (length_list n)) (λ k b. let i : k < n = rw e at b in h k i ∙ sym (get_d_list n k d i))

  -- a list whose first x places are f's, after the next one is written
  pub write_next : (l : List A) (x : ℕ) (v : A) → x < length l → take x l ≡ list_to f x → v ≡ f x → take (x + 1) (set l x v) ≡ list_to f (x + 1)
  unfolding list_to
  write_next l x v h e p =
      rw (add-one, p) (take-suc-set l x (f x) h ∙ ap (λ (m : List A). m ++ (f x ∷ [])) e)

  -- a list of n places, all of which are f's
  pub all_written : (l : List A) (n : ℕ) → length l ≡ n → take n l ≡ list_to f n → l ≡ list_to f n
  all_written l n h e = sym (take_all n l (omega arith)) ∙ e

-- what `from_fn` made by a closure that gives f's values and stays as it is
module _ {F B : Type 0} (g : Mut F (ℕ × Unit {0}) B) (made : F) (f : ℕ → B) (gives : (k : ℕ) (y : B) (next : F) → Called g made (k, tt) y next → (next ≡ made) × (y ≡ f k)) where
  each_is : (ys : List B) (i n : ℕ) (now : F) → now ≡ made → IsFromFnResultFrom g now ys i n → (d : B) (k : ℕ) → i ≤ k → k < i + n → get_or ys k d ≡ f k
  each_is ys i zero now e h d k l b = absurd (omega arith)
  each_is ys i (suc n) now e h d k l b =
      let r = gives i h.1 h.0 (subst (λ (p : F). Called g p (i, tt) h.1 h.0) e h.3) in
      at (eq-or-lt_of_le l) r.1 (λ a. each_is ys (i + 1) n h.0 r.0 h.4 d k (omega arith) (omega arith))
    where
      at : (i ≡ k) ⊎ (i < k) → h.1 ≡ f i → (i < k → get_or ys k d ≡ f k) → get_or ys k d ≡ f k
      at (inl s) q later = rw (← s) (h.2.1 d ∙ q)
      at (inr s) q later = later s

  pub from_fn_is : (ys : List B) (n : ℕ) (d : B) → IsFromFnResult g made ys n → ys ≡ list_to f n
  from_fn_is ys n d h = is_list f ys n d h.long (λ k l. each_is ys 0 n made refl h.each d k (omega arith) (omega arith))

-- of numbers that are at most m
pub list_below : (f : ℕ → ℕ) (n m : ℕ) → ((x : ℕ) → f x ≤ m) → (k : ℕ) → get_or (list_to f n) k 0 ≤ m
list_below f n m h k = go (ltb k n) (ltb→lt k n) (nltb→le k n)
  where
    go : (b : Bool) → (T b → k < n) → (T (not b) → n ≤ k) → get_or (list_to f n) k 0 ≤ m
    go true a c = rw (get_d_list f n k 0 (a tt)) (h k)
    go false a c = let e : length (list_to f n) ≤ k = rw (length_list f n) (c tt) in rw (get_or-eq_default (list_to f n) 0 e) zero-le

-- n zeros
pub zero_list : (f : ℕ → ℕ) → ((x : ℕ) → f x ≡ 0) → (n : ℕ) → replicate n 0 ≡ list_to f n
zero_list f z n =
    ext_get_or 0 (replicate n 0) (list_to f n) (length-replicate n 0 ∙ sym (length_list f n))
    (λ i h.
    let l : i < n = rw (length-replicate {A = ℕ} n 0) at h in
    get_or-replicate n i 0 0 l ∙ sym (get_d_list f n i 0 l ∙ z i))

-- l is `new` in its first x places, and `old` from there on
pub record Mixed {A : Type 0} (new old : List A) (x : ℕ) (l : List A) : Type 0 where
  pub front : take x l ≡ take x new
  pub back : drop x l ≡ drop x old
  pub size : length l ≡ length new

module _ {A : Type 0} (new old : List A) where
  pub mixed_none : length old ≡ length new → Mixed new old 0 old
  mixed_none e = record { front = refl; back = refl; size = e }

  -- what stands at the next place is still the old one
  pub mixed_at : (l : List A) (x : ℕ) (d : A) → length old ≡ length new → x < length new → Mixed new old x l → get_or l x d ≡ get_or old x d
  mixed_at l x d o h m =
      let a : x < length l = rw m.size h in
      let b : x < length old = rw o h in
      let e : get_or l x d ∷ drop (suc x) l ≡ get_or old x d ∷ drop (suc x) old = sym (drop-cons l x d a) ∙ m.back ∙ drop-cons old x d b in
      cc

  pub mixed_more : (l : List A) (x : ℕ) (v d : A) → length old ≡ length new → x < length new → Mixed new old x l → v ≡ get_or new x d
      → Mixed new old (x + 1) (set l x v)
  mixed_more l x v d o h m p =
      let a : x < length l = rw m.size h in
      let b : x < length old = rw o h in
      let e : get_or l x d ∷ drop (suc x) l ≡ get_or old x d ∷ drop (suc x) old = sym (drop-cons l x d a) ∙ m.back ∙ drop-cons old x d b in
      record {
        front = rw (add-one, p) (take-suc-set l x (get_or new x d) a ∙ ap (λ (k : List A). k ++ (get_or new x d ∷ [])) m.front ∙ sym (take-suc new x d h));
        back = rw add-one (drop-set-lt (suc x) l x v (omega arith) ∙ cc);
        size = length-set l x v ∙ m.size;
      }

  pub mixed_all : (l : List A) (x : ℕ) → length new ≤ x → Mixed new old x l → l ≡ new
  mixed_all l x h m = let a : length l ≤ x = rw m.size h in sym (take_all x l a) ∙ m.front ∙ take_all x new h
