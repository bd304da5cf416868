-- Laws of a window without a set flag: its blocks, and its counts. Assumes nothing.
use mathlib.Core.Path.{◌≡◌, refl, sym, subst, ◌∙◌}
use mathlib.Core.Bool.{Bool, true, false}
use mathlib.Core.List.{List, [], ◌∷◌, ◌++◌}
use Prim.Native.Nat.{ℕ, zero, suc}
use native.Mathlib.Omega.{arith}
use borrow.Author.Tests.{eq-eqb}
use denote.Ref.{Bor}
use denote.Param.Members.{Mut}
use lib.Ieee.{Float}
use lib.ListN.{length, get_or, replicate}
use Rattle.std.specs.Prelude.{Option, Some, None, MatchOption}
use Rattle.std.specs.Fn.{Called}
use Rattle.std.specs.Iterator.{YieldsThen}
use Rattle.std.specs.List.{FoldsTo}
use Rattle.limits.specs.Ranges.{all_at_most}
use Rattle.limits.proofs.AtMost.{at_most_append, at_most_each, at_most_end}
use Rattle.columns.specs.Columns.{probe_of}
use Rattle.window_fold.specs.Fold.{hit_by, hit_at, hits_to, lines_at, fold_to}
use Rattle.columns.proofs.Lists.{zero_list}

-- ---- the blocks of a window, each cut off the flags that are left

module _ {S F : Type 0} (steps : S → Option (Bor (List ℕ)) → S → Type 0) (left : S → List ℕ)
    (cut : (s : S) (x : Bor (List ℕ)) (t : S) → steps s (Some x) t → left s ≡ x.now ++ left t)
    (done : (s t : S) → steps s None t → length (left s) ≡ 0)
    {g : Mut F (Bor (List ℕ) × Unit {0}) Bool} (f : F)
    (tells : (x : Bor (List ℕ)) (b : Bool) (q : F) → Called g f (x, tt) b q → (q ≡ f) × (b ≡ all_at_most 0 x.now)) where
  -- the answer of `all`, by the blocks that it was asked for and the one that stopped it
  pub blocks_silent : (xs : List (Bor (List ℕ))) (s u : S) (o : Option (Bor (List ℕ))) (h j : F) (r : Bool) → h ≡ f → YieldsThen steps s xs o u
      → FoldsTo (λ p x q. Called g p (x, tt) true q) h xs j → MatchOption o (r ≡ true) (λ x. (r ≡ false) × ((k : F) × Called g j (x, tt) false k))
      → r ≡ all_at_most 0 (left s)
  blocks_silent [] s u None h j r e y p m =
      let d : length (left s) ≡ 0 = rw y.1 (done y.0 u y.2) in
      m ∙ at_most_end 0 (left s) 0 (omega arith)
  blocks_silent [] s u (Some x) h j r e y p m =
      let w : left s ≡ x.now ++ left u = rw y.1 (cut y.0 x u y.2) in
      let a = tells x false m.1.0 (subst (λ (q : F). Called g q (x, tt) false m.1.0) (sym p ∙ e) m.1.1) in
      m.0 ∙ rw (w, at_most_append, ← a.1)
  blocks_silent (x ∷ xs) s u o h j r e y p m =
      let a = tells x true p.0 (subst (λ (q : F). Called g q (x, tt) true p.0) e p.1) in
      rw (cut s x y.1.0 y.1.1, at_most_append, ← a.1) (blocks_silent xs y.1.0 u o p.0 j r a.0 (y.0, y.1.2, y.2) p.2 m)

-- ---- the counts

module _ (samples : Float) (window : List ℕ) (s : all_at_most 0 window ≡ true) where
  clear : (i : ℕ) → get_or window i 0 ≡ 0
  clear i = omega (arith, at_most_each 0 window s i)

  no_hit : (lines : Float) → hit_by samples window lines ≡ 0
  unfolding hit_by
  no_hit lines = rw (eq-eqb _ _ (clear (probe_of lines samples)))

  no_hits : (n x : ℕ) → hits_to samples window x n ≡ 0
  unfolding hits_to hit_at
  no_hits zero x = refl
  no_hits (suc n) x = omega (arith, no_hits n x, no_hit (lines_at n x))

  pub fold_silent : (n : ℕ) → replicate 700 0 ≡ fold_to samples window n
  unfolding fold_to
  fold_silent n = zero_list (λ x. hits_to samples window x n) (no_hits n) 700
