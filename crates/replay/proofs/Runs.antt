-- Flags from one run more. Assumes nothing.
use Rattle.std.proofs.Common.{rules, ◌≡◌, ℕ, zero, suc, ◌+◌, ◌-◌, ◌%◌, ◌<◌, min, List, [], ◌∷◌, ◌++◌, length, take, replicate, get_or, refl, sym, ap, ◌∙◌, append_assoc, take-suc}
use native.Mathlib.Omega.{arith}
use Rattle.replay.specs.Flags.{flags_from, flags_within}

same_run : {A : Type 0} (m n : ℕ) (x : A) → m ≡ n → replicate m x ≡ replicate n x
same_run m n x h = ap (λ (k : ℕ). replicate k x) h

run_behind : (k : ℕ) (runs : List ℕ) (run : ℕ) → flags_from k (runs ++ run ∷ []) ≡ flags_from k runs ++ replicate run ((k + length runs) % 2)
unfolding flags_from
run_behind k [] run = search rules
run_behind k (first ∷ runs) run =
    ap (λ (l : List ℕ). replicate first (k % 2) ++ l) (run_behind (suc k) runs run)
    ∙ sym (append_assoc (replicate first (k % 2)) (flags_from (suc k) runs) (replicate run ((suc k + length runs) % 2)))
    ∙ ap (λ (n : ℕ). (replicate first (k % 2) ++ flags_from (suc k) runs) ++ replicate run (n % 2)) {x = suc k + length runs} {y = k + suc (length runs)} (omega arith)

taken_run : {A : Type 0} (n run : ℕ) (x : A) → take n (replicate run x) ≡ replicate (min n run) x
taken_run zero run x = same_run 0 (min 0 run) x (omega arith)
taken_run (suc n) zero x = same_run 0 (min (suc n) 0) x (omega arith)
taken_run (suc n) (suc run) x = ap (λ l. x ∷ l) (taken_run n run x) ∙ same_run (suc (min n run)) (min (suc n) (suc run)) x (omega arith)

-- what of a run has room behind a list
room : {A : Type 0} (most : ℕ) (l : List A) (run : ℕ) (x : A) → take most (l ++ replicate run x) ≡ take most l ++ replicate (min (most - length (take most l)) run) x
room zero l run x = same_run 0 (min (0 - 0) run) x (omega arith)
room (suc most) [] run x = taken_run (suc most) run x ∙ same_run (min (suc most) run) (min (suc most - 0) run) x (omega arith)
room (suc most) (y ∷ l) run x =
    ap (λ l. y ∷ l) (room most l run x)
    ∙ ap (λ r. y ∷ (take most l ++ r))
    (same_run (min (most - length (take most l)) run) (min (suc most - suc (length (take most l))) run) x (omega arith))

front : (k : ℕ) (runs : List ℕ) → k < length runs → k ≡ 0 + length (take k runs)
front k runs h = search rules

-- before the first run there are no flags
pub no_flags : (most : ℕ) → [] ≡ flags_within most []
unfolding flags_from
no_flags zero = refl
no_flags (suc most) = refl

one_more : (most : ℕ) (runs : List ℕ) (k run : ℕ) → k < length runs → run ≡ get_or runs k 0 →
    flags_within most (take k runs) ++ replicate (min (most - length (flags_within most (take k runs))) run) (k % 2) ≡ flags_within most (take (k + 1) runs)
one_more most runs k run h r =
    sym (room most (flags_from 0 (take k runs)) run (k % 2))
    ∙ ap (λ (n : ℕ). take most (flags_from 0 (take k runs) ++ replicate run (n % 2))) (front k runs h)
    ∙ ap (λ (l : List ℕ). take most l) (sym (run_behind 0 (take k runs) run))
    ∙ ap (λ (x : ℕ). flags_within most (take k runs ++ x ∷ [])) r
    ∙ ap (λ (l : List ℕ). flags_within most l) (sym (take-suc runs k 0 h))
    ∙ ap (λ (i : ℕ). flags_within most (take i runs)) {x = suc k} {y = k + 1} (omega arith)

pub flags_more : (most : ℕ) (runs : List ℕ) (k run n : ℕ) (flags : List ℕ) → k < length runs → run ≡ get_or runs k 0 → flags ≡ flags_within most (take k runs) →
    n ≡ length flags → flags ++ replicate (min (most - n) run) (k % 2) ≡ flags_within most (take (k + 1) runs)
flags_more most runs k run n flags h r p q =
    ap (λ (m : ℕ). flags ++ replicate (min (most - m) run) (k % 2)) q
    ∙ ap (λ (l : List ℕ). l ++ replicate (min (most - length l) run) (k % 2)) p ∙ one_more most runs k run h r
