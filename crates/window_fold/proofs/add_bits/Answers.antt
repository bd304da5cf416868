-- Answers of the goals that the check leaves.
use mathlib.Core.Path.{◌≡◌, sym, ◌∙◌}
use mathlib.Core.List.{List}
use Prim.Native.Nat.{ℕ, ◌≤◌, ◌<◌, ◌+◌}
use native.Mathlib.Omega.{arith}
use borrow.Author.Rules.{rules}
use lib.ListN.{length, get_or, set}
use Rattle.window_fold.specs.Steps.{bit_at, added_to}
use Rattle.columns.proofs.Lists.{Mixed, mixed_none, mixed_at, mixed_more, mixed_all}
use Rattle.window_fold.proofs.Folding.{bit_small, added_length, added_at}
use Rattle.window_fold.proofs.add_bits.Goals as goal

module _ (window places old : List ℕ) (n : length old ≡ 700) where
  sizes : length old ≡ length (added_to window places old)
  sizes = n ∙ sym (added_length window places old)

  start : Mixed (added_to window places old) old 0 old
  start = mixed_none (added_to window places old) old sizes

  module _ (x : ℕ) (h : x < 700) (l : List ℕ) (m : Mixed (added_to window places old) old x l) where
    within : x < length (added_to window places old)
    within = rw (added_length window places old) h

    now_at : get_or l x 0 ≡ get_or old x 0
    now_at = mixed_at (added_to window places old) old l x 0 sizes within m

    counted : (v : ℕ) → v ≡ bit_at window (get_or places x 0) → Mixed (added_to window places old) old (x + 1) (set l x (get_or l x 0 + v))
    counted v e =
        mixed_more (added_to window places old) old l x (get_or l x 0 + v) 0 sizes within m
        (rw (now_at, e) (sym (added_at window places old x h)))

  done : (x : ℕ) (l : List ℕ) → 700 ≤ x → Mixed (added_to window places old) old x l → l ≡ added_to window places old
  done x l h m = mixed_all (added_to window places old) old l x (rw (added_length window places old) h) m

pub loop-x-init : goal.loop-x-init
loop-x-init c = let n : length c.args.counts.now ≡ 700 = search rules in start _ _ _ n

pub loop-x-preserved : goal.loop-x-preserved
loop-x-preserved c =
    let n : length c.args.counts.now ≡ 700 = search rules in
    counted c.args.window.now c.args.places.now c.args.counts.now n c.loop-x.x (omega arith) c.loop-x.counts c.loop-x.invariant _ c.bit_at.ensures

pub returns : goal.returns
returns c = let n : length c.args.counts.now ≡ 700 = search rules in done _ _ _ n c.loop-x.x _ (omega arith) c.loop-x.invariant

pub overflow_add-count : goal.overflow_add-count
overflow_add-count c =
    let n : length c.args.counts.now ≡ 700 = search rules in
    let e : get_or c.loop-x.counts c.loop-x.x 0 ≡ get_or c.args.counts.now c.loop-x.x 0 =
    now_at c.args.window.now c.args.places.now c.args.counts.now n c.loop-x.x (omega arith) c.loop-x.counts c.loop-x.invariant in
    let b : c.bit_at.result ≤ 1 = rw c.bit_at.ensures (bit_small _ _) in
    omega (arith, c.requires c.loop-x.x (omega arith))
