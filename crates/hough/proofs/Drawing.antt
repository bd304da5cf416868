-- Laws of an image that is drawn row by row. Assumes nothing.
use mathlib.Core.Path.{◌≡◌, ap, ◌∙◌}
use mathlib.Core.List.{List}
use Prim.Native.Nat.{ℕ, ◌≤◌, ◌<◌, ◌+◌, ◌*◌}
use native.Mathlib.Omega.{arith}
use lib.ListN.{length, get_or, set, length-set}
use lib.Ieee.{Float, nan}
use lib.Seq.{get_or-set_same, get_or-set_other, drop-set-lt}
use borrow.Author.Count.{below_more}
use Rattle.columns.specs.Columns.{list_to, column_part}
use Rattle.columns.proofs.Lists.{get_d_list}
use Rattle.hough.specs.Pass.{seconds_at}
use Rattle.hough.specs.Steps.{seconds_by, RowDrawn, Drawn}

-- the seconds by the table are those of the definition
pub seconds_at_lem : (line : Float) (w x y : ℕ) (parts : List Float) → parts ≡ list_to (column_part w) 700 → x < 700 → seconds_by line (get_or parts x nan) y ≡ seconds_at line w x y
unfolding seconds_by seconds_at
seconds_at_lem line w x y parts t h = ap (λ (z : Float). seconds_by line z y) (rw t (get_d_list (column_part w) 700 x nan h))

pub row_more : (f : ℕ → ℕ) (y n : ℕ) (old new : List ℕ) (v : ℕ) → y < 630 → n < 700 → 441000 ≤ length old → RowDrawn f y n old new → v ≡ f n
    → RowDrawn f y (n + 1) old (set new (y * 700 + n) v)
row_more f y n old new v hy hn room r e =
    let l : length new ≡ length old = r.size in
    record {
      size = simp length-set l;
      row =
          below_more (λ (x : ℕ). get_or (set new (y * 700 + n) v) (y * 700 + x) 0 ≡ f x) n
          (λ x h. get_or-set_other new (y * 700 + n) (y * 700 + x) v 0 (λ q. omega arith) ∙ r.row x h)
          (get_or-set_same new (y * 700 + n) v 0 (omega arith) ∙ e);
      above = λ k h. get_or-set_other new (y * 700 + n) k v 0 (λ q. omega arith) ∙ r.above k h;
      behind = drop-set-lt 441000 new (y * 700 + n) v (omega arith) ∙ r.behind;
    }

pub drawn_more : (f : ℕ → ℕ → ℕ) (across y : ℕ) (old mid new : List ℕ) → across ≤ 700 → Drawn f across y old mid → RowDrawn (λ x. f x y) y across mid new → Drawn f across (y + 1) old new
drawn_more f across y old mid new n d r =
    record {
      size = r.size ∙ d.size;
      shows =
          record {
            room = let a : length new ≡ length mid = r.size in let b : 441000 ≤ length mid = d.shows.room in omega arith;
            pixel = λ x z h g.
                below_more (λ (z : ℕ). get_or new (z * 700 + x) 0 ≡ f x z) y
                (λ z g. r.above (z * 700 + x) (omega arith) ∙ d.shows.pixel x z h g)
                (r.row x h) z g;
          };
      behind = r.behind ∙ d.behind;
    }
