-- Answers of the goals that the check leaves.
use mathlib.Core.Path.{◌≡◌, sym, ap, ◌∙◌}
use mathlib.Core.List.{List}
use Prim.Native.Nat.{ℕ}
use native.Mathlib.Omega.{arith}
use lib.Ieee.{Float}
use Rattle.modespec.specs.declared.ModeSpec.{ModeSpec}
use Rattle.modespec.specs.Sizes.{line_width}
use Rattle.std.specs.Prelude.{None}
use Rattle.hough.specs.declared.Passes.{Passes}
use Rattle.hough.specs.Passes.{passes_from, passes_of}
use Rattle.hough.proofs.PassLaws.{kept_more, passes_none, ends_none, ends_ok, goes_on}
use Rattle.hough.proofs.slant_passes.Goals as goal

-- four passes from the start over lines of w columns, which end at r, are the definition's
answers : (flags : List ℕ) (spec : ModeSpec) (rate : Float) (w : ℕ) (r : Passes) → w ≡ line_width spec
    → passes_from 4 flags spec w (record { rate = rate; slant_deg = None }) ≡ r → r ≡ passes_of spec rate flags
unfolding passes_of
answers flags spec rate w r e h = sym h ∙ ap (λ (k : ℕ). passes_from 4 flags spec k (record { rate = rate; slant_deg = None })) e

pub returns-in_default : goal.returns-in_default
returns-in_default c =
    let p = c.hough_detect_slant in
    let a = c.args in
    let k = kept_more _ 1 _ _ a.img.now c.loop.img _ a.votes.now c.loop.votes _ c.loop.invariant.1 p.ensures in
    record {
      passes = answers a.flags.now a.spec a.rate _ c.loop.state c.line_width-w.ensures (c.loop.invariant.0 ∙ ends_none _ _ _ c.loop.counter _ _ (omega arith) p.ensures.slant c.in_default.is);
      img = k.img_done (omega arith);
      votes = k.votes_done (omega arith);
    }

pub returns-then-slant_ok : goal.returns-then-slant_ok
returns-then-slant_ok c =
    let p = c.hough_detect_slant in
    let a = c.args in
    let k = kept_more _ 1 _ _ a.img.now c.loop.img _ a.votes.now c.loop.votes _ c.loop.invariant.1 p.ensures in
    record {
      passes = answers a.flags.now a.spec a.rate _ c.adjust-state.result c.line_width-w.ensures (c.loop.invariant.0 ∙ ends_ok _ _ _ c.loop.counter _ _ _ _ _ (omega arith) p.ensures.slant c.in-Found.is c.adjust-state.ensures (sym c.slant_ok.ensures ∙ c.if-slant_ok.true));
      img = k.img_done (omega arith);
      votes = k.votes_done (omega arith);
    }

pub loop-preserved : goal.loop-preserved
loop-preserved c =
    let p = c.hough_detect_slant in
    let a = c.args in (
      c.loop.invariant.0 ∙ goes_on _ _ _ c.loop.counter _ _ _ _ _ (omega arith) p.ensures.slant c.in-Found.is c.adjust-state.ensures (sym c.slant_ok.ensures ∙ c.if-slant_ok.false),
      kept_more _ _ _ _ a.img.now c.loop.img _ a.votes.now c.loop.votes _ c.loop.invariant.1 p.ensures,
    )

pub returns : goal.returns
returns c =
    let a = c.args in
    let z : c.loop.counter ≡ 4 = omega arith in
    record {
      passes = answers a.flags.now a.spec a.rate _ c.loop.state c.line_width-w.ensures (c.loop.invariant.0 ∙ rw z (passes_none _ _ _ _));
      img = c.loop.invariant.1.img_done (omega arith);
      votes = c.loop.invariant.1.votes_done (omega arith);
    }
