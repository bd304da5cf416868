-- What the callees of a session's steps require of the places that they are lent.
-- Assumes nothing.
use mathlib.Core.Path.{◌≡◌, refl, sym, ◌∙◌, ap}
use mathlib.Core.Bool.{Bool, true, cond, not}
use mathlib.Core.List.{List}
use Prim.Native.Nat.{ℕ, ◌+◌, ◌-◌, ◌*◌, ◌/◌, ◌%◌, ◌≤◌, ◌<◌, ◌^◌}
use native.Mathlib.Omega.{arith}
use lib.ListN.{length, take}
use lib.Seq.{paste, take-paste, take_all, length-take-le}
use lib.Dec.{eqb, ltb}
use lib.Ieee.{Float}
use borrow.Author.Tests.{eqb-true, ltb-false, not-false}
use Rattle.std.specs.Prelude.{Ok}
use Rattle.limits.specs.declared.Refusal.TheVariants as why
use Rattle.modespec.specs.ModeSpec.{spec_of}
use Rattle.modespec.specs.Sizes.{window_probes}
use Rattle.modespec.specs.Sizes.{robot}
use Rattle.plain.specs.Plain.{window_of, picture_of}
use Rattle.plain.specs.declared.Phase.TheVariants.{Searching}
use Rattle.plain.specs.Calls.{open_refusal, short_samples}
use Rattle.session.specs.Hold.{setup, kept_at, OpenMeets}
use Rattle.limits.proofs.Causes.{none}
use Rattle.plain.proofs.Refusals.{and-false}

-- ---- an evaluation

pub evaluate_room : (m t w : ℕ) (st : List ℕ) → w ≡ window_of m → w ≤ t → (t - w) % 64 ≡ 0 → t ≤ length st
    → 64 * ((t - w) / 64) + window_probes (spec_of m) ≤ length (take t st)
unfolding window_of
evaluate_room m t w st hw in_time rest fits =
    let whole : 64 * ((t - w) / 64) ≡ t - w = omega arith in
    let size : length (take t st) ≡ t = length-take-le t st fits in
    omega arith

-- ---- open

pub record OpenRoom (mode anchor capacity samples : ℕ) (first : List Float) : Type 0 where
  pub mode_small : mode ≤ 15
  pub anchor_small : anchor ≤ 2 ^ 62
  pub picture : window_of mode + picture_of mode ≤ capacity
  pub small : capacity ≤ 16777216
  pub wide : robot mode ≡ true → 4 * capacity + 4 ≤ samples
  pub four : length first ≡ 4

pub open_room : (mode anchor capacity samples : ℕ) (first : List Float) → open_refusal (setup mode anchor capacity) samples first ≡ Ok tt
    → OpenRoom mode anchor capacity samples first
unfolding open_refusal
open_room mode anchor capacity samples first e =
    let a = none (ltb 15 mode) why.Mode _ e in
    let b = none (ltb (2 ^ 62) anchor) why.Anchor _ a.1 in
    let c = none (ltb capacity (window_of mode + picture_of mode)) why.Memory _ b.1 in
    let d = none (ltb 16777216 capacity) why.Memory _ c.1 in
    let f = none (short_samples mode capacity samples) why.Memory _ d.1 in
    let g = none (not (eqb (length first) 4)) why.Length _ f.1 in
    record {
      mode_small = ltb-false 15 mode a.0;
      anchor_small = ltb-false (2 ^ 62) anchor b.0;
      picture = ltb-false capacity (window_of mode + picture_of mode) c.0;
      small = ltb-false 16777216 capacity d.0;
      wide = λ r. ltb-false samples (4 * capacity + 4) (and-false (robot mode) (ltb samples (4 * capacity + 4)) f.0 r);
      four = eqb-true (length first) 4 (not-false (eqb (length first) 4) g.0);
    }

-- a fresh record and its stores stand for the plain session at its opening
pub open_done : (mode anchor : ℕ) (st : List ℕ) (sm first sm' : List Float) → open_refusal (setup mode anchor (length st)) (length sm) first ≡ Ok tt
    → sm' ≡ kept_at mode 0 first (length first) sm → length sm' ≡ length sm → 0 < window_of mode
    → OpenMeets mode anchor st sm first
    (Ok (record { mode = mode; anchor = anchor; capacity = length st; taken = 0; evaluations = 0; streak = 0; phase = Searching })) sm'
open_done mode anchor st sm first sm' allowed kept same some =
    let h = open_room mode anchor (length st) (length sm) first allowed in
    let four = h.four in
    let picture = h.picture in
    let small = h.small in
    let low = h.mode_small in
    let near = h.anchor_small in
    let four_kept : sm' ≡ kept_at mode 0 first 4 sm = kept ∙ ap (λ (n : ℕ). kept_at mode 0 first n sm) four in
    record {
      says = (
        allowed,
        four_kept,
        record {
          same = refl;
          known = λ r.
              let w = h.wide r in
              sym
              (ap (take 4) (four_kept ∙ ap (λ (b : Bool). cond b (paste sm 0 first 4) sm) r)
              ∙ take-paste sm 0 first 4 (omega arith) (omega arith)
              ∙ take_all 4 first (omega arith));
          whole = refl;
          wide = λ r. let w = h.wide r in omega arith;
          sane = record {
            mode = low;
            anchor = near;
            small = small;
            room = omega arith;
            evaluations = omega arith;
            streak = omega arith;
            near = omega arith;
            live = λ _. omega arith;
          };
        },
      );
    }
