-- `sync::find_sync_in` meets its contract. Assumes nothing.
use mathlib.Core.Path.{◌≡◌, ap, ◌∙◌}
use Prim.Native.Nat.{ℕ, min}
use lib.ListN.{length, take}
use Rattle.modespec.specs.Sizes.{image_probes}
use Rattle.sync.specs.FindSync.{aligned_of}
use Rattle.sync.proofs.Whole.{take_least, sync_of}
use Rattle.sync.proofs.find_sync_in.Goals as goal

pub returns : goal.returns
returns c =
    let a = c.args in
    let k = a.flags.now in
    let e : take c.min-n.result k ≡ take (image_probes a.spec a.rate) k =
    ap (λ (m : ℕ). take m k) (c.min-n.ensures ∙ ap (λ (m : ℕ). min m (length k)) c.image_probes.ensures) ∙ take_least (image_probes a.spec a.rate) k in
    record {
      result = c.aligned.ensures ∙ ap (aligned_of (take c.min-n.result k) a.spec) c.slant_passes-passes.ensures.passes ∙ sync_of a.spec a.rate k (take c.min-n.result k) e;
      img = c.slant_passes-passes.ensures.img;
      votes = c.slant_passes-passes.ensures.votes;
    }
