-- `sync::aligned` meets its contract. Assumes nothing.
use mathlib.Core.Path.{◌∙◌}
use native.Mathlib.Nat.{le_trans}
use lib.Dec.{lit≤}
use mir.Syntax.{w64}
use mir.Val.{to_z, of_z}
use mir.ValLaws.{to_z-of_z}
use Rattle.sync.proofs.Whole.{zeros_at, edge_below, aligned_is}
use Rattle.sync.proofs.aligned.Goals as goal

pub fold-requires-clause-clear : goal.fold-requires-clause-clear
fold-requires-clause-clear c = zeros_at 700

pub skip_samples_for-requires : goal.skip_samples_for-requires
skip_samples_for-requires c = rw c.falling_edge.ensures (le_trans (edge_below _) (lit≤ tt))

pub returns : goal.returns
returns c =
    let a = c.args in
    let z = c.skip_samples_for.result in
    aligned_is a.flags.now a.spec a.passes c.fold.new.counts c.falling_edge.result c.radio_lines-radio_lines.result (to_z w64 (of_z w64 z)) c.quality.result
    c.fold.ensures c.falling_edge.ensures (to_z-of_z w64 z (record { sfits = c.skip_samples_for.type_inv }) ∙ c.skip_samples_for.ensures) c.radio_lines-radio_lines.ensures c.quality.ensures
