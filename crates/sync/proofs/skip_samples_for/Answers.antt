-- `sync::skip_samples_for` meets its contract. Assumes nothing.
use mir.Syntax.{w64}
use mir.ValLaws.{to_z-of_z}
use mathlib.Core.Path.{ap, ◌∙◌}
use lib.Ieee.{Float, binary64, mul, to_signed}
use Rattle.ieee.specs.Casts.{round_away}
use Rattle.sync.specs.FindSync.{skip_of}
use Rattle.sync.proofs.skip_samples_for.Goals as goal

pub returns : goal.returns
unfolding skip_of
returns c =
    let r = c.args.rate in
    to_z-of_z w64 c.round_to_i64.result (record { sfits = c.round_to_i64.type_inv })
    ∙ c.round_to_i64.ensures ∙ ap (λ (t : Float). to_signed 63 (round_away binary64 (mul binary64 t r))) c.skip_seconds_for.ensures
