-- `probe::decision::has_sync` meets its contract. The callees' values are put together.
-- Assumes nothing.
use lib.Ieee.{of_bits, of_int}
use Rattle.probe.proofs.Powers.{sync_is}
use Rattle.probe.proofs.decision.has_sync.Goals as goal

pub returns : goal.returns
unfolding of_bits of_int
returns c =
    sync_is _ _ c.low_bin.result c.high_bin.result c.sync_bin.result c.video_mean-p_raw.result c.sync_power-p_sync.result c.low_bin.ensures c.high_bin.ensures
    c.sync_bin.ensures
    c.video_mean-p_raw.ensures
    c.sync_power-p_sync.ensures
