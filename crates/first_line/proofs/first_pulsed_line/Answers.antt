-- `first_line::first_pulsed_line` meets its contract. Assumes nothing.
use Rattle.std.proofs.Common.{◌-◌}
use Rattle.columns.proofs.Lists.{tail_is}
use Rattle.first_line.proofs.Firsts.{wide_is, narrow_is}
use Rattle.first_line.proofs.first_pulsed_line.Goals as goal

pub returns-then-width-ge-WIDE_PULSE_COLUMNS : goal.returns-then-width-ge-WIDE_PULSE_COLUMNS
returns-then-width-ge-WIDE_PULSE_COLUMNS c = wide_is _ _ _ _ _ _ _ _ c.window_lines-lines.ensures _ c.if-width-ge-WIDE_PULSE_COLUMNS.true c.line_samples.ensures (tail_is c.args.flags.now c.args.first) c.first_line.ensures

pub returns-else-width-ge-WIDE_PULSE_COLUMNS : goal.returns-else-width-ge-WIDE_PULSE_COLUMNS
returns-else-width-ge-WIDE_PULSE_COLUMNS c =
    narrow_is _ _ _ _ _ _ _ _ c.window_lines-lines.ensures _ _ _ c.if-width-ge-WIDE_PULSE_COLUMNS.false c.min-a.ensures c.line_probes.ensures c.pulse_probes.ensures (tail_is c.args.flags.now (c.args.first - c.min-a.result)) c.first_pair.ensures
