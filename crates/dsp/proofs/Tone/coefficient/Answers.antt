-- `dsp::Tone::coefficient` meets its contract. The constants' bits are the definitions'.
-- Assumes nothing.
use lib.Ieee.{of_bits}
use Rattle.dsp.specs.Goertzel.{coefficient1500, coefficient2300}
use Rattle.dsp.proofs.Tone.coefficient.Goals as goal

pub returns-in-Hz1500 : goal.returns-in-Hz1500
unfolding coefficient1500 of_bits
returns-in-Hz1500 c = rw c.in-Hz1500.is

pub returns-in-Hz2300 : goal.returns-in-Hz2300
unfolding coefficient2300 of_bits
returns-in-Hz2300 c = rw c.in-Hz2300.is
