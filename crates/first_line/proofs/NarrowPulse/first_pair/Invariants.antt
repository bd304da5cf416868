-- `first_line::NarrowPulse::first_pair` meets its contract. The outer loop's invariant: no pair of pulsed lines ends before `line` (`Scanned`), and `before`
-- is the line before it, if it is pulsed. The inner loop's: `run` and `longest` are those of the flags passed. Assumes nothing.
use Rattle.std.proofs.Common.{◌≡◌, ℕ, ◌+◌, ◌-◌, ◌≤◌, List, Some}
use Rattle.std.specs.Option.{is_some}
use Rattle.first_line.specs.Pulsed.{pulsed_line, run_to, longest_to}
use Rattle.first_line.proofs.Lines.{Scanned}
use Rattle.first_line.proofs.NarrowPulse.first_pair.Given as goal

-- what is known before flag i of those from lo to the one before hi
pub record Looked (flags : List ℕ) (lo hi i run longest : ℕ) : Type 0 where
  pub at_most : i - lo ≤ hi - lo
  pub run_is : run ≡ run_to flags lo (i - lo)
  pub longest_is : longest ≡ longest_to flags lo (i - lo)

abbrev pub invariant-scan : goal.invariant-scan
invariant-scan l =
    (l.line ≤ l.lines) × ((y : ℕ) → l.before ≡ Some y → y + 1 ≡ l.line)
    × Scanned (pulsed_line l.self.line l.self.pulse l.self.flags.now l.self.a l.self.column) (is_some l.before) l.line

abbrev pub invariant-loop-i : goal.invariant-loop-i
invariant-loop-i l =
    let s = l.initial.i-iterator in
    let t = l.i-iterator in
    (s.start ≤ t.start) × (t.end ≡ s.end) × Looked l.self.flags.now s.start s.end t.start l.run l.longest

abbrev pub decreases-scan : goal.decreases-scan
decreases-scan l = l.lines - l.line
