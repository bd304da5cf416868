-- A literal of the source is the float of its bits, and a cast to a float the float of a whole number: what the proofs of functions with them unfold.
-- Declares nothing.
unfoldable pub use Rattle.std.specs.Float.Ieee.{of_bits, of_int}
