-- A literal of the source is the float of its bits, one of the definitions that of its number: what the proofs of functions with literals
-- unfold. Declares nothing.
unfoldable pub use Rattle.std.specs.Float.Ieee.{of_bits, of_int}
