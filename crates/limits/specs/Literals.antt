-- A literal of the source is the float of its bits: what the proofs of functions with literals unfold. Declares nothing.
unfoldable pub use Rattle.std.specs.Float.Ieee.{of_bits, neg}
