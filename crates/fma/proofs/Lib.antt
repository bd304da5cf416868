-- What the proofs of several functions use.
mod Same
mod Sticky
mod Ends
mod Cutting
mod Limbs
mod Placing
mod Sums
mod Closing
mod Combining
mod Fusing
