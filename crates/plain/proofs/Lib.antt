-- Laws of the plain session and its lists of calls; the second theorem of demand 3; what the definitions rule out.
pub mod Laws
pub mod Sizes
pub mod Refusals
pub mod Lists
pub mod TwoLists
pub mod Sanity
pub mod Cuts
