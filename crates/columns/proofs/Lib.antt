-- Laws of the lists that the folds fill.
pub mod Lists
