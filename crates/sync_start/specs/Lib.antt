-- One evaluation of the start search (01-scope.md, "Start search"). Definitions only.
pub mod Evaluate
