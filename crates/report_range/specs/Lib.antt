-- What a session's report can hold (02-change-requests.md, A.1). Definitions only.
pub mod Report
