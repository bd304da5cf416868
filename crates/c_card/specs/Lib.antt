-- What a card and the answers of its calls are as the numbers of the C records. Definitions only.
pub mod Cards
