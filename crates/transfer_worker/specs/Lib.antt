-- What contracts of a transfer's worker cite.
pub mod States
pub mod Workers
