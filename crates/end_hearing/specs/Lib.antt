-- What contracts cite of what came at an end.
pub mod Pieces
pub mod Hearing
