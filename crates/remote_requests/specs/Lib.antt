-- What contracts of remote drops cite.
pub mod Remote
