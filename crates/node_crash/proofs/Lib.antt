-- The lemmas of this crate, of which node_parts uses those of names, pairs and jobs.
pub mod Ends
pub mod Jobs
mod Closes
