-- Lemmas on local drops.
pub mod Finishings
pub mod Firsts
pub mod Goings
pub mod Judged
pub mod LocalCalls
pub mod Others
pub mod Owings
pub mod Removals
pub mod Stated
