-- Lemmas on the steps of a remote drop that take no frame.
pub mod RemoteCalls
pub mod RemoteEvidences
pub mod RemoteGoings
pub mod Sharings
