pub mod Single
pub mod Traces
pub mod Right
pub mod Orders
pub mod Replies
