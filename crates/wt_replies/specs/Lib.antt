pub mod Indexes
pub mod Replies
pub mod Runs
pub mod Tables
pub mod Words
