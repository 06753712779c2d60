pub mod Rooms
pub mod ReplyView
