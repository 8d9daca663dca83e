pub mod Questions
pub mod Opening
pub mod Meetings
pub mod Walks
