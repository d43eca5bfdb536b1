pub mod Boards
pub mod Shifts
pub mod Leads
pub mod Answers
pub mod Suggestions
pub mod Opening
pub mod Tokens
pub mod Ranges
