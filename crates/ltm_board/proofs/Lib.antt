mod Lists
mod Cuts
mod Networks
mod Right
mod Seen
mod Posts
mod Rules
mod Rows
mod Leading
pub mod Crosses
