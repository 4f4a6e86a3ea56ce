pub mod Rows
pub mod Table
pub mod Replaced
pub mod Entries
pub mod Weights
pub mod Latest
pub mod RowLists
pub mod Texts
