pub mod Closed
pub mod Found
pub mod Leading
pub mod Lists
