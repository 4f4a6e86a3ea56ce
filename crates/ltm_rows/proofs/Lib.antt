pub mod RowPlaces
pub mod KeptPlaces
pub mod ClaimPlaces
pub mod PartRows
pub mod Startings
pub mod Unmarking
pub mod Begun
