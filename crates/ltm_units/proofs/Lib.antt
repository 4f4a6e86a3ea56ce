pub mod Digits
pub mod BadBytes
pub mod Padding
pub mod Splits
pub mod Sums
pub mod Results
