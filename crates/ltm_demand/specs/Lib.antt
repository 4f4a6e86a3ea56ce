pub mod Rows
pub mod Produced
pub mod Productions
pub mod Origins
pub mod Kept
pub mod Places
pub mod RowsLeft
pub mod Texts
