pub mod Past
pub mod Waiting
pub mod Links
pub mod Origins
pub mod Lasts
