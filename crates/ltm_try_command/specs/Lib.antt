pub mod Trial
pub mod Repairs
pub mod Words
pub mod Laws
