pub mod InForce
pub mod AreSettings
pub mod Totals
pub mod Links
pub mod GroupLists
pub mod Producing
