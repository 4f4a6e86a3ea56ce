pub mod Thinned
pub mod NodeLists
