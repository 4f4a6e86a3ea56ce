pub mod Firsts
pub mod Produced
