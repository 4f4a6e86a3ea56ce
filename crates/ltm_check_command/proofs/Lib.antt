pub mod Exact
mod Said
