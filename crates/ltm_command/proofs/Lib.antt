mod Answering
pub mod MissingFile
pub mod Reading
pub mod Running
pub mod Told
