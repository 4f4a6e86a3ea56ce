pub mod Sessions
pub mod Views
pub mod Editors
pub mod Ran
pub mod RanLaws
pub mod Headline
