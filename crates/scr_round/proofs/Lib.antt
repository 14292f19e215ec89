pub mod LineLaws
pub mod CleanLaws
