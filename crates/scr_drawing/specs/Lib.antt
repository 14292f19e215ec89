pub mod Legend
pub mod Told
pub mod Outlines
pub mod Styles
