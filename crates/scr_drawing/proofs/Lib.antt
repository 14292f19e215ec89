pub mod Lines
pub mod Free
