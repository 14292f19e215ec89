pub mod Pages
pub mod Rules
