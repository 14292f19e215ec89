pub mod CheckRows
