pub mod ListFaults
pub mod RoundRows
