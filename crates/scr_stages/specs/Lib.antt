pub mod Stages
pub mod Tetrads
pub mod Numbers
pub mod Tables
pub mod Turned
pub mod SearchTables
