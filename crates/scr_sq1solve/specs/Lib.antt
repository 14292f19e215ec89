pub mod Counts
pub mod Walks
pub mod Minima
pub mod Totals
pub mod ShortScrambles
