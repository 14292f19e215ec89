pub mod FirstScrambles
pub mod SearchTables
pub mod NumberedPuzzles
pub mod LawfulPuzzles
pub mod StateParts
pub mod Puzzles
pub mod Tables
pub mod SolvedByTable
