pub mod Events
pub mod Versions
pub mod ListedRound
pub mod Names
pub mod Rounds
pub mod RoundLists
pub mod Reading
pub mod Printed
