pub mod Counting
pub mod Accepted
pub mod CountedDraws
pub mod FirstHit
pub mod Fairness
pub mod Outcomes
pub mod Tried
pub mod RowLaws
