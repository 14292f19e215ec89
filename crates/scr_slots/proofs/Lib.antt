pub mod Listings
pub mod JudgedLaws
pub mod OneAnswer
pub mod EachEvent
pub mod FamilyLaws
pub mod BuildCauses
