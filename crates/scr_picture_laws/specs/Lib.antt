pub mod Pictured
pub mod FairPictures
