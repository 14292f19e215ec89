pub mod Units
pub mod Shapes
pub mod Numbers
