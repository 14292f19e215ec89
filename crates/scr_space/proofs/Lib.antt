pub mod SpinLaws
