pub mod SmallRows
