pub mod PlaceLaws
pub mod Theorems
