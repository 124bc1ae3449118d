-- What a side gives to a round's openings.
pub mod Check
pub mod Opening
pub mod Work
pub mod Theorems
