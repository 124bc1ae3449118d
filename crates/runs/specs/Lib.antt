-- Records of lists of calls, demand 2, progress, and messages.
pub mod Records
pub mod Demands
pub mod Progress
pub mod Messages
pub mod Theorems
pub mod Honest
