-- Laws of the step, its outputs and the calls.
pub mod Steps
pub mod Order
pub mod Door
pub mod Laws
