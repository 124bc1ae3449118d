-- Laws of a line: its questions, what its run is handed, that the run gives the plain meaning, and the whole line.
pub mod Handed
pub mod Asked
pub mod Draws
pub mod Ends
pub mod Lines
pub mod Cut
