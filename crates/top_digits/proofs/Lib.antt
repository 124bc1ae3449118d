-- Laws of the page: its lines put one behind another, and its length.
pub mod Pages
