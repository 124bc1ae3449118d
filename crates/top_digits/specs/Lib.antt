-- The page of t(d).
pub mod Page
