pub mod Positions
pub mod Layout
pub mod Short
pub mod Enhanced
pub mod LayoutLaw
pub mod ShortLaw
pub mod EnhancedLaw
