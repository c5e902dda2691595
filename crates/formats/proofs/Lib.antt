pub mod Numbers
pub mod Layouts
pub mod ShortLaw
pub mod EnhancedLaw
