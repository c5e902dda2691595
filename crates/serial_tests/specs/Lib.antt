pub mod Doublets
pub mod DoubletLaw
