pub mod Playing
pub mod Printing
