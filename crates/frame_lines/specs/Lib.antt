pub mod Names
pub mod Forms
pub mod Messages
pub mod Printed
pub mod FrameLines
