pub mod Signs
pub mod Tables
