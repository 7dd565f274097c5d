pub mod Noting
pub mod Next
pub mod Deleting
