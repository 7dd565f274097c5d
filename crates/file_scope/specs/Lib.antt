pub mod FileView
