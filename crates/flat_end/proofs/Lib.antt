pub mod LongOutlines
