pub mod LeastStarts
