pub mod Heap
pub mod Tree
