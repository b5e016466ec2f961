mod Reduction
mod Vectors
mod Steps
