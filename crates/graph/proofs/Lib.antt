mod Relaxing
mod Spreading
