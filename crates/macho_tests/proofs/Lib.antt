pub mod Fitness
