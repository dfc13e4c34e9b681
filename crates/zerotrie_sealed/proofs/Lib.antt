mod Remainders
mod Chunks
mod Table
mod Headers
mod Sums
mod InBlocks
mod Damage
mod IndexLaws
