mod ArrayLemmas
mod BlockLemmas
pub mod CleanLemmas
mod Building
mod Filling
mod ItemLemmas
mod MeasureLemmas
mod Nodes
mod OrderLemmas
mod Overflow
mod Ranges
mod RefusalLemmas
mod Runs
mod Stacks
mod WindowLemmas
mod WriteLemmas
