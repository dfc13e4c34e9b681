mod MergeLemmas
mod SliceLemmas
mod ChangeLemmas
mod RowLemmas
mod ManyLemmas
mod StepLemmas
mod SelectionLemmas
