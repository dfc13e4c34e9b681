mod StepLemmas
mod LawLemmas
mod ListingLemmas
mod MakingLemmas
