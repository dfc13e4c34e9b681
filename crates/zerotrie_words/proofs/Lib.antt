mod Rules
mod SearchLemmas
mod ReadLemmas
mod PlaceLemmas
mod ProgramLemmas
