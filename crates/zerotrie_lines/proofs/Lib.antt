mod NumberLemmas
mod TableLemmas
mod PlainLemmas
mod StopLemmas
mod EscapeLemmas
mod WrittenLemmas
pub mod SpellingLemmas
mod ItemLemmas
mod LineLemmas
mod BlockLemmas
mod BytesLemmas
mod EndLemmas
mod FaultLemmas
mod ReadLemmas
mod BackLemmas
mod RecordLemmas
