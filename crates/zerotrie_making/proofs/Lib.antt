pub mod OtherLemmas
mod ShownLemmas
mod MadeLemmas
mod PlaceLemmas
mod ListedLemmas
mod JsonLineLemmas
mod KeptLemmas
mod MergedLemmas
mod SmallLemmas
mod FewLemmas
mod CombineLemmas
mod WholeLemmas
mod UnreadLemmas
mod RefusedLemmas
