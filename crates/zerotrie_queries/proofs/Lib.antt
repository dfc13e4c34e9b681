pub mod ChoiceLemmas
mod WriteLemmas
mod FoundLemmas
pub mod AnswerLemmas
pub mod NumberLemmas
mod JsonLemmas
mod PrintableLemmas
mod CodeLemmas
mod CountLemmas
mod TextLemmas
pub mod PartLemmas
mod LongestLemmas
mod FrontLemmas
mod LimitLemmas
pub mod RankLemmas
mod SortedLemmas
pub mod RecasedLemmas
mod DiffLemmas
mod NearLemmas
mod FoldLemmas
mod FewestLemmas
mod EditsLemmas
mod BeginsLemmas
mod KeptLemmas
mod WordLemmas
mod GivenLemmas
