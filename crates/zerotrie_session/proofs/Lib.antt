pub mod NumberLemmas
pub mod LineLemmas
pub mod BadLineLemmas
pub mod SessionLemmas
pub mod HexLemmas
pub mod RunLemmas
pub mod CallLemmas
