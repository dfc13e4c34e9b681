-- Words of the private functions of `answer_all`.
pub mod Parsing
pub mod Tries
pub mod Sessions
