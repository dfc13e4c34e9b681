-- The words of a comparison.
use Rattle.std.specs.Prelude.{codes}
use Rattle.clap.specs.declared.parser.matches.ArgMatches.{ArgMatches}
use Rattle.zerotrie_run.specs.declared.command.Diff.{Diff}
use Rattle.zerotrie_words.specs.Words.{IsKind, IsSource, word_of}

-- The files that are compared, by the words: the old one first.
pub record IsDiff (matches : ArgMatches) (diff : Diff) : Type 0 where
  pub old : IsSource (word_of matches (codes "OLD")) diff.old
  pub new : IsSource (word_of matches (codes "NEW")) diff.new
  pub bare : IsKind (word_of matches (codes "bare-kind")) diff.bare
