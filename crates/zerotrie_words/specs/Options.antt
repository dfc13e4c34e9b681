-- The options of commands, by the words that clap found.
use Rattle.std.specs.Prelude.{◌≡◌, ℕ, List, Option, Bool, codes}
use Rattle.std.specs.Borrow.{Bor}
use Rattle.std.specs.Option.{option_map}
use Rattle.clap.specs.declared.parser.matches.ArgMatches.{ArgMatches}
use Rattle.zerotrie_words.specs.Words.{IsFlag, flag_of, word_of}
use Rattle.zerotrie_words.specs.declared.options.BuildOptions.{BuildOptions}
use Rattle.zerotrie_words.specs.declared.options.CodeOptions.{CodeOptions}
use Rattle.zerotrie_words.specs.declared.options.ListOptions.{ListOptions}
use Rattle.zerotrie_words.specs.declared.options.MakeOptions.{MakeOptions}
use Rattle.zerotrie_words.specs.declared.options.SearchOptions.{SearchOptions}

-- the text of a word, if it is there
abbrev pub text_of : Option (Bor (List ℕ)) → Option (List ℕ)
text_of word = option_map (λ w. w.now) word

-- the word of an argument is this
abbrev pub IsWord : ArgMatches → List ℕ → Option (Bor (List ℕ)) → Type 0
IsWord matches name word = text_of word ≡ word_of matches name

-- whether a flag is there is this
abbrev pub IsGiven : ArgMatches → List ℕ → Bool → Type 0
IsGiven matches name flag = IsFlag (flag_of matches name) flag

-- The options of what lists pairs.
pub record AreListOptions (matches : ArgMatches) (o : ListOptions) : Type 0 where
  pub prefix : IsWord matches (codes "prefix") o.prefix
  pub from : IsWord matches (codes "from") o.from
  pub below : IsWord matches (codes "below") o.below
  pub to : IsWord matches (codes "to") o.to
  pub format : IsWord matches (codes "format") o.format
  pub raw : IsGiven matches (codes "raw") o.raw
  pub top : IsWord matches (codes "top") o.top
  pub limit : IsWord matches (codes "limit") o.limit
  pub count : IsGiven matches (codes "count") o.count
  pub quiet : IsGiven matches (codes "quiet") o.quiet

-- Those of a search.
pub record AreSearchOptions (matches : ArgMatches) (o : SearchOptions) : Type 0 where
  pub glob : IsWord matches (codes "glob") o.glob
  pub fuzzy : IsWord matches (codes "fuzzy") o.fuzzy
  pub subsequence : IsWord matches (codes "subsequence") o.subsequence
  pub without : IsWord matches (codes "not") o.not
  pub edits : IsWord matches (codes "edits") o.edits
  pub no_transpose : IsGiven matches (codes "no-transpose") o.no_transpose
  pub bytes : IsGiven matches (codes "bytes") o.bytes
  pub beginnings : IsGiven matches (codes "beginnings") o.beginnings
  pub distance : IsGiven matches (codes "distance") o.distance
  pub list : AreListOptions matches o.list

-- Those of what makes a file.
pub record AreMakeOptions (matches : ArgMatches) (o : MakeOptions) : Type 0 where
  pub output : IsWord matches (codes "output") o.output
  pub no_clobber : IsGiven matches (codes "no-clobber") o.no_clobber
  pub kind : IsWord matches (codes "kind") o.kind
  pub tagged : IsGiven matches (codes "tagged") o.tagged
  pub bare : IsGiven matches (codes "bare") o.bare
  pub index : IsGiven matches (codes "index") o.index
  pub summary : IsGiven matches (codes "summary") o.summary
  pub quiet : IsGiven matches (codes "quiet") o.quiet

-- Those of a build.
pub record AreBuildOptions (matches : ArgMatches) (o : BuildOptions) : Type 0 where
  pub input : IsWord matches (codes "IN") o.input
  pub format : IsWord matches (codes "format") o.format
  pub raw : IsGiven matches (codes "raw") o.raw
  pub header : IsGiven matches (codes "header") o.header
  pub key : IsWord matches (codes "key") o.key
  pub value : IsWord matches (codes "value") o.value
  pub eol : IsWord matches (codes "eol") o.eol
  pub duplicates : IsWord matches (codes "duplicates") o.duplicates
  pub lower_case : IsGiven matches (codes "lower-case") o.lower_case
  pub sorted : IsGiven matches (codes "sorted") o.sorted
  pub make : AreMakeOptions matches o.make

-- Those of the code of a program.
pub record AreCodeOptions (matches : ArgMatches) (o : CodeOptions) : Type 0 where
  pub lang : IsWord matches (codes "lang") o.lang
  pub name : IsWord matches (codes "name") o.name
  pub alone : IsGiven matches (codes "alone") o.alone
