-- What a trie is asked, by the words of a command, and how these are misused.
use Rattle.std.specs.Prelude.{◌≡◌, ◌≢◌, ◌⊎◌, ◌∷◌, [], ℕ, Bool, List, Option, Some, None, true, false, codes, eqb, unwrap_or}
use Rattle.std.specs.Borrow.{Bor}
use Rattle.std.specs.List.{starts_with}
use Rattle.std.specs.Option.{option_map}
use Rattle.clap.specs.declared.parser.matches.ArgMatches.{ArgMatches}
use Rattle.zerotrie_queries.specs.code.Names.{is_name}
use Rattle.zerotrie_queries.specs.code.Texts.{usual_name}
use Rattle.zerotrie_queries.specs.declared.code.Language.{Language}
use Rattle.zerotrie_queries.specs.declared.code.Language.TheVariants as lang
use Rattle.zerotrie_queries.specs.declared.question.Asked.TheVariants as asked
use Rattle.zerotrie_queries.specs.declared.question.Query.{Query}
use Rattle.zerotrie_queries.specs.declared.question.Spelling.TheVariants as spelling
use Rattle.zerotrie_queries.specs.declared.reports.ReportForm.{ReportForm}
use Rattle.zerotrie_queries.specs.declared.views.View.{View}
use Rattle.zerotrie_run.specs.declared.command.Command.{Command}
use Rattle.zerotrie_run.specs.declared.command.Command.TheVariants.{Ask}
use Rattle.zerotrie_run.specs.declared.command.Keys.{Keys}
use Rattle.zerotrie_run.specs.declared.command.Question.{Question}
use Rattle.zerotrie_run.specs.declared.command.Question.TheVariants as question
use Rattle.zerotrie_run.specs.declared.command.TrieFile.{TrieFile}
use Rattle.zerotrie_words.specs.Options.{AreCodeOptions, AreListOptions, AreSearchOptions, IsGiven, text_of}
use Rattle.zerotrie_words.specs.Refusals.{HasNoNumber, IsNoBorder, IsNoKind, IsUnknown}
use Rattle.zerotrie_words.specs.Searches.{IsList, IsListMisuse, IsSearch, IsSearchMisuse}
use Rattle.zerotrie_words.specs.Words.{AreKeysOf, HasNoHyphen, IsFile, IsFree, IsGet, IsLongest, IsReportForm, IsSpelling, IsView, files_of, flag_of, is_alone, language_word, name_told, word_of}
use Rattle.zerotrie_words.specs.declared.misuse.Misuse.{Misuse}
use Rattle.zerotrie_words.specs.declared.misuse.Misuse.TheVariants as misuse
use Rattle.zerotrie_words.specs.declared.options.CodeOptions.{CodeOptions}
use Rattle.zerotrie_words.specs.declared.options.ListOptions.{ListOptions}
use Rattle.zerotrie_words.specs.declared.options.SearchOptions.{SearchOptions}
use Rattle.zerotrie_words.specs.declared.task.Topic.{Topic}
use Rattle.zerotrie_words.specs.declared.task.Topic.TheVariants as topic

-- there are no keys, or a hyphen is among others
abbrev pub AreKeysMisused : Option (List (List ℕ)) → Misuse → Type 0
AreKeysMisused None why = why ≡ misuse.NoKeys
AreKeysMisused (Some texts) why = (HasNoHyphen texts → ⊥) × (texts ≢ codes "-" ∷ []) × (why ≡ misuse.HyphenAmongKeys)

-- the words do not say what is asked of texts: that of `--at` is not one byte
abbrev pub IsLongestMisuse : ArgMatches → Misuse → Type 0
IsLongestMisuse matches why = IsNoBorder (word_of matches (codes "at")) × (why ≡ misuse.NoBorder)

-- the words are no view: a limit is no number, or is for a dump, or the view is neither
abbrev pub IsViewMisuse : (view limit : Option (List ℕ)) → Misuse → Type 0
IsViewMisuse view limit why = IsUnknown (HasNoNumber 64 limit) why
    ⊎ (((view ≡ Some (codes "dump")) × (limit ≢ None) × (why ≡ misuse.LimitOfDump))
    ⊎ IsUnknown ((view ≢ Some (codes "dump")) × (view ≢ Some (codes "dot"))) why)

-- a word is no language, or one that has no reader to put in front
abbrev pub IsLanguageMisuse : CodeOptions → Misuse → Type 0
IsLanguageMisuse o why = IsUnknown (text_of o.lang ≡ None) why
    ⊎ (((language : Language) → text_of o.lang ≡ Some (language_word language) → is_alone language ≢ o.alone)
    × (((o.alone ≡ true) × (why ≡ misuse.AloneIsC)) ⊎ ((o.alone ≡ false) × (why ≡ misuse.UnknownWord))))

-- the name of what is made
abbrev pub name_of : CodeOptions → Language → List ℕ
name_of o language = unwrap_or (text_of o.name) (usual_name language)

-- The code that is written.
pub record IsCode (o : CodeOptions) (language : Language) (name : List ℕ) : Type 0 where
  pub lang : text_of o.lang ≡ Some (language_word language)
  pub alone : is_alone language ≡ o.alone
  pub called : name ≡ name_of o language
  pub word : is_name name ≡ true
  pub free : IsFree language name

-- a name is taken
abbrev pub IsTaken : Language → List ℕ → Misuse → Type 0
IsTaken lang.Rust name why = why ≡ misuse.NameIsKeyword
IsTaken lang.C name why = (starts_with eqb name (codes "zerotrie") ≡ true) × (why ≡ misuse.NameOfHeader)
IsTaken lang.CAlone name why = (starts_with eqb name (codes "zerotrie") ≡ true) × (why ≡ misuse.NameOfHeader)
IsTaken lang.Rattle name why = why ≡ misuse.NameIsKeyword
IsTaken lang.JavaScript name why = why ≡ misuse.NameIsKeyword

-- the options are no code: no language, or a name that is none or is taken
abbrev pub IsCodeMisuse : CodeOptions → Misuse → Type 0
IsCodeMisuse o why = IsLanguageMisuse o why ⊎ ((language : Language) × (text_of o.lang ≡ Some (language_word language))
    × (((is_name (name_of o language) ≡ false) × (why ≡ misuse.BadName)) ⊎ IsTaken language (name_of o language) why))

-- what the trie of the file with this number is asked, by the words of a command
abbrev pub IsQuestion : ArgMatches → Topic → ℕ → Option (List (List ℕ)) → Question → Type 0
IsQuestion matches topic.Get n texts q = (query : Query) × (of : Keys) × IsGet (flag_of matches (codes "keys")) query.asked × IsSpelling (flag_of matches (codes "escaped")) query.spelling
    × AreKeysOf texts of × (q ≡ question.LookUp query of)
IsQuestion matches topic.Longest n texts q = (query : Query) × (of : Keys) × IsLongest matches query.asked × IsSpelling (flag_of matches (codes "escaped")) query.spelling
    × AreKeysOf texts of × (q ≡ question.LookUp query of)
IsQuestion matches topic.Reverse n texts q = (of : Keys) × AreKeysOf texts of × (q ≡ question.LookUp (record { asked = asked.KeyOf; spelling = spelling.Plain }) of)
IsQuestion matches topic.List n texts q = (o : ListOptions) × (sorted : Bool) × AreListOptions matches o × IsGiven matches (codes "sorted") sorted × IsList sorted o q
IsQuestion matches topic.Search n texts q = (o : SearchOptions) × AreSearchOptions matches o × IsSearch o q
IsQuestion matches topic.Verify n texts q = q ≡ question.Verify
IsQuestion matches topic.Stats n texts q = (form : ReportForm) × (name : Option (Bor (List ℕ))) × IsReportForm (word_of matches (codes "format")) form × (option_map (λ w. w.now) name ≡ name_told (files_of matches) n)
    × (q ≡ question.Report form name)
IsQuestion matches topic.Inspect n texts q = (view : View) × IsView (word_of matches (codes "VIEW")) (word_of matches (codes "limit")) view × (q ≡ question.View view)
IsQuestion matches topic.Code n texts q = (o : CodeOptions) × AreCodeOptions matches o × ((language : Language) × (name : Bor (List ℕ)) × IsCode o language name.now × (q ≡ question.Code language name))

-- the words of a topic are no question
abbrev pub IsQuestionMisuse : ArgMatches → Topic → Option (List (List ℕ)) → Misuse → Type 0
IsQuestionMisuse matches topic.Get texts why = AreKeysMisused texts why
IsQuestionMisuse matches topic.Longest texts why = IsLongestMisuse matches why ⊎ AreKeysMisused texts why
IsQuestionMisuse matches topic.Reverse texts why = AreKeysMisused texts why
IsQuestionMisuse matches topic.List texts why = (o : ListOptions) × AreListOptions matches o × IsListMisuse o why
IsQuestionMisuse matches topic.Search texts why = (o : SearchOptions) × AreSearchOptions matches o × IsSearchMisuse o why
IsQuestionMisuse matches topic.Verify texts why = ⊥
IsQuestionMisuse matches topic.Stats texts why = ⊥
IsQuestionMisuse matches topic.Inspect texts why = IsViewMisuse (word_of matches (codes "VIEW")) (word_of matches (codes "limit")) why
IsQuestionMisuse matches topic.Code texts why = (o : CodeOptions) × AreCodeOptions matches o × IsCodeMisuse o why

-- the command that asks it of the file with this number
abbrev pub IsAsk : ArgMatches → Topic → ℕ → Option (List (List ℕ)) → Command → Type 0
IsAsk matches about n texts command = (file : TrieFile) × (q : Question) × IsFile matches about n file × IsQuestion matches about n texts q × (command ≡ Ask file q)

abbrev pub IsAskMisuse : ArgMatches → Topic → Option (List (List ℕ)) → Misuse → Type 0
IsAskMisuse matches about texts why = IsUnknown (IsNoKind (word_of matches (codes "bare-kind"))) why ⊎ IsQuestionMisuse matches about texts why
