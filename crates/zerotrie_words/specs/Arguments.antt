-- The arguments of a command line, as clap reads them.
use Rattle.std.specs.Prelude.{ℕ, List, ◌∷◌, [], Option, Some, None, true, codes, map}
use Rattle.std.specs.Borrow.{Bor}
use Rattle.clap.specs.Lexer.{usize_max}
use Rattle.clap.specs.Simple.{App, new_app, new_rule, new_shape, with_rule, with_subcommand}
use Rattle.clap.specs.Walk.{Rule}
use Rattle.clap.specs.declared.builder.action.ArgAction.TheVariants.{Set, Append, SetTrue}
use Rattle.clap.specs.declared.builder.arg.Arg.{Arg}
use Rattle.clap.specs.declared.builder.texts.Texts.TheVariants.{One}
use Rattle.clap.specs.declared.builder.value_parser.ValueParser.TheVariants.{Names, Unsigned}
use Rattle.zerotrie_words.specs.declared.arguments.Argument.{Argument}
use Rattle.zerotrie_words.specs.declared.arguments.Form.{Form}
use Rattle.zerotrie_words.specs.declared.arguments.Form.TheVariants as form
use Rattle.zerotrie_words.specs.declared.arguments.Otherwise.{Otherwise}
use Rattle.zerotrie_words.specs.declared.arguments.Otherwise.TheVariants as otherwise
use Rattle.zerotrie_words.specs.declared.arguments.Subcommand.{Subcommand}

-- an option with what holds if it is left out: it is required, has a default, or is not there
abbrev pub left_out : Otherwise → Arg → Arg
left_out otherwise.Refused option = record option { required = true }
left_out (otherwise.Is word) option = record option { default_vals = One word }
left_out otherwise.Nothing option = option

-- an option with its name and its letter
abbrev pub as_named : Bor (List ℕ) → Option ℕ → Arg → Arg
as_named name None option = record option { long = Some name }
as_named name (Some letter) option = record option { long = Some name; short = Some letter }

-- the same, with a word after its name
abbrev pub as_option : Bor (List ℕ) → Option ℕ → Bor (List ℕ) → Arg → Arg
as_option name letter value option = record (as_named name letter option) { action = Some Set; val_names = One value }

-- the rules of a word at its place, of words, of a flag, and of an option with a word
abbrev pub place : List ℕ → Rule
place name = record (new_rule name) { action = Some Set; required = true }

abbrev pub words : List ℕ → Rule
words name = record (new_rule name) { action = Some Append; required = true; range = Some (record { start_inclusive = 1; end_inclusive = usize_max }) }

abbrev pub flag : List ℕ → Option ℕ → Rule
flag name letter = record (new_rule name) { long = Some name; short = letter; action = Some SetTrue }

abbrev pub option : List ℕ → Option ℕ → Rule
option name letter = record (new_rule name) { long = Some name; short = letter; action = Some Set; value_names = 1 }

-- the same, if it takes only words of a list, or numbers up to this one
abbrev pub from_list : Bor (List (Bor (List ℕ))) → Rule → Rule
from_list list rule = record rule { parser = Some (Names list) }

abbrev pub numbers_to : ℕ → Rule → Rule
numbers_to most rule = record rule { parser = Some (Unsigned 0 most) }

-- the same, if it has to be there, or has a default
abbrev pub as_required : Rule → Rule
as_required rule = record rule { required = true }

abbrev pub as_default : List ℕ → Rule → Rule
as_default word rule = record rule { defaults = word ∷ [] }

-- the same, by what holds if it is left out
abbrev pub rule_left_out : Otherwise → Rule → Rule
rule_left_out otherwise.Refused rule = as_required rule
rule_left_out (otherwise.Is word) rule = as_default word.now rule
rule_left_out otherwise.Nothing rule = rule

-- the rule of an argument by its form
abbrev pub rule_of_form : List ℕ → Form → Rule
rule_of_form name form.Place = place name
rule_of_form name (form.Word list) = from_list list (place name)
rule_of_form name form.Words = words name
rule_of_form name (form.Flag letter) = flag name letter
rule_of_form name (form.Text value letter otherwise) = rule_left_out otherwise (option name letter)
rule_of_form name (form.Number value letter most) = numbers_to most (option name letter)
rule_of_form name (form.OneOf value letter list otherwise) = rule_left_out otherwise (from_list list (option name letter))

abbrev pub rule_by : Argument → Rule
rule_by argument = rule_of_form argument.name.now argument.form

-- a command with these rules, too
abbrev pub with_rules : App → List Rule → App
with_rules app [] = app
with_rules app (rule ∷ rules) = with_rules (with_rule app rule) rules

-- the command of a row
abbrev pub app_by : Subcommand → App
app_by row = with_rules (new_app row.name.now) (map rule_by row.arguments.now)

-- a program with the commands of these rows, too
abbrev pub with_rows : App → List Subcommand → App
with_rows app [] = app
with_rows app (row ∷ rows) = with_rows (with_subcommand app (app_by row).top) rows

abbrev pub with_parts : App → List (List Subcommand) → App
with_parts app [] = app
with_parts app (rows ∷ parts) = with_parts (with_rows app rows) parts

-- the program before it has commands: it has a version, and needs a command
abbrev pub bare_program : App
bare_program = record {
  top = record (new_shape (codes "zerotrie")) { has_version = true; subcommand_required = true; arg_required_else_help = true };
  subs = [];
}

-- the program by rows of commands, in parts
unfoldable pub program_by : List (List Subcommand) → App
program_by parts = with_parts bare_program parts
