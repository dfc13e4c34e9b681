-- The rules that clap reads of arguments.
use Rattle.std.proofs.Common.{◌≡◌, ◌∙◌, ◌+◌, ◌<◌, ◌&&◌, ℕ, List, [], ◌∷◌, Bool, true, false, Option, Some, None, add-one, ap, ap₂, drop, drop-cons, get_or, length, map, refl, sym}
use Rattle.std.specs.Prelude.{not}
use Rattle.std.specs.Borrow.{Bor}
use Rattle.clap.specs.Simple.{App, new_app, new_rule, with_rule, with_subcommand}
use Rattle.clap.specs.Walk.{Rule, rule_of}
use Rattle.clap.specs.declared.builder.action.ArgAction.TheVariants.{Set}
use Rattle.clap.specs.declared.builder.arg.Arg.{Arg}
use Rattle.zerotrie_words.specs.Arguments.{app_by, as_named, as_option, left_out, option, rule_by, rule_left_out, with_parts, with_rows, with_rules}
use Rattle.zerotrie_words.specs.declared.arguments.Argument.{Argument}
use Rattle.zerotrie_words.specs.declared.arguments.Otherwise.{Otherwise}
use Rattle.zerotrie_words.specs.declared.arguments.Otherwise.TheVariants as otherwise
use Rattle.zerotrie_words.specs.declared.arguments.Subcommand.{Subcommand}

pub named_rule : (name : Bor (List ℕ)) (letter : Option ℕ) (a : Arg) → rule_of a ≡ new_rule name.now
    → rule_of (as_named name letter a) ≡ record (new_rule name.now) { long = Some name.now; short = letter }
named_rule name None a is = ap (λ (r : Rule). record r { long = Some name.now }) is
named_rule name (Some letter) a is = ap (λ (r : Rule). record r { long = Some name.now; short = Some letter }) is

pub rule_of_option : (name : Bor (List ℕ)) (letter : Option ℕ) (value : Bor (List ℕ)) (a : Arg) → rule_of a ≡ new_rule name.now
    → rule_of (as_option name letter value a) ≡ option name.now letter
rule_of_option name letter value a is = ap (λ (r : Rule). record r { action = Some Set; value_names = 1 }) (named_rule name letter a is)

pub left_out_rule : (o : Otherwise) (a : Arg) → rule_of (left_out o a) ≡ rule_left_out o (rule_of a)
left_out_rule otherwise.Refused a = refl
left_out_rule (otherwise.Is word) a = refl
left_out_rule otherwise.Nothing a = refl

-- no argument holds for the commands below its own, too
abbrev pub is_local : Arg → Bool
is_local a = a.global

pub named_local : (name : Bor (List ℕ)) (letter : Option ℕ) (a : Arg) → is_local (as_named name letter a) ≡ is_local a
named_local name None a = refl
named_local name (Some letter) a = refl

pub left_out_local : (o : Otherwise) (a : Arg) → is_local (left_out o a) ≡ is_local a
left_out_local otherwise.Refused a = refl
left_out_local (otherwise.Is word) a = refl
left_out_local otherwise.Nothing a = refl

-- a command with more rules is as plain as before, and of a plain command no argument holds below it
pub plain_rules : (app : App) (rules : List Rule) → (with_rules app rules).top.is_plain ≡ app.top.is_plain
plain_rules app [] = refl
plain_rules app (rule ∷ rules) = plain_rules (with_rule app rule) rules

pub plain_by : (app : App) (row : Subcommand) → app ≡ app_by row → app.top.is_plain ≡ true
plain_by app row is = ap (λ (a : App). a.top.is_plain) is ∙ plain_rules (new_app row.name.now) (map rule_by row.arguments.now)

pub plain_is_local : (a b globals rest : Bool) → (a && (b && (not globals && rest))) ≡ true → globals ≡ false
plain_is_local true true false rest is = refl
plain_is_local true true true rest is = absurd (cc)
plain_is_local true false globals rest is = absurd (cc)
plain_is_local false b globals rest is = absurd (cc)

-- one more argument of a row, row of a part, or part
pub one_argument_more : (app next whole : App) (rule : Rule) (items : List Argument) (i : ℕ) (d : Argument) → i < length items
    → with_rules app (map rule_by (drop i items)) ≡ whole → next ≡ with_rule app rule → rule ≡ rule_by (get_or items i d)
    → with_rules next (map rule_by (drop (i + 1) items)) ≡ whole
one_argument_more app next whole rule items i d within before is of =
    ap₂ (λ (a : App) (n : ℕ). with_rules a (map rule_by (drop n items))) (is ∙ ap (with_rule app) of) (add-one i)
    ∙ (sym (ap (λ (rest : List Argument). with_rules app (map rule_by rest)) (drop-cons items i d within)) ∙ before)

pub one_row_more : (app next of whole : App) (items : List Subcommand) (i : ℕ) (d : Subcommand) → i < length items
    → with_rows app (drop i items) ≡ whole → next ≡ with_subcommand app of.top → of ≡ app_by (get_or items i d)
    → with_rows next (drop (i + 1) items) ≡ whole
one_row_more app next of whole items i d within before is by =
    ap₂ (λ (a : App) (n : ℕ). with_rows a (drop n items)) (is ∙ ap (λ (b : App). with_subcommand app b.top) by) (add-one i)
    ∙ (sym (ap (with_rows app) (drop-cons items i d within)) ∙ before)

pub one_part_more : (app next whole : App) (items : List (Bor (List Subcommand))) (i : ℕ) (d : Bor (List Subcommand)) → i < length items
    → with_parts app (map (λ part. part.now) (drop i items)) ≡ whole → next ≡ with_rows app (get_or items i d).now
    → with_parts next (map (λ part. part.now) (drop (i + 1) items)) ≡ whole
one_part_more app next whole items i d within before is =
    ap₂ (λ (a : App) (n : ℕ). with_parts a (map (λ part. part.now) (drop n items))) is (add-one i)
    ∙ (sym (ap (λ (rest : List (Bor (List Subcommand))). with_parts app (map (λ part. part.now) rest)) (drop-cons items i d within)) ∙ before)
