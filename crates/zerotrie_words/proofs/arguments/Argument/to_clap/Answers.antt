use Rattle.std.proofs.Common.{rules, ◌≡◌, ◌∙◌, Option, Some, ap, sym}
use Rattle.clap.specs.Simple.{new_rule}
use Rattle.clap.specs.Walk.{Rule, rule_of}
use Rattle.clap.specs.declared.builder.action.ArgAction.TheVariants.{SetTrue}
use Rattle.clap.specs.declared.builder.value_parser.ValueParser.{ValueParser}
use Rattle.clap.specs.declared.builder.value_parser.ValueParser.TheVariants.{Names, Unsigned}
use Rattle.zerotrie_words.specs.Arguments.{option, rule_left_out, rule_of_form}
use Rattle.zerotrie_words.specs.declared.arguments.Form.TheVariants as form
use Rattle.zerotrie_words.proofs.Rules.{is_local, left_out_local, left_out_rule, named_local, named_rule, rule_of_option}
use Rattle.zerotrie_words.proofs.arguments.Argument.to_clap.Goals as goal

pub returns-in-Flag-clause-rule : goal.returns-in-Flag-clause-rule
returns-in-Flag-clause-rule c =
    let arm : c.args.self.now.form ≡ form.Flag c.in-Flag.letter = search rules in
    let new : rule_of c.help-arg.result ≡ new_rule c.args.self.now.name.now = ap rule_of c.help-arg.ensures ∙ c.new.ensures.rule in
    let named = ap rule_of c.named.ensures ∙ named_rule c.args.self.now.name c.in-Flag.letter c.help-arg.result new in
    ap rule_of c.action-in-Flag.ensures ∙ (ap (λ (r : Rule). record r { action = Some SetTrue }) named ∙ ap (rule_of_form c.args.self.now.name.now) (sym arm))

pub returns-in-Text-clause-rule : goal.returns-in-Text-clause-rule
returns-in-Text-clause-rule c =
    let arm : c.args.self.now.form ≡ form.Text c.in-Text.value c.in-Text.letter c.in-Text.otherwise = search rules in
    let new : rule_of c.help-arg.result ≡ new_rule c.args.self.now.name.now = ap rule_of c.help-arg.ensures ∙ c.new.ensures.rule in
    let own = ap rule_of c.with_word.ensures ∙ rule_of_option c.args.self.now.name c.in-Text.letter c.in-Text.value c.help-arg.result new in
    ap rule_of c.or_otherwise.ensures ∙ (left_out_rule c.in-Text.otherwise c.with_word.result ∙ (ap (rule_left_out c.in-Text.otherwise) own ∙ ap (rule_of_form c.args.self.now.name.now) (sym arm)))

pub returns-in-Number-clause-rule : goal.returns-in-Number-clause-rule
returns-in-Number-clause-rule c =
    let arm : c.args.self.now.form ≡ form.Number c.in-Number.value c.in-Number.letter c.in-Number.most = search rules in
    let new : rule_of c.help-arg.result ≡ new_rule c.args.self.now.name.now = ap rule_of c.help-arg.ensures ∙ c.new.ensures.rule in
    let own = ap rule_of c.with_word-in-Number.ensures ∙ rule_of_option c.args.self.now.name c.in-Number.letter c.in-Number.value c.help-arg.result new in
    let parser : c.value_parser-in-Number.result.value_parser ≡ Some (Unsigned 0 c.in-Number.most) = search rules in
    ap rule_of c.value_parser-in-Number.ensures.others ∙ (ap (λ (r : Rule). record r { parser = c.value_parser-in-Number.result.value_parser }) own
    ∙ (ap (λ (p : Option ValueParser). record (option c.args.self.now.name.now c.in-Number.letter) { parser = p }) parser ∙ ap (rule_of_form c.args.self.now.name.now) (sym arm)))

pub returns-in-OneOf-clause-rule : goal.returns-in-OneOf-clause-rule
returns-in-OneOf-clause-rule c =
    let arm : c.args.self.now.form ≡ form.OneOf c.in-OneOf.value c.in-OneOf.letter c.in-OneOf.words c.in-OneOf.otherwise = search rules in
    let new : rule_of c.help-arg.result ≡ new_rule c.args.self.now.name.now = ap rule_of c.help-arg.ensures ∙ c.new.ensures.rule in
    let own = ap rule_of c.with_word-option.ensures ∙ rule_of_option c.args.self.now.name c.in-OneOf.letter c.in-OneOf.value c.help-arg.result new in
    let parser : c.value_parser-in-OneOf.result.value_parser ≡ Some (Names c.in-OneOf.words) = search rules in
    let listed = ap rule_of c.value_parser-in-OneOf.ensures.others ∙ (ap (λ (r : Rule). record r { parser = c.value_parser-in-OneOf.result.value_parser }) own
    ∙ ap (λ (p : Option ValueParser). record (option c.args.self.now.name.now c.in-OneOf.letter) { parser = p }) parser) in
    ap rule_of c.or_otherwise-in-OneOf.ensures ∙ (left_out_rule c.in-OneOf.otherwise c.value_parser-in-OneOf.result ∙ (ap (rule_left_out c.in-OneOf.otherwise) listed ∙ ap (rule_of_form c.args.self.now.name.now) (sym arm)))

pub returns-in-Flag-clause-local : goal.returns-in-Flag-clause-local
returns-in-Flag-clause-local c =
    let new = ap is_local c.help-arg.ensures ∙ c.new.ensures.optional.1 in
    ap is_local c.action-in-Flag.ensures ∙ (ap is_local c.named.ensures ∙ (named_local c.args.self.now.name c.in-Flag.letter c.help-arg.result ∙ new))

pub returns-in-Text-clause-local : goal.returns-in-Text-clause-local
returns-in-Text-clause-local c =
    let new = ap is_local c.help-arg.ensures ∙ c.new.ensures.optional.1 in
    let own = ap is_local c.with_word.ensures ∙ (named_local c.args.self.now.name c.in-Text.letter c.help-arg.result ∙ new) in
    ap is_local c.or_otherwise.ensures ∙ (left_out_local c.in-Text.otherwise c.with_word.result ∙ own)

pub returns-in-Number-clause-local : goal.returns-in-Number-clause-local
returns-in-Number-clause-local c =
    let new = ap is_local c.help-arg.ensures ∙ c.new.ensures.optional.1 in
    let own = ap is_local c.with_word-in-Number.ensures ∙ (named_local c.args.self.now.name c.in-Number.letter c.help-arg.result ∙ new) in
    ap is_local c.value_parser-in-Number.ensures.others ∙ own

pub returns-in-OneOf-clause-local : goal.returns-in-OneOf-clause-local
returns-in-OneOf-clause-local c =
    let new = ap is_local c.help-arg.ensures ∙ c.new.ensures.optional.1 in
    let own = ap is_local c.with_word-option.ensures ∙ (named_local c.args.self.now.name c.in-OneOf.letter c.help-arg.result ∙ new) in
    let listed = ap is_local c.value_parser-in-OneOf.ensures.others ∙ own in
    ap is_local c.or_otherwise-in-OneOf.ensures ∙ (left_out_local c.in-OneOf.otherwise c.value_parser-in-OneOf.result ∙ listed)
