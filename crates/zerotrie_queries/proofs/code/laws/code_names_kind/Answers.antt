use Rattle.std.proofs.Common.{◌≡◌, Some, decimal, refl, sym, arith}
use Rattle.std.proofs.lemmas.Fmt.{decimal_digit}
use Rattle.zerotrie_core.specs.Kind.{tag}
use Rattle.zerotrie_core.specs.Kinds.{kind_of}
use Rattle.zerotrie_core.specs.declared.TrieKind.{TrieKind}
use Rattle.zerotrie_core.specs.declared.TrieKind.TheVariants.{Simple, Ignore, Hash, Ext}
use Rattle.zerotrie_queries.specs.code.Texts.{c_kind, kind_number}
use Rattle.zerotrie_queries.specs.code.Laws.{number_at, header_kinds}
use Rattle.zerotrie_queries.proofs.code.laws.code_names_kind.Goals as goal

number_named : (kind : TrieKind) → (number_at header_kinds (c_kind kind) ≡ Some (tag (kind_of kind))) × (kind_number kind ≡ decimal (tag (kind_of kind)))
number_named Simple = (refl, sym (decimal_digit 0 (omega arith)))
number_named Ignore = (refl, sym (decimal_digit 8 (omega arith)))
number_named Hash = (refl, sym (decimal_digit 3 (omega arith)))
number_named Ext = (refl, sym (decimal_digit 7 (omega arith)))

pub returns : goal.returns
returns c = number_named
