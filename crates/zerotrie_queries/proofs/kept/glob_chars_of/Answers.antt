use Rattle.std.proofs.Common.{rules, ◌≡◌, inl, refl}
use Rattle.std.specs.Str.{IsUtf8}
use Rattle.zerotrie_core.specs.Kinds.{kind_of}
use Rattle.zerotrie_search.specs.Automata.{ignores_case}
use Rattle.zerotrie_search.specs.declared.any.SearchBy.TheVariants as by
use Rattle.zerotrie_search.specs.declared.any.WordError.TheVariants.{Malformed}
use Rattle.zerotrie_queries.proofs.WordLemmas.{word_error, word_faultless}
use Rattle.zerotrie_queries.proofs.kept.glob_chars_of.Goals as goal

pub returns-in_default-from_utf8-clause-none : goal.returns-in_default-from_utf8-clause-none
returns-in_default-from_utf8-clause-none c =
    let none : IsUtf8 c.args.text.now → ⊥ = search rules in
    word_error by.GlobChars c.args.text.now Malformed (inl none)

pub returns-in-Ok-glob-clause-some : goal.returns-in-Ok-glob-clause-some
returns-in-Ok-glob-clause-some c =
    let glob = c.in-Ok-glob.glob in
    let pattern : glob.pattern.now ≡ c.args.text.now = search rules in
    let case : glob.any_case ≡ ignores_case (kind_of c.args.kind) = search rules in
    (word_faultless by.GlobChars c.args.text.now c.in-Ok.ensures.faultless, rw (pattern, case) refl)
