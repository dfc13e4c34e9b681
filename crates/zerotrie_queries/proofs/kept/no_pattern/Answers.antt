use Rattle.std.proofs.Common.{◌∙◌, true, false}
use Rattle.zerotrie_core.specs.Kinds.{kind_of}
use Rattle.zerotrie_index.specs.Tries.{folded_key}
use Rattle.zerotrie_search.specs.Automata.{any_accepts, finds_in, ignores_case}
use Rattle.zerotrie_search.specs.declared.any.AnyAutomaton.TheVariants as any
use Rattle.zerotrie_search.specs.declared.any.SearchBy.TheVariants as by
use Rattle.zerotrie_queries.specs.Chosen.{is_word}
use Rattle.zerotrie_queries.proofs.KeptLemmas.{no_bytes, no_chars, spared_by}
use Rattle.zerotrie_queries.proofs.kept.no_pattern.Goals as goal

pub returns-then-pattern : goal.returns-then-pattern
returns-then-pattern c key =
    let kind = c.args.kind in
    let p = c.in-Some.pattern in
    no_chars (λ g. any_accepts (any.GlobChars g)) c.glob_chars_of-chars.result (is_word by.GlobChars p.text.now) (finds_in (ignores_case (kind_of kind)) by.GlobChars p.text.now)
    c.glob_chars_of-chars.ensures.some c.glob_chars_of-chars.ensures.none (folded_key (kind_of kind) key)
    ∙ spared_by kind c.args.without p true c.in-Some.is c.if-pattern.true key

pub returns-else-pattern : goal.returns-else-pattern
returns-else-pattern c key =
    let kind = c.args.kind in
    let p = c.in-Some.pattern in
    no_bytes (λ g. any_accepts (any.Glob g)) c.glob_of-bytes.result (is_word by.Glob p.text.now) (finds_in (ignores_case (kind_of kind)) by.Glob p.text.now)
    c.glob_of-bytes.ensures.some c.glob_of-bytes.ensures.none (folded_key (kind_of kind) key)
    ∙ spared_by kind c.args.without p false c.in-Some.is c.if-pattern.false key
