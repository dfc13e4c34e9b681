use Rattle.std.proofs.Common.{◌≡◌, ◌++◌, ◌∙◌, ap, append_assoc}
use Rattle.std.specs.Prelude.{codes}
use Rattle.std.proofs.lemmas.Result.{on_ok_weaker}
use Rattle.zerotrie_queries.specs.code.Texts.{c_constants}
use Rattle.zerotrie_queries.proofs.code.write.add_c_front.Goals as goal

pub returns : goal.returns
returns c =
    let old = c.args.text.now.items in
    let name = c.args.name.now in
    let first = codes "#include \"zerotrie.h\"\n" in
    let one : c.extend_from_slice.new.self.items ≡ old ++ first = c.in_ok-extend_from_slice.ensures.items in
    let kind = c.c_kind.result.now in
    on_ok_weaker c.add_c_constants.result
    (λ is. is ∙ ap (λ l. l ++ c_constants kind name) one ∙ append_assoc old first (c_constants kind name) ∙ ap (λ k. old ++ (first ++ c_constants k name)) c.c_kind.ensures)
    c.add_c_constants.ensures
