use Rattle.std.proofs.Common.{◌++◌, ◌∷◌, [], ◌∙◌, false, refl, sym, append_assoc, subst}
use Rattle.std.specs.Io.KnownBytes.{Appends}
use Rattle.std.proofs.KnownBytes.{Appends-trans}
use Rattle.std.proofs.lemmas.Result.{on_ok_weaker, on_err_weaker}
use Rattle.zerotrie_queries.specs.Json.{member_texts, object_line}
use Rattle.zerotrie_queries.proofs.PartLemmas.{part_front, part_behind, on_err}
use Rattle.zerotrie_queries.proofs.JsonLemmas.{object_line-is}
use Rattle.zerotrie_queries.proofs.listing.json_object.write_object.Goals as goal

pub returns-in_err-write_bytes-clause-part : goal.returns-in_err-write_bytes-clause-part
returns-in_err-write_bytes-clause-part g c =
    let contents = g.W.Write.contents in
    let pairs = (g.P.TrieListing.left c.args.pairs).pairs in
    let members = member_texts false pairs in
    on_err c.from_residual.result
    (λ valid. part_front (contents c.args.output.now.inner) (contents c.write_bytes.new.self.inner) (123 ∷ []) (members ++ 125 ∷ 10 ∷ []) (object_line pairs)
    c.in_err-write_bytes.ensures.part (sym (object_line-is pairs) ∙ append_assoc (123 ∷ []) members (125 ∷ 10 ∷ [])))

pub returns-in_err-write_members-clause-part : goal.returns-in_err-write_members-clause-part
returns-in_err-write_members-clause-part g c =
    let contents = g.W.Write.contents in
    let pairs = (g.P.TrieListing.left c.args.pairs).pairs in
    let members = member_texts false pairs in
    on_err c.from_residual-in_err-write_members.result
    (λ valid. part_front (contents c.args.output.now.inner) (contents c.write_members.new.output.inner) ((123 ∷ []) ++ members) (125 ∷ 10 ∷ []) (object_line pairs)
    (part_behind (contents c.args.output.now.inner) (contents c.write_bytes.new.self.inner) (contents c.write_members.new.output.inner) (123 ∷ []) members ((123 ∷ []) ++ members)
    c.in_ok-write_bytes.ensures.all (c.in_err-write_members.ensures.part valid) refl)
    (sym (object_line-is pairs)))

pub returns-clause-part : goal.returns-clause-part
returns-clause-part g c =
    let contents = g.W.Write.contents in
    let pairs = (g.P.TrieListing.left c.args.pairs).pairs in
    let members = member_texts false pairs in
    let before = contents c.args.output.now.inner in
    let after = contents c.write_members.new.output.inner in
    on_err_weaker c.write_bytes-2.result
    (λ part valid.
    part_behind before after (contents c.write_bytes-2.new.self.inner) ((123 ∷ []) ++ members) (125 ∷ 10 ∷ []) (object_line pairs)
    (Appends-trans before (contents c.write_bytes.new.self.inner) after (123 ∷ []) members c.in_ok-write_bytes.ensures.all (c.in_ok-write_members.ensures.all valid)) part
    (sym (object_line-is pairs)))
    c.write_bytes-2.ensures.part

pub returns-clause-all : goal.returns-clause-all
returns-clause-all g c =
    let contents = g.W.Write.contents in
    let pairs = (g.P.TrieListing.left c.args.pairs).pairs in
    let members = member_texts false pairs in
    let before = contents c.args.output.now.inner in
    let after = contents c.write_members.new.output.inner in
    on_ok_weaker c.write_bytes-2.result
    (λ all valid.
    subst (Appends before (contents c.write_bytes-2.new.self.inner)) (object_line-is pairs)
    (Appends-trans before after (contents c.write_bytes-2.new.self.inner) ((123 ∷ []) ++ members) (125 ∷ 10 ∷ [])
    (Appends-trans before (contents c.write_bytes.new.self.inner) after (123 ∷ []) members c.in_ok-write_bytes.ensures.all (c.in_ok-write_members.ensures.all valid)) all))
    c.write_bytes-2.ensures.all
