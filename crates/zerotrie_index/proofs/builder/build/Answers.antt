use Rattle.std.proofs.Common.{arith, ◌≡◌, ◌+◌, ◌*◌, ◌%◌, ◌^◌, length, max, ap, sym, subst, ◌∙◌}
use Rattle.std.proofs.lemmas.List.{length-map}
use Rattle.zerotrie_base.specs.Items.{keyed}
use Rattle.zerotrie_index.specs.Hash.{golden}
use Rattle.zerotrie_index.specs.Built.{bucket_count, IsCrowded, CauseWith}
use Rattle.zerotrie_index.proofs.WrittenLemmas.{next_tried, not_fewer}
use Rattle.zerotrie_index.proofs.builder.build.Goals as goal

pub returns-in_default : goal.returns-in_default
returns-in_default g c =
    let fewer = not_fewer (keyed g.K.TrieKey.key c.args.items.now) in
    let same : length (keyed g.K.TrieKey.key c.args.items.now) ≡ length c.args.items.now = length-map c.args.items.now _ in
    omega (arith, c.in_default.ensures)

pub loop-tried-preserved : goal.loop-tried-preserved
loop-tried-preserved g c =
    let given = keyed g.K.TrieKey.key c.args.items.now in
    let same : length given ≡ length c.args.items.now = length-map c.args.items.now _ in
    let own : (c.args.seed + c.loop-tried.tried * golden % 2 ^ 64) % 2 ^ 64 ≡ (c.args.seed + c.loop-tried.tried * golden) % 2 ^ 64 = omega arith in
    next_tried (λ k. IsCrowded ((c.args.seed + k * golden) % 2 ^ 64) (bucket_count given) given) c.loop-tried.tried c.loop-tried.invariant
    (subst (λ seed. IsCrowded seed (bucket_count given) given) own
    (subst (λ n. IsCrowded ((c.args.seed + c.loop-tried.tried * golden % 2 ^ 64) % 2 ^ 64) n given) (c.max.ensures ∙ ap (λ n. max n 1) (c.in-Ok.ensures.1 ∙ ap (λ n. 2 * n) (sym same)))
    (subst (CauseWith (IsCrowded ((c.args.seed + c.loop-tried.tried * golden % 2 ^ 64) % 2 ^ 64) c.max.result given) given) c.in-Err-Crowded.field-0-is c.in-Err-Crowded.ensures)))
