use Rattle.std.proofs.Common.{◌≡◌, take, ◌-◌, ◌*◌, length, drop, subst, sym}
use Rattle.zerotrie_base.specs.Branches.{IsWidth}
use Rattle.zerotrie_core.proofs.WellFormedLemmas.Branches.{no_width, no_table}
use Rattle.zerotrie_core.proofs.well_formed.branches.has_front.Goals as goal

pub returns-then-has_width-clause-no : goal.returns-then-has_width-clause-no
returns-then-has_width-clause-no g c = λ f. (
    let b = c.args.branch.now in
    no_table g.K.ZeroTrieWithOptions.kind b.edges b.width b.table.now b.behind.now (λ long has. (let e = (c.has_table.ensures long).1 has in cc))
    )

pub returns-else-has_width-clause-no : goal.returns-else-has_width-clause-no
returns-else-has_width-clause-no g c = λ f. (
    let b = c.args.branch.now in
    no_width g.K.ZeroTrieWithOptions.kind b.edges b.width b.table.now b.behind.now
    (λ is. (let e = c.has_width.ensures.width.1 (subst (λ x. IsWidth (length (drop (b.width * (b.edges - 1)) x)) (b.width - 1)) (sym c.split_at.ensures.back) is) in cc))
    )

pub has_table-requires : goal.has_table-requires
has_table-requires g c = subst (λ x. x ≡ take (length x) c.args.edges.tail.now) c.requires c.args.edges.lies
