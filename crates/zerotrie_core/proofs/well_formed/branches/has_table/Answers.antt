use Rattle.std.proofs.Common.{◌≡◌, take, map, subst, ap, arith, refl, sym, ◌∙◌, true, false, leb}
use Rattle.std.specs.Prelude.{◌&&◌, ◌↔◌, IsTrue}
use Rattle.std.specs.List.Sorted.{IsStrictlyIncreasing}
use Rattle.zerotrie_core.specs.well_formed.Branching.{AreBytes}
use Rattle.std.proofs.lemmas.Bool.{lt-leb, le-leb}
use Rattle.std.proofs.lemmas.List.{length-take-le}
use Rattle.zerotrie_base.specs.Kind.{flags, is_hashed, fold_byte}
use Rattle.zerotrie_base.proofs.MapLemmas.Kinds.{hashed_by, ascii_sorted}
use Rattle.zerotrie_core.proofs.WellFormedLemmas.Parts.{plain_test, hashed_test, unhashed_ascii, hashed_kind, limit_all, ascii_below, front_lies}
use Rattle.zerotrie_core.proofs.well_formed.branches.has_table.Goals as goal

pub returns-then-edge_at-lt128 : goal.returns-then-edge_at-lt128
returns-then-edge_at-lt128 g c =
    let kind = g.K.ZeroTrieWithOptions.kind in
    let b = c.args.branch.now in
    let whole = b.whole in
    let some = b.some in
    let ascii = unhashed_ascii kind (ap (λ f. f.use_phf) g.K.ZeroTrieWithOptions.flags_are ∙ sym c.USE_PHF.ensures ∙ c.if-not-USE_PHF.true) in
    let same = (front_lies b.edges b.behind.now c.args.tail.now c.requires (omega arith)).1 in
    plain_test kind (IsTrue c.front_rises.result) b.edges (take b.edges b.behind.now) (take b.edges b.behind.now) b.table.now (ascii_sorted kind ascii b.edges) refl (length-take-le b.edges b.behind.now (omega arith)) b.ends
    (ascii_below kind ascii b.edges b.behind.now (omega arith) (omega arith) (omega (arith, c.edge_at.ensures, c.if-edge_at-lt128.true)))
    (subst (λ xs. IsTrue c.front_rises.result ↔ IsStrictlyIncreasing (map (fold_byte kind) xs)) same c.front_rises.ensures.rises)

pub returns-then-branch-lt16 : goal.returns-then-branch-lt16
returns-then-branch-lt16 g c =
    let kind = g.K.ZeroTrieWithOptions.kind in
    let b = c.args.branch.now in
    let whole = b.whole in
    let edges = take b.edges b.behind.now in
    let uses : (flags kind).use_phf ≡ true = ap (λ f. f.use_phf) g.K.ZeroTrieWithOptions.flags_are ∙ sym c.USE_PHF.ensures ∙ c.if-not-USE_PHF.false in
    let plain : is_hashed kind b.edges ≡ false = hashed_by kind b.edges ∙ ap (λ u. u && leb 16 b.edges) uses ∙ lt-leb 16 b.edges c.if-branch-lt16.true in
    let same = (front_lies b.edges b.behind.now c.args.tail.now c.requires (omega arith)).1 in
    plain_test kind (IsTrue c.front_rises-then-branch-lt16.result) b.edges edges edges b.table.now plain refl (length-take-le b.edges b.behind.now (omega arith)) b.ends
    (λ up. limit_all kind (hashed_kind kind uses) edges (subst AreBytes same c.front_rises-then-branch-lt16.ensures.bytes))
    (subst (λ xs. IsTrue c.front_rises-then-branch-lt16.result ↔ IsStrictlyIncreasing (map (fold_byte kind) xs)) same c.front_rises-then-branch-lt16.ensures.rises)

pub returns-else-branch-lt16 : goal.returns-else-branch-lt16
returns-else-branch-lt16 g c =
    let kind = g.K.ZeroTrieWithOptions.kind in
    let b = c.args.branch.now in
    let whole = b.whole in
    let some = b.some in
    let uses : (flags kind).use_phf ≡ true = ap (λ f. f.use_phf) g.K.ZeroTrieWithOptions.flags_are ∙ sym c.USE_PHF.ensures ∙ c.if-not-USE_PHF.false in
    let wide : is_hashed kind b.edges ≡ true = hashed_by kind b.edges ∙ ap (λ u. u && leb 16 b.edges) uses ∙ le-leb 16 b.edges (omega (arith, c.if-branch-lt16.false)) in
    hashed_test kind (IsTrue c.is_perfect.result) b.edges c.split_at.result.0.now (take b.edges b.behind.now) b.table.now wide c.split_at.ensures.front (omega arith) some.1 (length-take-le b.edges b.behind.now (omega arith)) b.ends
    c.is_perfect.ensures.bytes.0 c.is_perfect.ensures.bytes.1 c.is_perfect.ensures.yes c.is_perfect.ensures.no

pub front_rises-requires : goal.front_rises-requires
front_rises-requires g c =
    let b = c.args.branch.now in
    let whole = b.whole in
    let some = b.some in
    (omega arith, (front_lies b.edges b.behind.now c.args.tail.now c.requires (omega arith)).0)

pub front_rises-requires-then-branch-lt16 : goal.front_rises-requires-then-branch-lt16
front_rises-requires-then-branch-lt16 g c =
    let b = c.args.branch.now in
    let whole = b.whole in
    let some = b.some in
    (omega arith, (front_lies b.edges b.behind.now c.args.tail.now c.requires (omega arith)).0)
