use Rattle.std.proofs.Common.{◌≡◌, ◌∙◌, ap, sym, arith, false, leb}
use Rattle.std.specs.Prelude.{◌&&◌}
use Rattle.zerotrie_base.specs.Hashes.{number_of}
use Rattle.zerotrie_base.specs.Kind.{is_hashed}
use Rattle.zerotrie_base.proofs.MapLemmas.Kinds.{hashed_by}
use Rattle.zerotrie_base.proofs.NodeLemmas.Places.{none_sorted, hashed_some, hashed_none}
use Rattle.zerotrie_core.proofs.branch.Branch.place_by_table.Goals as goal
use Rattle.zerotrie_core.proofs.branch.Branch.place_by_table.Goals.{else-USE_PHF-via-then-USE_PHF+else-self, else-USE_PHF-via-else-USE_PHF}

pub returns-then-self-clause-some : goal.returns-then-self-clause-some
returns-then-self-clause-some g c =
    let b = c.args.self.now in
    hashed_some g.K.ZeroTrieWithOptions.kind b.edges c.args.byte b.behind.now b.table.now c.get.result b.some.1 c.ranges.byte.fits (b.sized c.if-self.true) b.ends
    (c.get.ensures.any ∙ ap (λ t. number_of t c.args.byte) c.from_bytes.ensures)

pub returns-then-self-clause-none : goal.returns-then-self-clause-none
returns-then-self-clause-none g c =
    let b = c.args.self.now in
    let whole = b.whole in
    hashed_none g.K.ZeroTrieWithOptions.kind b.edges c.args.byte b.behind.now b.table.now c.get.result (omega arith) c.if-self.true
    (λ p qs keys t. c.get.ensures.perfect p qs keys (c.from_bytes.ensures ∙ t))

pub returns-clause-none : goal.returns-clause-none
returns-clause-none g c =
    let b = c.args.self.now in
    none_sorted g.K.ZeroTrieWithOptions.kind b.edges c.args.byte b.behind.now _ b.table.now c.place_in.result c.split_at.ensures.front c.split_at.ensures.front_len
    (λ wide long. elim c.else-USE_PHF.branch [
      | else-USE_PHF-via-then-USE_PHF+else-self w ↦ let short = w.if-self.false in absurd (omega arith)
      | else-USE_PHF-via-else-USE_PHF w ↦
          let off = w.if-USE_PHF.false in
          let not : is_hashed g.K.ZeroTrieWithOptions.kind b.edges ≡ false = hashed_by g.K.ZeroTrieWithOptions.kind b.edges ∙ ap (λ f. f.use_phf && leb 16 b.edges) g.K.ZeroTrieWithOptions.flags_are ∙ ap (λ u. u && leb 16 b.edges) (sym c.USE_PHF.ensures ∙ off) in
          absurd (cc)
    ])
    c.place_in.ensures.none
