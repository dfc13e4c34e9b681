use Rattle.std.proofs.Common.{refl, arith}
use Rattle.std.specs.Allocator.{alloc_error}
use Rattle.zerotrie_index.proofs.InBlocksLemmas.{cause_before}
use Rattle.zerotrie_index.proofs.in_blocks.SealedIndexReadAt.fill.Goals as goal

pub returns-in_err-part-clause-fewer : goal.returns-in_err-part-clause-fewer
returns-in_err-part-clause-fewer g c = λ place count e may.
    cause_before _ _ _ _ (g.S.Error.From-1.from_gives alloc_error) g.S.Error.From-2.from_gives c.args.self.now.front place count place count e c.in_err-part.ensures.same c.in_err-part.ensures.fewer (omega arith) refl may

pub returns-clause-fewer : goal.returns-clause-fewer
returns-clause-fewer g c = λ place count e may.
    cause_before _ _ _ _ (g.S.Error.From-1.from_gives alloc_error) g.S.Error.From-2.from_gives c.args.self.now.front place count place count e c.in_ok-part.ensures.same c.in_ok-part.ensures.fewer (omega arith) refl may
