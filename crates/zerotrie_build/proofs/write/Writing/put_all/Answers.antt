use Rattle.std.proofs.Common.{◌+◌, length, sym, subst}
use Rattle.zerotrie_build.specs.Zeros.{IsClear}
use Rattle.zerotrie_build.specs.passes.Written.{written_to}
use Rattle.zerotrie_build.specs.passes.Writes.{Writes}
use Rattle.zerotrie_build.proofs.Filling.{clear_after, writes_after, room_at}
use Rattle.zerotrie_build.proofs.write.Writing.put_all.Goals as goal

pub atbs_set_zeros-requires-clause-fit : goal.atbs_set_zeros-requires-clause-fit
atbs_set_zeros-requires-clause-fit g c = room_at _ (g.S.TrieBuilderStore.list c.self.inside.store) c.self.inside.place (length c.args.bytes.now) c.self.view_is c.requires c.self.invariant

pub invariant_of-self : goal.invariant_of-self
invariant_of-self g c =
    let store = g.S.TrieBuilderStore.list c.self.inside.store in
    let place = c.self.inside.place in
    let bytes = c.args.bytes.now in
    let within = room_at _ store place (length bytes) c.self.view_is c.requires c.self.invariant in
    subst (λ s. IsClear s (place + length bytes)) (sym c.atbs_set_zeros.ensures) (clear_after store bytes place within c.self.invariant)

pub returns : goal.returns
returns g c =
    let store = g.S.TrieBuilderStore.list c.self.inside.store in
    let place = c.self.inside.place in
    let bytes = c.args.bytes.now in
    let within = room_at _ store place (length bytes) c.self.view_is c.requires c.self.invariant in
    subst (λ w. Writes w (written_to (g.S.TrieBuilderStore.list c.atbs_set_zeros.new.self) (place + length bytes)) bytes) c.self.view_is
    (subst (λ s. Writes (written_to store place) (written_to s (place + length bytes)) bytes) (sym c.atbs_set_zeros.ensures) (writes_after store bytes place within))
