use Rattle.std.proofs.Common.{◌+◌, [], ◌∷◌, sym, subst}
use Rattle.zerotrie_build.specs.Zeros.{IsClear}
use Rattle.zerotrie_build.specs.passes.Written.{written_to}
use Rattle.zerotrie_build.specs.passes.Writes.{Writes}
use Rattle.zerotrie_build.proofs.Filling.{next_byte, clear_after, writes_after, room_at}
use Rattle.zerotrie_build.proofs.write.Writing.put.Goals as goal

pub invariant_of-self : goal.invariant_of-self
invariant_of-self g c =
    let store = g.S.TrieBuilderStore.list c.self.inside.store in
    let place = c.self.inside.place in
    let within = room_at _ store place 1 c.self.view_is c.requires c.self.invariant in
    let is = next_byte store _ place c.args.byte within c.self.invariant c.atbs_bitor_assign.ensures in
    subst (λ s. IsClear s (place + 1)) (sym is) (clear_after store (c.args.byte ∷ []) place within c.self.invariant)

pub returns : goal.returns
returns g c =
    let store = g.S.TrieBuilderStore.list c.self.inside.store in
    let place = c.self.inside.place in
    let within = room_at _ store place 1 c.self.view_is c.requires c.self.invariant in
    let is = next_byte store _ place c.args.byte within c.self.invariant c.atbs_bitor_assign.ensures in
    let writes = writes_after store (c.args.byte ∷ []) place within in
    subst (λ w. Writes w (written_to (g.S.TrieBuilderStore.list c.atbs_bitor_assign.new.self) (place + 1)) (c.args.byte ∷ [])) c.self.view_is
    (subst (λ s. Writes (written_to store place) (written_to s (place + 1)) (c.args.byte ∷ [])) (sym is) writes)
