use Rattle.std.proofs.Common.{◌≡◌, ◌∙◌, ◌∷◌, ◌++◌, refl, [], ap, sym, subst, length, take, arith}
use Rattle.std.specs.Prelude.{slice_index}
use Rattle.std.proofs.lemmas.Grind.{common_steps}
use Rattle.std.proofs.lemmas.List.{take_more}
use Rattle.zerotrie_search.specs.Trails.{IsTrail, IsFront, StandsAfter, trail_bytes}
use Rattle.zerotrie_search.proofs.TrailLemmas.{trail_take, stands_on, kept, bytes_take, bytes_len, front_within}
use Rattle.zerotrie_search.proofs.trail.read.Goals as goal

pub last_state-state-requires : goal.last_state-state-requires
last_state-state-requires g c =
    rw (c.as_slice.ensures.value, c.truncate.ensures.items)
    (trail_take (g.T.Automaton.IsAfter c.args.automaton.now) (g.T.Automaton.accepts_from c.args.automaton.now) (g.T.Automaton.accepts c.args.automaton.now) [] c.args.kept c.args.trail.now.items c.requires.trail)

pub loop-place-init : goal.loop-place-init
loop-place-init g c =
    let after = g.T.Automaton.IsAfter c.args.automaton.now in
    let from = g.T.Automaton.accepts_from c.args.automaton.now in
    let accepts = g.T.Automaton.accepts c.args.automaton.now in
    let key = c.args.key.now in
    let old = c.args.trail.now.items in
    let new = c.truncate.new.self.items in
    let items : new ≡ take c.args.kept old = c.truncate.ensures.items in
    let bytes : trail_bytes new ≡ take c.args.kept (trail_bytes old) = ap trail_bytes items ∙ bytes_take c.args.kept old in
    let front : IsFront (trail_bytes new) key = subst (λ bs. IsFront bs key) (sym bytes) c.requires.kept in
    let count : c.len-place.result ≡ length new = grind (arith, common_steps) in
    let len : length (trail_bytes new) ≡ c.len-place.result = bytes_len new ∙ sym count in
    record {
      within = omega (arith, front_within (trail_bytes new) key front, len);
      front = front;
      trail = subst (IsTrail after from accepts []) (sym items) (trail_take after from accepts [] c.args.kept old c.requires.trail);
      state = subst (λ bs. StandsAfter after from accepts bs c.last_state-state.result) (ap trail_bytes c.as_slice.ensures.value ∙ front ∙ ap (λ n. take n key) len) c.last_state-state.ensures;
    }

pub loop-place-preserved : goal.loop-place-preserved
loop-place-preserved g c =
    let after = g.T.Automaton.IsAfter c.args.automaton.now in
    let from = g.T.Automaton.accepts_from c.args.automaton.now in
    let accepts = g.T.Automaton.accepts c.args.automaton.now in
    let l = c.loop-place in
    let key = c.args.key.now in
    let b = slice_index key l.place in
    let less = c.loop-place-test.true in
    let front = take l.place key in
    let stands : StandsAfter after from accepts (front ++ b ∷ []) c.step-state.result =
    stands_on after from accepts front b l.state c.step-state.result l.invariant.state (c.step-state.ensures.after front l.invariant.state.0) c.step-state.ensures.is in
    let trail = kept after from accepts key l.place l.trail.items c.keep.new.trail.items b c.step-state.result less refl l.invariant.front l.invariant.trail stands c.keep.ensures in
    record {
      within = omega (arith, less);
      front = trail.0;
      trail = trail.1;
      state = subst (λ bs. StandsAfter after from accepts bs c.step-state.result) (sym (take_more key l.place 0 less)) stands;
    }
