use Rattle.std.proofs.Common.{◌≡◌, ◌∙◌, ◌++◌, ◌∷◌, [], List, ℕ, ap, arith, false, true, refl, subst, sym, take}
use Rattle.std.proofs.lemmas.List.{append-nil}
use Rattle.zerotrie_core.specs.Listings.{to_come}
use Rattle.zerotrie_search.specs.Searches.{accepted, accepted_left}
use Rattle.zerotrie_search.specs.Trails.{IsFront, trail_bytes}
use Rattle.zerotrie_search.proofs.SearchLemmas.{passed_in, passed_out, dead_out, left_is}
use Rattle.zerotrie_search.proofs.SkipLemmas.{same_trie, without_dead}
use Rattle.zerotrie_search.proofs.TrailLemmas.{front_kept}
use Rattle.zerotrie_search.proofs.search.next_accepted.Goals as goal

pub read-requires-clause-kept : goal.read-requires-clause-kept
read-requires-clause-kept g c =
    let steps = rw c.in-Bytes.is at c.in_ok-advance_node.ensures.steps in
    let l = c.loop-pairs in
    rw c.key.ensures (front_kept c.in-Bytes.kept (trail_bytes l.trail.items) l.pairs.key c.advance_node.new.self.key (l.invariant.front steps.0) steps.2)

pub loop-pairs-preserved-in-Dead : goal.loop-pairs-preserved-in-Dead
loop-pairs-preserved-in-Dead g c =
    let accepts = g.T.Automaton.accepts c.args.automaton.now in
    let l = c.loop-pairs in
    let depth = c.in-Dead.depth in
    let hand = c.advance_node.new.self in
    let sorts = rw c.in-Bytes.is at c.in_ok-advance_node.ensures.sorts in
    let steps = rw c.in-Bytes.is at c.in_ok-advance_node.ensures.steps in
    let dead : (more : List ℕ) → accepts (take depth hand.key ++ more) ≡ false =
    subst (λ key. (more : List ℕ) → accepts (take depth key ++ more) ≡ false) c.key.ensures c.in-Dead.ensures.says in
    record {
      trail = c.in-Dead.ensures.trail;
      front = λ _. subst (IsFront (trail_bytes c.read.new.trail.items)) (c.key.ensures ∙ sym c.leave.ensures.key) c.in-Dead.ensures.front;
      same = λ well. (
          let valid = same_trie c.args.pairs.now.kind l.pairs.kind c.args.pairs.now.bytes l.pairs.bytes l.invariant.kind l.invariant.bytes well in
          ap (accepted_left accepts) (c.leave.ensures.left (same_trie l.pairs.kind hand.kind l.pairs.bytes hand.bytes c.advance_node.ensures.kind c.advance_node.ensures.bytes valid))
          ∙ without_dead accepts (take depth hand.key) hand.left dead ∙ ap (accepted_left accepts) (sorts valid) ∙ l.invariant.same well
          );
      ended = c.leave.ensures.ended ∙ steps.1 ∙ sym steps.0 ∙ l.invariant.ended;
      most = (let so_far = l.invariant.most in let one = steps.5 in let left = c.leave.ensures.most in omega (arith, so_far, one, left));
      work = (let so_far = l.invariant.work in let one = steps.6 in let left = c.leave.ensures.less in omega (arith, so_far, one, left));
      kind = c.leave.ensures.kind ∙ c.advance_node.ensures.kind ∙ l.invariant.kind;
      bytes = c.leave.ensures.bytes ∙ c.advance_node.ensures.bytes ∙ l.invariant.bytes;
    }

pub loop-pairs-preserved-in-Dead-read : goal.loop-pairs-preserved-in-Dead-read
loop-pairs-preserved-in-Dead-read g c =
    let accepts = g.T.Automaton.accepts c.args.automaton.now in
    let l = c.loop-pairs in
    let depth = c.in-Dead-read.depth in
    let hand = c.advance_node.new.self in
    let sorts = rw c.in-Pair.is at c.in_ok-advance_node.ensures.sorts in
    let steps = rw c.in-Pair.is at c.in_ok-advance_node.ensures.steps in
    let dead : (more : List ℕ) → accepts (take depth hand.key ++ more) ≡ false =
    subst (λ key. (more : List ℕ) → accepts (take depth key ++ more) ≡ false) c.key-key.ensures c.in-Dead-read.ensures.says in
    record {
      trail = c.in-Dead-read.ensures.trail;
      front = λ _. subst (IsFront (trail_bytes c.read-in-Pair.new.trail.items)) (c.key-key.ensures ∙ sym c.leave-in-Dead-read.ensures.key) c.in-Dead-read.ensures.front;
      same = λ well. (
          let valid = same_trie c.args.pairs.now.kind l.pairs.kind c.args.pairs.now.bytes l.pairs.bytes l.invariant.kind l.invariant.bytes well in
          ap (accepted_left accepts) (c.leave-in-Dead-read.ensures.left (same_trie l.pairs.kind hand.kind l.pairs.bytes hand.bytes c.advance_node.ensures.kind c.advance_node.ensures.bytes valid))
          ∙ without_dead accepts (take depth hand.key) hand.left dead
          ∙ passed_out accepts hand.key hand.value l.pairs.left hand.left (left_is l.pairs.left (to_come ((hand.key, hand.value) ∷ hand.left.pairs)) (sorts valid) steps.0) (left_is hand.left (to_come hand.left.pairs) refl steps.1) (dead_out accepts depth hand.key dead)
          ∙ l.invariant.same well
          );
      ended = c.leave-in-Dead-read.ensures.ended ∙ steps.1 ∙ sym steps.0 ∙ l.invariant.ended;
      most = (let so_far = l.invariant.most in let one = steps.4 in let left = c.leave-in-Dead-read.ensures.most in omega (arith, so_far, one, left));
      work = (let so_far = l.invariant.work in let one = steps.5 in let left = c.leave-in-Dead-read.ensures.less in omega (arith, so_far, one, left));
      kind = c.leave-in-Dead-read.ensures.kind ∙ c.advance_node.ensures.kind ∙ l.invariant.kind;
      bytes = c.leave-in-Dead-read.ensures.bytes ∙ c.advance_node.ensures.bytes ∙ l.invariant.bytes;
    }

pub returns-in-End-clause-lists : goal.returns-in-End-clause-lists
returns-in-End-clause-lists g c well =
    let accepts = g.T.Automaton.accepts c.args.automaton.now in
    let l = c.loop-pairs in
    let sorts = rw c.in-End.is at c.in_ok-advance_node.ensures.sorts in
    let steps = rw c.in-End.is at c.in_ok-advance_node.ensures.steps in
    let valid = same_trie c.args.pairs.now.kind l.pairs.kind c.args.pairs.now.bytes l.pairs.bytes l.invariant.kind l.invariant.bytes well in
    (ap (λ left. left.pairs) (sym (l.invariant.same well)) ∙ ap (accepted accepts) (sorts valid), ap (accepted_left accepts) steps.0)

pub returns-then-is_match-clause-accepted : goal.returns-then-is_match-clause-accepted
returns-then-is_match-clause-accepted g c _ =
    let accepts = g.T.Automaton.accepts c.args.automaton.now in
    let hand = c.advance_node.new.self in
    ap accepts (sym (append-nil hand.key)) ∙ ap (λ k. accepts (k ++ [])) (sym c.key-key.ensures) ∙ sym (c.in-Alive-read.ensures.says.1 []) ∙ sym c.is_match.ensures ∙ c.if-is_match.true

pub returns-then-is_match-clause-lists : goal.returns-then-is_match-clause-lists
returns-then-is_match-clause-lists g c well =
    let accepts = g.T.Automaton.accepts c.args.automaton.now in
    let l = c.loop-pairs in
    let hand = c.advance_node.new.self in
    let sorts = rw c.in-Pair.is at c.in_ok-advance_node.ensures.sorts in
    let steps = rw c.in-Pair.is at c.in_ok-advance_node.ensures.steps in
    let valid = same_trie c.args.pairs.now.kind l.pairs.kind c.args.pairs.now.bytes l.pairs.bytes l.invariant.kind l.invariant.bytes well in
    let after = left_is hand.left (to_come hand.left.pairs) refl steps.1 in
    let within : accepts hand.key ≡ true =
    ap accepts (sym (append-nil hand.key)) ∙ ap (λ k. accepts (k ++ [])) (sym c.key-key.ensures) ∙ sym (c.in-Alive-read.ensures.says.1 []) ∙ sym c.is_match.ensures ∙ c.if-is_match.true in
    (sym (l.invariant.same well) ∙ passed_in accepts hand.key hand.value l.pairs.left hand.left (left_is l.pairs.left (to_come ((hand.key, hand.value) ∷ hand.left.pairs)) (sorts valid) steps.0) within, ap (accepted_left accepts) after)

pub loop-pairs-preserved-in-Branch : goal.loop-pairs-preserved-in-Branch
loop-pairs-preserved-in-Branch g c =
    let accepts = g.T.Automaton.accepts c.args.automaton.now in
    let l = c.loop-pairs in
    let hand = c.advance_node.new.self in
    let sorts = rw c.in-Branch.is at c.in_ok-advance_node.ensures.sorts in
    let steps = rw c.in-Branch.is at c.in_ok-advance_node.ensures.steps in
    let now = c.only_wanted.ensures in
    record {
      trail = l.invariant.trail;
      front = λ _. subst (IsFront (trail_bytes l.trail.items)) (sym (now.key ∙ steps.2)) (l.invariant.front steps.0);
      same = λ well. (
          let valid = same_trie c.args.pairs.now.kind l.pairs.kind c.args.pairs.now.bytes l.pairs.bytes l.invariant.kind l.invariant.bytes well in
          now.left (same_trie l.pairs.kind hand.kind l.pairs.bytes hand.bytes c.advance_node.ensures.kind c.advance_node.ensures.bytes valid) ∙ ap (accepted_left accepts) (sorts valid) ∙ l.invariant.same well
          );
      ended = now.ended ∙ steps.1 ∙ sym steps.0 ∙ l.invariant.ended;
      most = (let so_far = l.invariant.most in let one = steps.5 in let left = now.most in omega (arith, so_far, one, left));
      work = (let so_far = l.invariant.work in let one = steps.6 in let left = now.less in omega (arith, so_far, one, left));
      kind = now.kind ∙ c.advance_node.ensures.kind ∙ l.invariant.kind;
      bytes = now.bytes ∙ c.advance_node.ensures.bytes ∙ l.invariant.bytes;
    }

pub loop-pairs-preserved-in-Alive-1 : goal.loop-pairs-preserved-in-Alive-1
loop-pairs-preserved-in-Alive-1 g c =
    let accepts = g.T.Automaton.accepts c.args.automaton.now in
    let l = c.loop-pairs in
    let sorts = rw c.in-Bytes.is at c.in_ok-advance_node.ensures.sorts in
    let steps = rw c.in-Bytes.is at c.in_ok-advance_node.ensures.steps in
    record {
      trail = c.in-Alive.ensures.trail;
      front = λ _. subst (IsFront (trail_bytes c.read.new.trail.items)) c.key.ensures c.in-Alive.ensures.front;
      same = λ well. ap (accepted_left accepts) (sorts (same_trie c.args.pairs.now.kind l.pairs.kind c.args.pairs.now.bytes l.pairs.bytes l.invariant.kind l.invariant.bytes well)) ∙ l.invariant.same well;
      ended = steps.1 ∙ sym steps.0 ∙ l.invariant.ended;
      most = (let so_far = l.invariant.most in let one = steps.5 in omega (arith, so_far, one));
      work = (let so_far = l.invariant.work in let one = steps.6 in omega (arith, so_far, one));
      kind = c.advance_node.ensures.kind ∙ l.invariant.kind;
      bytes = c.advance_node.ensures.bytes ∙ l.invariant.bytes;
    }

pub loop-pairs-preserved : goal.loop-pairs-preserved
loop-pairs-preserved g c =
    let accepts = g.T.Automaton.accepts c.args.automaton.now in
    let l = c.loop-pairs in
    let hand = c.advance_node.new.self in
    let sorts = rw c.in-Pair.is at c.in_ok-advance_node.ensures.sorts in
    let steps = rw c.in-Pair.is at c.in_ok-advance_node.ensures.steps in
    let out : accepts hand.key ≡ false =
    ap accepts (sym (append-nil hand.key)) ∙ ap (λ k. accepts (k ++ [])) (sym c.key-key.ensures) ∙ sym (c.in-Alive-read.ensures.says.1 []) ∙ sym c.is_match.ensures ∙ c.if-is_match.false in
    record {
      trail = c.in-Alive-read.ensures.trail;
      front = λ _. subst (IsFront (trail_bytes c.read-in-Pair.new.trail.items)) c.key-key.ensures c.in-Alive-read.ensures.front;
      same = λ well. passed_out accepts hand.key hand.value l.pairs.left hand.left
          (left_is l.pairs.left (to_come ((hand.key, hand.value) ∷ hand.left.pairs)) (sorts (same_trie c.args.pairs.now.kind l.pairs.kind c.args.pairs.now.bytes l.pairs.bytes l.invariant.kind l.invariant.bytes well)) steps.0)
          (left_is hand.left (to_come hand.left.pairs) refl steps.1) out ∙ l.invariant.same well;
      ended = steps.1 ∙ sym steps.0 ∙ l.invariant.ended;
      most = (let so_far = l.invariant.most in let one = steps.4 in omega (arith, so_far, one));
      work = (let so_far = l.invariant.work in let one = steps.5 in omega (arith, so_far, one));
      kind = c.advance_node.ensures.kind ∙ l.invariant.kind;
      bytes = c.advance_node.ensures.bytes ∙ l.invariant.bytes;
    }

pub returns-then-is_match-clause-work : goal.returns-then-is_match-clause-work
returns-then-is_match-clause-work g c found =
    let steps = rw c.in-Pair.is at c.in_ok-advance_node.ensures.steps in
    let so_far = c.loop-pairs.invariant.work in
    let one = steps.5 in
    omega (arith, so_far, one)
