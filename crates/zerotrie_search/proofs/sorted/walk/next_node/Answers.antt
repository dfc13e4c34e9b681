use Rattle.std.proofs.Common.{◌≡◌, ◌≢◌, ◌+◌, ◌∷◌, ◌∙◌, [], ℕ, arith, ap, length, refl, reverse, subst, sym, take}
use Rattle.std.proofs.lemmas.Bool.{eqb-true, eqb-false}
use Rattle.std.proofs.lemmas.Grind.{common_steps}
use Rattle.std.proofs.lemmas.List.{nil_from_length, reverse-append, take-append-le}
use Rattle.zerotrie_search.specs.Walks.{HasRun, SameKeys, StepsOn, Walks, is_to_come, rooms}
use Rattle.zerotrie_search.proofs.StandLemmas.{span_run, value_shorter}
use Rattle.zerotrie_search.proofs.WalkLemmas.{walks_run, walks_value, walks_branch, walks_node}
use Rattle.zerotrie_search.proofs.sorted.walk.next_node.Goals as goal

pub enter_next-requires : goal.enter_next-requires
enter_next-requires g c = nil_from_length c.args.rest.now.now (eqb-true _ _ (sym c.is_empty.ensures ∙ c.if-is_empty.true))

pub returns-then-is_empty-clause-walks : goal.returns-then-is_empty-clause-walks
returns-then-is_empty-clause-walks g c pairs w = c.in_ok-reached.ensures.walks pairs c.args.value.now w

pub returns-then-is_empty-clause-steps : goal.returns-then-is_empty-clause-steps
returns-then-is_empty-clause-steps g c =
    let over : c.args.rest.now.now ≡ [] = nil_from_length c.args.rest.now.now (eqb-true _ _ (sym c.is_empty.ensures ∙ c.if-is_empty.true)) in
    let forks : ℕ = rooms (reverse c.args.forks.now.items) in
    let none : length c.args.rest.now.now + forks ≡ forks = (let len = ap length over in omega (arith, len)) in
    subst (λ work. StepsOn c.in_ok-reached.reached c.args.key.now.items c.enter_next.new.key.items c.args.value.now c.args.value.now work (length c.enter_next.new.rest.now + rooms (reverse c.enter_next.new.forks.items)))
    (sym none) (c.in_ok-reached.ensures.steps c.args.value.now)

pub returns-in-None-clause-walks : goal.returns-in-None-clause-walks
returns-in-None-clause-walks g c pairs w =
    let some : c.args.rest.now.now ≢ [] = λ e. eqb-false _ _ (sym c.is_empty.ensures ∙ c.if-is_empty.false) (ap length e) in
    absurd (walks_node g.K.ZeroTrieWithOptions.kind pairs c.args.key.now.items c.args.rest.now.now (reverse c.args.forks.now.items) some w c.in-None.ensures.node)

pub returns-in-Some-Value-clause-walks : goal.returns-in-Some-Value-clause-walks
returns-in-Some-Value-clause-walks g c pairs w =
    let some : c.args.rest.now.now ≢ [] = λ e. eqb-false _ _ (sym c.is_empty.ensures ∙ c.if-is_empty.false) (ap length e) in
    let begins = rw c.in-Some-Value.field-0-is at c.in-Some-Value.ensures.begins in
    walks_value g.K.ZeroTrieWithOptions.kind pairs c.args.key.now.items c.args.rest.now.now (reverse c.args.forks.now.items) some w c.in-Some-Value.number c.in-Some-Value.after.now begins

pub returns-in-Some-Value-clause-steps : goal.returns-in-Some-Value-clause-steps
returns-in-Some-Value-clause-steps g c =
    let begins = rw c.in-Some-Value.field-0-is at c.in-Some-Value.ensures.begins in
    let less = value_shorter c.args.rest.now.now c.in-Some-Value.number c.in-Some-Value.after.now begins in
    (refl, omega (arith, less))

pub push_literals-requires : goal.push_literals-requires
push_literals-requires g c = let begins = rw c.in-Some-Literal.field-0-is at c.in-Some-Literal.ensures.begins in begins.0

pub returns-in_ok-rest-in-Some-Literal-clause-walks : goal.returns-in_ok-rest-in-Some-Literal-clause-walks
returns-in_ok-rest-in-Some-Literal-clause-walks g c pairs w =
    let kind = g.K.ZeroTrieWithOptions.kind in
    let rest = c.args.rest.now.now in
    let key = c.args.key.now.items in
    let key' = c.push_literals.new.key.items in
    let forks = reverse c.args.forks.now.items in
    let some : rest ≢ [] = λ e. eqb-false _ _ (sym c.is_empty.ensures ∙ c.if-is_empty.false) (ap length e) in
    let begins = rw c.in-Some-Literal.field-0-is at c.in-Some-Literal.ensures.begins in
    let after = c.in_ok-rest-in-Some-Literal.field-0.now in
    let run : HasRun kind rest key after key' = subst (λ bytes. HasRun kind bytes key after key') (sym begins.1) (c.in_ok-rest-in-Some-Literal.ensures kind) in
    subst (λ k. Walks kind pairs k after forks × SameKeys pairs (is_to_come kind key rest forks) (is_to_come kind k after forks)) (sym run.2) (walks_run kind pairs key rest forks some w run.0 after run.1)

pub returns-in_ok-rest-in-Some-Literal-clause-steps : goal.returns-in_ok-rest-in-Some-Literal-clause-steps
returns-in_ok-rest-in-Some-Literal-clause-steps g c =
    let key = c.args.key.now.items in
    let begins = rw c.in-Some-Literal.field-0-is at c.in-Some-Literal.ensures.begins in
    let run = c.in_ok-rest-in-Some-Literal.ensures g.K.ZeroTrieWithOptions.kind in
    let len : c.len-kept.result ≡ length key = grind (arith, common_steps) in
    let less = run.3 in
    let all = ap length begins.1 in
    (ap (take c.len-kept.result) run.2 ∙ take-append-le c.len-kept.result key run.0 (omega (arith, len)), refl, omega (arith, less, all))

pub returns-in_ok-extend_from_slice-in-Some-Span-clause-walks : goal.returns-in_ok-extend_from_slice-in-Some-Span-clause-walks
returns-in_ok-extend_from_slice-in-Some-Span-clause-walks g c pairs w =
    let kind = g.K.ZeroTrieWithOptions.kind in
    let rest = c.args.rest.now.now in
    let some : rest ≢ [] = λ e. eqb-false _ _ (sym c.is_empty.ensures ∙ c.if-is_empty.false) (ap length e) in
    let run' = c.in-Some-Span.run'.now in
    let after = c.in-Some-Span.after.now in
    let begins = rw c.in-Some-Span.field-0-is at c.in-Some-Span.ensures.begins in
    rw c.in_ok-extend_from_slice-in-Some-Span.ensures.items (walks_run kind pairs c.args.key.now.items rest (reverse c.args.forks.now.items) some w run' after (span_run kind rest run' after begins))

pub returns-in_ok-push-in-Some-Branch-clause-walks : goal.returns-in_ok-push-in-Some-Branch-clause-walks
returns-in_ok-push-in-Some-Branch-clause-walks g c pairs w =
    let kind = g.K.ZeroTrieWithOptions.kind in
    let key = c.args.key.now.items in
    let rest = c.args.rest.now.now in
    let forks = c.args.forks.now.items in
    let some : rest ≢ [] = λ e. eqb-false _ _ (sym c.is_empty.ensures ∙ c.if-is_empty.false) (ap length e) in
    let begins = rw c.in-Some-Branch.field-0-is at c.in-Some-Branch.ensures.begins in
    let fork = c.open.result in
    let len : c.len-kept.result ≡ length key = grind (arith, common_steps) in
    rw (c.in_ok-push-in-Some-Branch.ensures.items, reverse-append forks (fork ∷ []))
    (walks_branch kind pairs key rest (reverse forks) some w c.in-Some-Branch.branch begins fork c.open.ensures.branch c.open.ensures.room (c.open.ensures.depth ∙ len) c.open.ensures.left)
