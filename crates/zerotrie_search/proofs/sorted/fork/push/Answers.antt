use Rattle.std.proofs.Common.{[], ◌∷◌, ◌++◌, ◌∙◌, inl, inr, ap, refl, sym, subst, reverse}
use Rattle.std.proofs.lemmas.List.{reverse-append}
use Rattle.zerotrie_search.specs.Forks.{AreForks}
use Rattle.zerotrie_search.proofs.ForkLemmas.{forks_more, forks_open, fork_over}
use Rattle.zerotrie_search.proofs.sorted.fork.push.Goals as goal

pub returns-in_ok-push-2-clause-forks : goal.returns-in_ok-push-2-clause-forks
returns-in_ok-push-2-clause-forks g c kind pairs on depth fork =
    let key = c.args.key.now.items in
    let forks = c.args.forks.now.items in
    rw (c.in_ok-push.ensures.items, c.in_ok-push-2.ensures.items)
    (subst (AreForks kind pairs (key ++ c.args.edge ∷ [])) (sym (reverse-append forks (c.args.fork ∷ [])))
    (forks_open kind pairs (reverse forks) key c.args.edge c.args.fork on depth fork (λ over. (let yes = c.is_over.ensures.1 over in let no = c.if-not-is_over.true in cc))))

pub returns-else-not-is_over-clause-forks : goal.returns-else-not-is_over-clause-forks
returns-else-not-is_over-clause-forks g c kind pairs on depth fork =
    rw c.in_ok-push.ensures.items (forks_more kind pairs (reverse c.args.forks.now.items) c.args.key.now.items c.args.edge on (fork_over fork (c.is_over.ensures.0 c.if-not-is_over.false)))

pub returns-in_ok-push-2-clause-keeps : goal.returns-in_ok-push-2-clause-keeps
returns-in_ok-push-2-clause-keeps g c =
    inl (ap reverse c.in_ok-push-2.ensures.items ∙ reverse-append c.args.forks.now.items (c.args.fork ∷ []), (λ over. (let yes = c.is_over.ensures.1 over in let no = c.if-not-is_over.true in cc)))

pub returns-else-not-is_over-clause-keeps : goal.returns-else-not-is_over-clause-keeps
returns-else-not-is_over-clause-keeps g c = inr (refl, c.is_over.ensures.0 c.if-not-is_over.false)
