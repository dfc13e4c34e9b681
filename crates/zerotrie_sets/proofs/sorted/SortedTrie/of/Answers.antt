use Rattle.std.proofs.Common.{[], ◌∷◌, ◌≡◌, ◌∙◌, refl, ap, subst, sym, Option, Some, None, true}
use Rattle.std.specs.Prelude.{filter, ◌↔◌, IsSome, IfSome}
use Rattle.std.specs.FinMap.{entries}
use Rattle.std.specs.declared.ops.Bound.TheVariants.{Unbounded}
use Rattle.zerotrie_core.specs.Maps.{Pairs, Ascends}
use Rattle.zerotrie_core.specs.Listings.{to_come}
use Rattle.zerotrie_core.specs.WellFormed.{IsWellFormed}
use Rattle.zerotrie_sets.proofs.sorted.SortedTrie.of.Goals as goal

all_kept : (pairs : Pairs) → filter (λ e. true) pairs ≡ pairs
all_kept [] = refl
all_kept (e ∷ pairs) = ap (λ more. e ∷ more) (all_kept pairs)

if_more : {A : Type 0} {P Q : A → Type 0} (r : Option A) → ((a : A) → P a → Q a) → IfSome r P → IfSome r Q
if_more None h p = p
if_more (Some a) h p = h a p

pub returns-clause-valid : goal.returns-clause-valid
returns-clause-valid g c =
    let found = c.validated.result in
    let pairs = c.in_ok-pairs.pairs in
    subst (λ kind. IsSome found ↔ IsWellFormed kind (g.T.Trie.bytes c.args.trie.now)) c.in_ok-pairs.ensures.kind
    (subst (λ bytes. IsSome found ↔ IsWellFormed pairs.kind bytes) c.in_ok-pairs.ensures.bytes c.validated.ensures.valid)

pub returns-clause-lists : goal.returns-clause-lists
returns-clause-lists g c =
    if_more c.validated.result
    (λ s is m means.
    (let left = is ∙ c.in_ok-pairs.ensures.pairs m means in
    (left ∙ ap to_come (all_kept (entries m)), subst (λ l. Ascends l.pairs) (sym left) (c.sorted_listing_ascends.ensures Unbounded Unbounded m))))
    c.validated.ensures.lists
