use Rattle.std.proofs.Common.{◌∙◌, ◌∷◌, ap, sym, arith, length}
use Rattle.std.proofs.lemmas.List.{length-set}
use Rattle.zerotrie_search.specs.Globs.{items, items_in, no_item_in, unread, first_item}
use Rattle.zerotrie_search.specs.GlobMasks.{letters_in}
use Rattle.zerotrie_search.proofs.GlobLemmas.{read_item, read_none, items_more, left_more, all_left_over}
use Rattle.zerotrie_search.proofs.MarkLemmas.{drop_one, role_more}
use Rattle.zerotrie_search.proofs.glob.masks.roles_of.Goals as goal

pub loop-item-preserved : goal.loop-item-preserved
loop-item-preserved c =
    let l = c.loop-item in
    let all = items (letters_in c.args.pattern) in
    let text = letters_in l.left in
    let rest = letters_in c.in-Some.rest in
    let item = c.in-Some.item in
    let r = read_item (0, 0) item.role item.takes rest (first_item l.in_group text) c.in-Some.ensures.is in
    let stays = c.stays_in-in_group.result in
    let on = c.stays_in-in_group.ensures r.0 r.1.1 in
    let next = items_in stays rest in
    let here = items_more l.in_group text rest r.0 r.1.0 ∙ ap (λ g. r.0 ∷ items_in g rest) (sym on) in
    let len = ap length here in
    let set = length-set l.roles l.place item.role in
    let at = l.invariant.at ∙ here in
    record {
      few = omega (arith, l.invariant.few, c.if-place-eq-WORD_LIMIT.false);
      whole = set ∙ l.invariant.whole;
      all = omega (arith, len, l.invariant.all);
      at = (drop_one l.place all r.0 next at).1;
      left = ap (λ g. no_item_in g rest) on ∙ sym (left_more l.in_group text rest r.0 r.1.0) ∙ l.invariant.left;
      roles = role_more all next r.0 l.place l.roles item.role at (omega (arith, l.invariant.whole, l.invariant.few)) r.1.1 l.invariant.roles;
    }

pub returns-then-place-eq-WORD_LIMIT-clause-long : goal.returns-then-place-eq-WORD_LIMIT-clause-long
returns-then-place-eq-WORD_LIMIT-clause-long c is =
    let l = c.loop-item in
    let rest = letters_in c.in-Some.rest in
    let item = c.in-Some.item in
    let r = read_item (0, 0) item.role item.takes rest (first_item l.in_group (letters_in l.left)) c.in-Some.ensures.is in
    let len = ap length (items_more l.in_group (letters_in l.left) rest r.0 r.1.0) in
    omega (arith, len, l.invariant.all, c.if-place-eq-WORD_LIMIT.true)

pub returns-then-in_group-clause-malformed : goal.returns-then-in_group-clause-malformed
returns-then-in_group-clause-malformed c is none =
    let l = c.loop-item in
    let text = letters_in l.left in
    let over = all_left_over l.in_group text (read_none (0, 0) (first_item l.in_group text) c.in_default.ensures.is) in
    let group = ap (λ g. unread g text) c.if-in_group.true in
    let len = ap length (sym group ∙ sym over ∙ l.invariant.left ∙ none) in
    absurd (omega (arith, len))
