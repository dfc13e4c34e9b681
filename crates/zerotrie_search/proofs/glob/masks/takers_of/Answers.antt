use Rattle.std.proofs.Common.{◌∙◌, ◌∷◌, ap, sym, arith, length}
use Rattle.std.specs.Prelude.{if◌then◌else◌}
use Rattle.zerotrie_search.specs.Globs.{cased, items, items_in, first_item}
use Rattle.zerotrie_search.specs.GlobMasks.{letters_in, cases, read, taken_at}
use Rattle.zerotrie_search.proofs.CaseLemmas.{item_in, takes_cases, cased_more, length_cased}
use Rattle.zerotrie_search.proofs.GlobLemmas.{read_item, read_none, no_items, items_more}
use Rattle.zerotrie_search.proofs.MarkLemmas.{drop_one, bit_more, bits_none, takers_known}
use Rattle.zerotrie_search.proofs.glob.masks.takers_of.Goals as goal

pub loop-item-preserved : goal.loop-item-preserved
loop-item-preserved c =
    let l = c.loop-item in
    let any = c.args.any_case in
    let all = items (letters_in c.args.pattern) in
    let rest = letters_in c.in-Some.rest in
    let item = c.in-Some.item in
    let b = c.args.letter in
    let both = cases any b in
    let first = first_item l.in_group (letters_in l.left) in
    let here = read_item both item.role item.takes rest first (c.in-Some.ensures.is ∙ ap (λ x. read x first) c.cases-letters.ensures) in
    let on = c.stays_in-in_group.ensures here.0 here.1.1 in
    let more = items_more l.in_group (letters_in l.left) rest here.0 here.1.0 ∙ ap (λ g. here.0 ∷ items_in g rest) (sym on) in
    let next = items_in c.stays_in-in_group.result rest in
    let len = ap length more in
    let at = l.invariant.at ∙ ap (cased any) more ∙ cased_more any here.0 next in
    record {
      few = omega (arith, len, l.invariant.all, c.requires);
      all = omega (arith, len, l.invariant.all);
      at = (drop_one l.place (cased any all) (item_in any here.0) (cased any next) at).1;
      takers = bit_more (λ is. taken_at is b) (cased any all) (cased any next) (item_in any here.0) l.place l.takers at l.invariant.takers l.invariant.none c.marked_if-takers.result item.takes
          (ap (λ m. if m then 1 else 0) (sym (takes_cases any here.0 b) ∙ here.1.2)) c.marked_if-takers.ensures.same c.marked_if-takers.ensures.other;
      none = bits_none l.place l.takers c.marked_if-takers.result l.invariant.none c.marked_if-takers.ensures.other;
    }

pub returns : goal.returns
returns c =
    let l = c.loop-item in
    let any = c.args.any_case in
    let b = c.args.letter in
    let all = items (letters_in c.args.pattern) in
    let first = first_item l.in_group (letters_in l.left) in
    let none = ap length (no_items l.in_group (letters_in l.left) (read_none (cases any b) first (c.in_default.ensures.is ∙ ap (λ x. read x first) c.cases-letters.ensures))) in
    let len = length_cased any all in
    takers_known b l.place l.takers (cased any all) (omega (arith, none, len, l.invariant.all)) l.invariant.takers l.invariant.none
