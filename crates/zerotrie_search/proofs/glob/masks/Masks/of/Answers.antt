use Rattle.std.proofs.Common.{◌∙◌, sym}
use Rattle.zerotrie_search.specs.Globs.{cased, items}
use Rattle.zerotrie_search.specs.GlobMasks.{letters_in}
use Rattle.zerotrie_search.proofs.CaseLemmas.{length_cased, roles_cased}
use Rattle.zerotrie_search.proofs.glob.masks.Masks.of.Goals as goal

pub returns-clause-ok : goal.returns-clause-ok
returns-clause-ok c =
    let any = c.args.any_case in
    let all = items (letters_in c.args.pattern) in
    let read = c.in_ok-roles.ensures.ok in
    let len = length_cased any all in
    let roles = roles_cased any all c.in_ok-roles.roles read.0 in
    let led = c.followers_of-first.ensures in (
      record {
        takers = c.all_takers_of.ensures.are;
        followers = led.are (cased any all) (len ∙ sym read.1) roles;
        first = led.first (cased any all) (len ∙ sym read.1) roles;
        last = read.1 ∙ sym len;
      },
      read.4,
    )
