use Rattle.std.proofs.Common.{◌∙◌, ◌+◌, ◌∷◌, drop, ap}
use Rattle.std.specs.Prelude.{◌||◌}
use Rattle.zerotrie_search.specs.Globs as glob
use Rattle.zerotrie_search.specs.GlobMasks.{any_match, takes_on}
use Rattle.zerotrie_search.specs.declared.glob.pattern.Role.TheVariants.{Many, Group, Comma, End, Letter}
use Rattle.zerotrie_search.proofs.MarkLemmas.{no_marks, both_marks, marked_on, all_by, others_by, behind_by}
use Rattle.zerotrie_search.proofs.glob.masks.before.Goals as goal

pub returns-in-Many : goal.returns-in-Many
returns-in-Many c i all key at is so_far =
    let p = c.args.place in
    let more = drop (p + 1) all in
    let known = is ∙ c.in-Many.is in
    let m = c.marked in
    record {
      all = marked_on p c.args.ahead.all m.result i all more key at m.ensures.same m.ensures.other ∙ ap (λ x. x || takes_on (i ∷ more) key) so_far.all ∙ all_by Many i more key known;
      others = so_far.others ∙ others_by Many i more key known;
      behind = so_far.behind ∙ behind_by Many i more key known;
    }

pub returns-in-Letter : goal.returns-in-Letter
returns-in-Letter c i all key at is so_far =
    let p = c.args.place in
    let more = drop (p + 1) all in
    let known = is ∙ c.in-Letter.is in
    let m = c.marked-in-Letter in
    record {
      all = marked_on p 0 m.result i all more key at m.ensures.same m.ensures.other ∙ ap (λ x. x || takes_on (i ∷ more) key) (no_marks 0 all key) ∙ all_by Letter i more key known;
      others = so_far.others ∙ others_by Letter i more key known;
      behind = so_far.behind ∙ behind_by Letter i more key known;
    }

pub returns-in-Group : goal.returns-in-Group
returns-in-Group c i all key at is so_far =
    let more = drop (c.args.place + 1) all in
    let known = is ∙ c.in-Group.is in
    let ahead = c.args.ahead in
    record {
      all = both_marks ahead.all ahead.others 0 all key ∙ ap (λ x. x || any_match ahead.others 0 all key) so_far.all ∙ ap (λ x. glob.matches more key || x) so_far.others ∙ all_by Group i more key known;
      others = so_far.others ∙ others_by Group i more key known;
      behind = so_far.behind ∙ behind_by Group i more key known;
    }

pub returns-in-Comma : goal.returns-in-Comma
returns-in-Comma c i all key at is so_far =
    let more = drop (c.args.place + 1) all in
    let known = is ∙ c.in-Comma.is in
    let ahead = c.args.ahead in
    record {
      all = so_far.behind ∙ all_by Comma i more key known;
      others = both_marks ahead.all ahead.others 0 all key ∙ ap (λ x. x || any_match ahead.others 0 all key) so_far.all ∙ ap (λ x. glob.matches more key || x) so_far.others ∙ others_by Comma i more key known;
      behind = so_far.behind ∙ behind_by Comma i more key known;
    }

pub returns-in-End : goal.returns-in-End
returns-in-End c i all key at is so_far =
    let more = drop (c.args.place + 1) all in
    let known = is ∙ c.in-End.is in
    record {
      all = so_far.all ∙ all_by End i more key known;
      others = no_marks 0 all key ∙ others_by End i more key known;
      behind = so_far.all ∙ behind_by End i more key known;
    }
