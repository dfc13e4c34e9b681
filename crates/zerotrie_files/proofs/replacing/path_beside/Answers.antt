use Rattle.std.proofs.Common.{◌≡◌, ◌∙◌, ◌++◌, sym, ap, subst, codes, string_bytes}
use Rattle.std.proofs.lemmas.Result.{IfOk-weaker}
use Rattle.zerotrie_files.specs.Stores.{own_name, IsOwnPath}
use Rattle.zerotrie_files.proofs.NameLemmas.{own_alone, own_in_folder, own_is_another}
use Rattle.zerotrie_files.proofs.replacing.path_beside.Goals as goal

pub returns-in-None-clause-exact : goal.returns-in-None-clause-exact
returns-in-None-clause-exact c = IfOk-weaker c.own_name.result _ _ (λ s is. rw is (own_alone c.args.path.now c.args.process c.args.number c.in-None.ensures.cases)) c.own_name.ensures

pub returns-in-None-clause-another : goal.returns-in-None-clause-another
returns-in-None-clause-another c = IfOk-weaker c.own_name.result _ _ (λ s. own_is_another c.args.path.now (string_bytes s) c.args.process c.args.number) (returns-in-None-clause-exact c)

pub returns-in_ok-own-in-Some-clause-exact : goal.returns-in_ok-own-in-Some-clause-exact
returns-in_ok-own-in-Some-clause-exact c =
    let own : string_bytes c.in_ok-own-in-Some.own ≡ own_name c.in-Some.name.now c.args.process c.args.number = c.in_ok-own-in-Some.ensures in
    IfOk-weaker c.path_in.result _ _
    (λ s is. subst (IsOwnPath c.args.path.now c.args.process c.args.number) (sym (is ∙ ap (λ n. c.in-Some.folder.now ++ codes "/" ++ n) (c.as_str.ensures.value ∙ own)))
    (own_in_folder c.args.path.now c.in-Some.folder.now c.in-Some.name.now c.args.process c.args.number c.in-Some.ensures.cases))
    c.path_in.ensures

pub returns-in_ok-own-in-Some-clause-another : goal.returns-in_ok-own-in-Some-clause-another
returns-in_ok-own-in-Some-clause-another c =
    IfOk-weaker c.path_in.result _ _ (λ s. own_is_another c.args.path.now (string_bytes s) c.args.process c.args.number) (returns-in_ok-own-in-Some-clause-exact c)
