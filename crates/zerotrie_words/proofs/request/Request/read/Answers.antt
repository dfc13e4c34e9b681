use Rattle.std.proofs.Common.{map, rules}
use Rattle.std.specs.Prelude.{string_bytes}
use Rattle.zerotrie_words.proofs.ReadLemmas.{fault_refused, found_no_request, memory_refused, request_of}
use Rattle.zerotrie_words.proofs.request.Request.read.Goals as goal

pub returns-in_err-matches-clause-refused : goal.returns-in_err-matches-clause-refused
returns-in_err-matches-clause-refused c =
    fault_refused (map (λ word. string_bytes word) c.args.words.now) _
    c.from_residual.result c.from_residual.ensures.1 c.in_err-matches.ensures.refused

pub returns-in_err-page-clause-refused : goal.returns-in_err-page-clause-refused
returns-in_err-page-clause-refused c =
    memory_refused (map (λ word. string_bytes word) c.args.words.now)
    c.from_residual-in_err-page.result c.from_residual-in_err-page.ensures.1

pub returns-in-Some-clause-refused : goal.returns-in-Some-clause-refused
returns-in-Some-clause-refused c =
    found_no_request (map (λ word. string_bytes word) c.args.words.now) _ c.in_ok-matches.matches
    c.in_ok-matches.ensures.found (search rules)

pub returns-in_default-task_in-clause-refused : goal.returns-in_default-task_in-clause-refused
returns-in_default-task_in-clause-refused c =
    found_no_request (map (λ word. string_bytes word) c.args.words.now) _ c.in_ok-matches.matches
    c.in_ok-matches.ensures.found (search rules)

pub returns-in_err-keys-in-Ask-clause-refused : goal.returns-in_err-keys-in-Ask-clause-refused
returns-in_err-keys-in-Ask-clause-refused c =
    memory_refused (map (λ word. string_bytes word) c.args.words.now)
    c.from_residual-in_err-keys-in-Ask.result c.from_residual-in_err-keys-in-Ask.ensures.1

pub returns-clause-request : goal.returns-clause-request
returns-clause-request c =
    request_of (map (λ word. string_bytes word) c.args.words.now) _ _ c.in_ok-matches.matches
    c.in_ok-matches.ensures.found (search rules)

pub returns-in_err-places-clause-refused : goal.returns-in_err-places-clause-refused
returns-in_err-places-clause-refused c =
    memory_refused (map (λ word. string_bytes word) c.args.words.now)
    c.from_residual-in_err-places.result c.from_residual-in_err-places.ensures.1
