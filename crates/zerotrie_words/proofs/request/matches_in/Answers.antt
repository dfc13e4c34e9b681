use Rattle.std.proofs.Common.{map}
use Rattle.std.specs.Prelude.{string_bytes}
use Rattle.clap.specs.Words.{app_of}
use Rattle.zerotrie_words.proofs.ReadLemmas.{fault_said, found_in, memory_fault}
use Rattle.zerotrie_words.proofs.request.matches_in.Goals as goal

pub returns-in_err-known-clause-refused : goal.returns-in_err-known-clause-refused
returns-in_err-known-clause-refused c = memory_fault (map (λ word. string_bytes word) c.args.words.now)
    c.from_residual.result c.from_residual.ensures.1

pub returns-in-Ok-clause-found : goal.returns-in-Ok-clause-found
returns-in-Ok-clause-found c = found_in (app_of c.in_ok-known.known) _ (map (λ word. string_bytes word) c.args.words.now) c.in-Ok.matches
    c.in_ok-known.ensures c.commands-rows.ensures c.in-Ok.ensures.matches c.in-Ok.ensures.kinds

pub returns-in-Err-clause-refused : goal.returns-in-Err-clause-refused
returns-in-Err-clause-refused c = fault_said (app_of c.in_ok-known.known) _ (map (λ word. string_bytes word) c.args.words.now)
    c.in-Err.error c.reply_to.result c.in_ok-known.ensures c.commands-rows.ensures c.in-Err.ensures.kinds c.in-Err.ensures.passes c.reply_to.ensures
