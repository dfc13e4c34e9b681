use Rattle.zerotrie_run.proofs.messages.ask.unprintable.Goals as goal

pub returns : goal.returns
returns c = rw (c.as_slice.ensures.value, c.in_ok-words.ensures, c.unprintable_words.ensures) at c.line_on.ensures
