use Rattle.zerotrie_run.proofs.messages.pairs.json_words.Goals as goal

pub returns : goal.returns
returns c = rw (c.as_bytes.ensures.value, c.in_ok-words.ensures.ok, c.json_hint-hint.ensures) at c.from_slice.ensures.items
