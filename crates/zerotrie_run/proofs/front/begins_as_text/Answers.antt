use Rattle.std.proofs.Common.{◌∙◌, sym}
use Rattle.zerotrie_run.proofs.FrontLemmas.{long_text, short_text}
use Rattle.zerotrie_run.proofs.front.begins_as_text.Goals as goal

pub returns-then-held-gt-FRONT_LEN : goal.returns-then-held-gt-FRONT_LEN
returns-then-held-gt-FRONT_LEN c = c.is_cut_text.ensures ∙ sym (long_text c.args.held.now c.if-held-gt-FRONT_LEN.true)

pub returns-else-held-gt-FRONT_LEN : goal.returns-else-held-gt-FRONT_LEN
returns-else-held-gt-FRONT_LEN c = c.looks_like_text.ensures ∙ sym (short_text c.args.held.now c.if-held-gt-FRONT_LEN.false)
