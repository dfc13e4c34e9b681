use Rattle.std.proofs.Common.{refl, inl, inr}
use Rattle.std.proofs.lemmas.Str.{IsUtf8-from_ascii}
use Rattle.zerotrie_c.proofs.FrontLemmas.{high_or_low}
use Rattle.zerotrie_c.proofs.entries.text_of.Goals as goal

pub returns-in-Err-clause-refused : goal.returns-in-Err-clause-refused
returns-in-Err-clause-refused c = elim (high_or_low c.args.bytes.now) [
  | inl any ↦ (refl, any)
  | inr low ↦ absurd (c.in-Err.ensures.cases.0 (IsUtf8-from_ascii c.args.bytes.now low))
]
