use Rattle.std.proofs.Common.{rules, arith}
use Rattle.zerotrie_lines.proofs.PlainLemmas.{ends_all}
use Rattle.zerotrie_lines.proofs.plain.are_few_plain.Goals as goal

pub returns-then-bytes-ge8 : goal.returns-then-bytes-ge8
returns-then-bytes-ge8 c = let e = ends_all c.args.bytes.now (omega arith) (omega arith) in search rules
