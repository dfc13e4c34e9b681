use Rattle.std.proofs.Common.{◌≡◌, ◌++◌, ◌∷◌, [], drop}
use Rattle.json.specs.Print.{escape, quoted}
use Rattle.zerotrie_lines.proofs.strings.write_quoted.Given as goal

abbrev pub invariant-loop-byte : goal.invariant-loop-byte
invariant-loop-byte l = l.output.items ++ (escape (drop l.byte-index l.text) ++ 34 ∷ []) ≡ l.fn.output.items ++ quoted l.text
