use Rattle.std.proofs.Common.{rules, ◌≡◌, ◌≤◌, ◌+◌, ◌-◌, ◌++◌, length, take, drop, sym, ap, ◌∙◌, arith, append_assoc}
use Rattle.std.proofs.lemmas.List.{length-take-le, take-append-drop, take-append-le}
use Rattle.std.proofs.Math.Seq.{take-append-add}
use Rattle.zerotrie_lines.proofs.copies.push_parts.Goals as goal

pub returns : goal.returns
returns g c =
    let out = c.args.output.now.items in
    let bytes = c.args.bytes.now in
    let n = g.row.N in
    let m = length bytes - n in
    let least = c.requires.least in
    let most = c.requires.most in
    let first : c.extend_from_slice.new.self.items ≡ out ++ take n bytes = c.in_ok-extend_from_slice.ensures.items ∙ ap (λ x. out ++ x) c.split_at.ensures.front in
    let before : c.len.result ≡ length out = search rules in
    let front = c.split_at-2.ensures.front_len in
    let end : c.len.result + length c.split_at-2.result.0.now ≡ length out + m = omega arith in
    let inner : m ≤ length (take n bytes) = (let l = length-take-le n bytes least in omega arith) in
    let same : take m (take n bytes) ≡ take m bytes = sym (take-append-le m (take n bytes) (drop n bytes) inner) ∙ ap (take m) (take-append-drop n bytes) in
    let cut : c.truncate.new.self.items ≡ out ++ take m bytes =
    c.truncate.ensures.items ∙ ap (λ k. take k c.extend_from_slice.new.self.items) end ∙ ap (take (length out + m)) first ∙ take-append-add out (take n bytes) m ∙ ap (λ x. out ++ x) same in
    let kept : c.truncate.new.self.items ++ c.split_at-2.result.1.now ≡ out ++ bytes =
    ap (λ x. x ++ c.split_at-2.result.1.now) cut ∙ ap (λ x. (out ++ take m bytes) ++ x) c.split_at-2.ensures.back ∙ append_assoc out (take m bytes) (drop m bytes) ∙ ap (λ x. out ++ x) (take-append-drop m bytes) in
    search (kept, rules)
