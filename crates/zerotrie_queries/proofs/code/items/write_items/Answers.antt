use Rattle.std.proofs.Common.{rules, ◌≡◌, ℕ, ◌+◌, ◌<◌, List, ◌++◌, ◌∙◌, drop, get_or, length, sym, ap, arith}
use Rattle.std.proofs.lemmas.List.{drop_more}
use Rattle.zerotrie_files.specs.Parts.{AppendsPart}
use Rattle.zerotrie_files.proofs.WroteLemmas.{Wrote, wrote_more}
use Rattle.zerotrie_queries.proofs.PartLemmas.{part_next}
use Rattle.zerotrie_queries.specs.code.Items.{before_item, item_number, items}
use Rattle.zerotrie_queries.proofs.code.items.write_items.Goals.{After-item_number}
use Rattle.zerotrie_queries.proofs.code.items.write_items.Goals as goal

-- the items from one on, after what stands in front of it
abbrev after_blank : List ℕ → ℕ → List ℕ
after_blank bytes i = item_number (get_or bytes i 0) ++ items (i + 1) (drop (i + 1) bytes)

blank_first : (bytes blank : List ℕ) (i : ℕ) → i < length bytes → blank ≡ before_item i → items i (drop i bytes) ≡ blank ++ after_blank bytes i
blank_first bytes blank i inside is = ap (items i) (drop_more bytes i 0 inside) ∙ ap (λ l. l ++ after_blank bytes i) (sym is)

blank_wrote : (g : _) (c : After-item_number g) → Wrote (g.W.Write.contents c.args.output.now.inner) (g.W.Write.contents c.write_bytes.new.self.inner) (after_blank c.args.bytes.now c.loop-index.index) (items 0 c.args.bytes.now)
blank_wrote g c =
    let contents = g.W.Write.contents in
    let bytes = c.args.bytes.now in
    let i = c.loop-index.index in
    wrote_more (contents c.args.output.now.inner) (contents c.loop-index.output.inner) (contents c.write_bytes.new.self.inner) c.as_bytes.result.now
    (items i (drop i bytes)) (after_blank bytes i) (items 0 bytes) c.loop-index.invariant.0 c.in_ok-write_bytes.ensures.all
    (blank_first bytes c.as_bytes.result.now i (omega arith) (c.as_bytes.ensures.value ∙ c.before_item.ensures))

pub loop-index-preserved : goal.loop-index-preserved
loop-index-preserved g c =
    let contents = g.W.Write.contents in
    let bytes = c.args.bytes.now in
    let i = c.loop-index.index in
    let left = items (i + 1) (drop (i + 1) bytes) in (
      wrote_more (contents c.args.output.now.inner) (contents c.write_bytes.new.self.inner) (contents c.write_bytes-in-loop-index.new.self.inner) c.item_number.result
          (after_blank bytes i) left (items 0 bytes) (blank_wrote g (goal.at.loop-index-preserved g c).After-item_number) c.in_ok-write_bytes-2.ensures.all
          (ap (λ l. l ++ left) (sym c.item_number.ensures)),
      c.in_ok-write_bytes-2.ensures.noted ∙ c.in_ok-write_bytes.ensures.noted ∙ c.loop-index.invariant.1,
    )

pub returns-in_err-write_bytes-clause-part : goal.returns-in_err-write_bytes-clause-part
returns-in_err-write_bytes-clause-part g c =
    let contents = g.W.Write.contents in
    let bytes = c.args.bytes.now in
    let i = c.loop-index.index in
    let part : AppendsPart (contents c.args.output.now.inner) (contents c.write_bytes.new.self.inner) (items 0 bytes) =
    part_next (contents c.args.output.now.inner) (contents c.loop-index.output.inner) (contents c.write_bytes.new.self.inner) c.as_bytes.result.now
    (after_blank bytes i) (items i (drop i bytes)) (items 0 bytes) c.loop-index.invariant.0 c.in_err-write_bytes.ensures.part
    (blank_first bytes c.as_bytes.result.now i (omega arith) (c.as_bytes.ensures.value ∙ c.before_item.ensures)) in
    search (rules, part)

pub returns-in_err-write_bytes-2-clause-part : goal.returns-in_err-write_bytes-2-clause-part
returns-in_err-write_bytes-2-clause-part g c =
    let contents = g.W.Write.contents in
    let bytes = c.args.bytes.now in
    let i = c.loop-index.index in
    let left = items (i + 1) (drop (i + 1) bytes) in
    let part : AppendsPart (contents c.args.output.now.inner) (contents c.write_bytes-in-loop-index.new.self.inner) (items 0 bytes) =
    part_next (contents c.args.output.now.inner) (contents c.write_bytes.new.self.inner) (contents c.write_bytes-in-loop-index.new.self.inner) c.item_number.result
    left (after_blank bytes i) (items 0 bytes) (blank_wrote g (goal.at.returns-in_err-write_bytes-2-clause-part g c).After-item_number) c.in_err-write_bytes-2.ensures.part
    (ap (λ l. l ++ left) (sym c.item_number.ensures)) in
    search (rules, part)
