use Rattle.std.proofs.Common.{true, false}
use Rattle.std.proofs.lemmas.Option.{IfSome_then}
use Rattle.std.proofs.lemmas.Result.{IfOk-weaker}
use Rattle.zerotrie_lines.specs.Reads.{first_number}
use Rattle.zerotrie_lines.specs.Tables.{pairs_of}
use Rattle.zerotrie_lines.proofs.ReadLemmas.{items_none, items_read}
use Rattle.zerotrie_lines.proofs.items.items_of_tabbed.Goals as goal

pub returns-then-raw : goal.returns-then-raw
returns-then-raw c =
    let form = c.args.form in record {
      reads = IfOk-weaker c.items_of_raw.result _ _ (λ items h. IfSome_then items h (λ list reads.
          items_read true c.args.raw form.header form.end c.args.input.now _ (pairs_of list.items) c.if-raw.true c.in-Absent.is (c.pair_text-text.ensures form.end) (reads (first_number form.header)))) c.items_of_raw.ensures.reads;
      none = IfOk-weaker c.items_of_raw.result _ _ (λ items h.
          items_none items true c.args.raw form.header form.end c.args.input.now _ c.if-raw.true c.in-Absent.is (c.pair_text-text.ensures form.end) h) c.items_of_raw.ensures.none;
    }

pub returns-else-raw : goal.returns-else-raw
returns-else-raw c =
    let form = c.args.form in record {
      reads = IfOk-weaker c.items_of_tsv.result _ _ (λ items h. IfSome_then items h (λ list reads.
          items_read false c.args.raw form.header form.end c.args.input.now _ (pairs_of list.items) c.if-raw.false c.in-Absent.is (c.pair_text-text.ensures form.end) (reads (first_number form.header)))) c.items_of_tsv.ensures.reads;
      none = IfOk-weaker c.items_of_tsv.result _ _ (λ items h.
          items_none items false c.args.raw form.header form.end c.args.input.now _ c.if-raw.false c.in-Absent.is (c.pair_text-text.ensures form.end) h) c.items_of_tsv.ensures.none;
    }
