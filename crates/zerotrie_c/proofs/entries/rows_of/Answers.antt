use Rattle.std.proofs.Common.{◌∙◌, ◌-◌, ap, arith, sym, subst, get_or}
use Rattle.std.proofs.lemmas.Result.{err_from_is_err_and}
use Rattle.zerotrie.specs.dense.Views.{rows_in}
use Rattle.zerotrie_c.specs.Entries.{entries_of, entry_before, rows_of, NoRows}
use Rattle.zerotrie_c.specs.Keys.{keys_from}
use Rattle.zerotrie_c.proofs.EntryLemmas.{length-keys_from, entry_below, no_entries, refused_all}
use Rattle.zerotrie_c.proofs.entries.rows_of.Goals as goal

pub loop-number-init : goal.loop-number-init
loop-number-init c =
    let P = keys_from 0 c.args.prefixes.bytes.now c.args.prefixes.ends.now in
    let S = keys_from 0 c.args.suffixes.bytes.now c.args.suffixes.ends.now in
    let lp = length-keys_from 0 c.args.prefixes.bytes.now c.args.prefixes.ends.now in
    let ls = length-keys_from 0 c.args.suffixes.bytes.now c.args.suffixes.ends.now in (
      ap rows_in c.new-rows.ensures.empty ∙ sym (ap rows_of (no_entries c.min-count.result P S c.args.values.now
          (λ p s v. omega (arith, c.min.ensures, c.min-count.ensures, lp, ls, p, s, v)))),
      omega arith,
    )

pub loop-number-preserved : goal.loop-number-preserved
loop-number-preserved c =
    let P = keys_from 0 c.args.prefixes.bytes.now c.args.prefixes.ends.now in
    let S = keys_from 0 c.args.suffixes.bytes.now c.args.suffixes.ends.now in
    let n = c.loop-number.number in
    let p = c.key_at-prefix.result.now in
    let s = c.key_at-suffix.result.now in
    let next = entry_below n P S c.args.values.now p s (omega (arith, c.loop-number-test.true)) (omega (arith, c.loop-number.invariant.1, c.min-count.ensures)) c.key_at-prefix.ensures c.key_at-suffix.ensures in (
      c.in_ok-put_texts.ensures.put ∙ ap (entry_before (p, s, get_or c.args.values.now (n - 1) 0)) c.loop-number.invariant.0 ∙ sym (ap rows_of next),
      omega (arith, c.loop-number.invariant.1),
    )

pub returns-in_err-put_texts-clause-refused : goal.returns-in_err-put_texts-clause-refused
returns-in_err-put_texts-clause-refused c =
    let same = err_from_is_err_and c.from_residual.result c.from_residual.ensures.1 in
    let P = keys_from 0 c.args.prefixes.bytes.now c.args.prefixes.ends.now in
    let S = keys_from 0 c.args.suffixes.bytes.now c.args.suffixes.ends.now in
    let n = c.loop-number.number in
    let p = c.key_at-prefix.result.now in
    let s = c.key_at-suffix.result.now in
    let why = c.in_err-put_texts.field-0.0 in
    let next = entry_below n P S c.args.values.now p s (omega (arith, c.loop-number-test.true)) (omega (arith, c.loop-number.invariant.1, c.min-count.ensures)) c.key_at-prefix.ensures c.key_at-suffix.ensures in
    rw (same.1, same.2) (refused_all (n - 1) (entries_of P S c.args.values.now) why
    (subst (λ es. NoRows (rows_of es) why) (sym next)
    (subst (λ rows. NoRows (entry_before (p, s, get_or c.args.values.now (n - 1) 0) rows) why) c.loop-number.invariant.0 c.in_err-put_texts.ensures.refused)))
