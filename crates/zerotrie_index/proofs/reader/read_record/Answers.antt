use Rattle.std.proofs.Common.{rules, ◌≡◌, ◌++◌, subst, sym, length, ◌∙◌}
use Rattle.zerotrie_index.specs.Layout.{AreRecords}
use Rattle.zerotrie_index.proofs.RecordLemmas.{cut_at, not_shorter}
use Rattle.zerotrie_index.proofs.reader.read_record.Goals as goal

pub returns-in_err-len-clause-first : goal.returns-in_err-len-clause-first
returns-in_err-len-clause-first c e pairs h = absurd (c.in_err-len.ensures.first (length e.0) h.0 h.2)

pub returns-in_err-value-clause-first : goal.returns-in_err-value-clause-first
returns-in_err-value-clause-first c e pairs h =
    let len = c.in_ok-len.ensures.first (length e.0) h.0 h.2 in
    absurd (c.in_err-value.ensures.first e.1 (e.0 ++ h.1) h.3 (len.1 ∙ h.4))

pub returns-in_err-key-clause-first : goal.returns-in_err-key-clause-first
returns-in_err-key-clause-first c e pairs h =
    let len = c.in_ok-len.ensures.first (length e.0) h.0 h.2 in
    let value = c.in_ok-value.ensures.first e.1 (e.0 ++ h.1) h.3 (len.1 ∙ h.4) in
    absurd (not_shorter c.in_ok-len.len c.in_ok-value.rest.now e.0 h.1 value.1 len.0 (search rules))

pub returns-clause-first : goal.returns-clause-first
returns-clause-first c e pairs h =
    let len = c.in_ok-len.ensures.first (length e.0) h.0 h.2 in
    let value = c.in_ok-value.ensures.first e.1 (e.0 ++ h.1) h.3 (len.1 ∙ h.4) in
    let cut = cut_at c.in_ok-len.len c.in_ok-value.rest.now e.0 h.1 value.1 len.0 in
    let fits : c.in_ok-value-2.value ≡ c.in_ok-value.value = search rules in
    (c.in_ok-key.ensures.cases.1 ∙ cut.0, fits ∙ value.0, subst (AreRecords pairs) (sym (c.in_ok-key.ensures.cases.2 ∙ cut.1)) h.5)
