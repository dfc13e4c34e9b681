use Rattle.std.proofs.Common.{◌≡◌, ℕ, ◌<◌, true, None}
use Rattle.std.specs.Prelude.{IfSome}
use Rattle.std.specs.Io.Buffered.{writer_contents}
use Rattle.std.specs.Io.KnownBytes.{IsAtEnd}
use Rattle.zerotrie_queries.specs.Finders.{Finds}
use Rattle.zerotrie_lines.specs.Blocks.{HasFeed}
use Rattle.zerotrie_files.specs.Notes.{SameNotes}
use Rattle.zerotrie_making.specs.Others.{IsOther}
use Rattle.zerotrie_run.specs.Runs.{HandsOn}
use Rattle.zerotrie_run.proofs.LineLemmas.{LinesAnswered}
use Rattle.zerotrie_run.proofs.stdin_lines.answer_lines.Given as goal

abbrev pub invariant-loop : goal.invariant-loop
invariant-loop g l =
    let remaining = g.R.Read.remaining in
    let contents = writer_contents g.W.Write.contents in record {
      lines : LinesAnswered l.query (Finds l.finder l.query.asked) (remaining l.fn.input.inner) (remaining l.input.inner) l.held.items
          (contents l.fn.output.inner) (contents l.output.inner) l.all l.first;
      no_other : IfSome (remaining l.fn.input.inner) (λ known. IsOther known None);
      at_end : l.ended ≡ true → IsAtEnd (remaining l.input.inner);
      handed : HandsOn l.fn.output.inner l.output.inner;
      notes : SameNotes l.fn.input l.input l.fn.output l.output;
      no_feed : (k : ℕ) → k < l.before → HasFeed l.held.items k → ⊥;
    }
