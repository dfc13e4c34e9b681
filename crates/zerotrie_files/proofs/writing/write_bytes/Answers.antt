use Rattle.std.proofs.Common.{◌≡◌, ◌++◌, refl, sym, [], ◌∙◌, ap, take, drop, take-append-drop}
use Rattle.std.specs.Io.KnownBytes.{Keeps}
use Rattle.std.proofs.KnownBytes.{Appends-nil}
use Rattle.zerotrie_files.proofs.WroteLemmas.{wrote_more, wrote_kept}
use Rattle.zerotrie_files.proofs.writing.write_bytes.Goals.{in-Ok, in-Err}
use Rattle.zerotrie_files.proofs.writing.write_bytes.Goals as goal

pub loop-init : goal.loop-init
loop-init g c = record { done = []; appends = Appends-nil (g.W.Write.contents c.args.output.now); is = refl }

pub loop-preserved : goal.loop-preserved
loop-preserved g c = elim c.match-write.branch [
  | in-Ok w ↦
      let contents = g.W.Write.contents in
      let count = w.in-Ok.count in
      let rest = c.loop.rest.now in
      let left : c.match-write.rest.now ≡ drop count rest = ap (λ r. r.now) w.rest-is ∙ w.split_at.ensures.back in
      wrote_more (contents c.args.output.now) (contents c.loop.output) (contents c.write.new.self) (take count rest) rest c.match-write.rest.now c.args.bytes.now
      c.loop.invariant w.in-Ok.ensures.bytes (sym (take-append-drop count rest) ∙ ap (λ l. take count rest ++ l) (sym left))
  | in-Err w ↦
      let contents = g.W.Write.contents in
      let kept : Keeps (contents c.loop.output) (contents c.write.new.self) = w.in-Err.ensures.bytes in
      wrote_kept (contents c.args.output.now) (contents c.loop.output) (contents c.write.new.self) c.loop.rest.now c.match-write.rest.now c.args.bytes.now
      c.loop.invariant kept (ap (λ r. r.now) w.rest-is)
]
