use Rattle.std.proofs.Common.{◌≡◌, ◌∙◌, arith, length, refl}
use Rattle.std.proofs.lemmas.Grind.{common_steps}
use Rattle.zerotrie_core.proofs.ListingLemmas.Left.{copied}
use Rattle.zerotrie_core.proofs.stream.push_some.Goals as goal

pub returns : goal.returns
returns g c =
    let here = c.args.here in
    let key = c.args.key.now.items in
    let len : c.len-len.result ≡ length key = grind (arith, common_steps) in (
      c.after.ensures,
      copied here.rest.now here.tail.now key c.truncate.new.self.items c.split_at.result.0.now c.args.count here.lies c.split_at.ensures.front c.requires.most c.requires.within
          (c.truncate.ensures.items ∙ rw (len, c.in_ok-extend_from_slice.ensures.items) refl),
    )
