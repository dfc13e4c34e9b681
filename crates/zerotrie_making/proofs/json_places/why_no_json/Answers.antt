use Rattle.std.proofs.Common.{take}
use Rattle.zerotrie_making.specs.Places.{line_after, column_after}
use Rattle.zerotrie_making.proofs.PlaceLemmas.{place_at}
use Rattle.zerotrie_making.proofs.json_places.why_no_json.Goals as goal

pub returns : goal.returns
returns c =
    let text = c.args.text.now in
    let place = c.in_ok-place.place in
    (line_after (take place text), column_after (take place text), rw c.as_bytes.ensures.value at c.not_json.ensures, place_at text place)
