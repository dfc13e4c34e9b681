use Rattle.std.proofs.Common.{rules, ◌≡◌, ◌∙◌, ◌+◌, ◌<◌, ◌^◌, ◌==◌, true, false, length, get_or, arith, refl, sym}
use Rattle.std.proofs.lemmas.Bool.{ne_eqb}
use Rattle.zerotrie_making.specs.Places.{begins_character}
use Rattle.zerotrie_making.proofs.PlaceLemmas.{line_feed, line_on, column_feed, column_more, column_same, line_low, column_low}
use Rattle.zerotrie_making.proofs.json_places.line_and_column.Goals.{then-byte-eq10, else-byte-eq10+then-begins_character, else-byte-eq10+else-begins_character}
use Rattle.zerotrie_making.proofs.json_places.line_and_column.Goals as goal

pub loop-byte-preserved : goal.loop-byte-preserved
loop-byte-preserved c =
    let front = c.args.front.now in
    let i = c.loop-byte.byte-index in
    let below = c.loop-byte-test.true in
    let had = c.loop-byte.invariant in
    let room : length front + 1 < 2 ^ 64 = search rules in elim c.if-byte-eq10.branch [
      | then-byte-eq10 w ↦
          let feed : (get_or front i 0 == 10) ≡ true = rw w.if-byte-eq10.true refl in (
            omega (arith, w.line-is, w.saturating_add-line.ensures, had.0, line_feed front i below feed, line_low front i below, room),
            w.column-is ∙ sym (column_feed front i below feed),
          )
      | else-byte-eq10+then-begins_character w ↦
          let on : (get_or front i 0 == 10) ≡ false = ne_eqb (get_or front i 0) 10 w.if-byte-eq10.false in
          let begins : begins_character (get_or front i 0) ≡ true = sym w.begins_character.ensures ∙ w.if-begins_character.true in (
            omega (arith, w.line-is, had.0, line_on front i below on),
            omega (arith, w.column-is, w.saturating_add-column.ensures, had.1, column_more front i below on begins, column_low front i below, room),
          )
      | else-byte-eq10+else-begins_character w ↦
          let on : (get_or front i 0 == 10) ≡ false = ne_eqb (get_or front i 0) 10 w.if-byte-eq10.false in
          let begins : begins_character (get_or front i 0) ≡ false = sym w.begins_character.ensures ∙ w.if-begins_character.false in (
            omega (arith, w.line-is, had.0, line_on front i below on),
            omega (arith, w.column-is, had.1, column_same front i below on begins),
          )
    ]
