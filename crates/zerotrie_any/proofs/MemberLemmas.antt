-- Members that are put into an object one by one.
use Rattle.std.proofs.Common.{◌≡◌, ◌∙◌, ℕ, List, [], ◌∷◌, refl, ap, Less, Greater, Bool, true, false}
use Rattle.std.specs.Cmp.Lexicographic.{slice_cmp}
use Rattle.std.specs.Ordering.{nat_cmp, ordering_reverse}
use Rattle.std.proofs.lemmas.Cmp.{nat_list_cmp_total}
use Rattle.serde_json.specs.Data.{Data, Members, no_members, member, put}
use Rattle.zerotrie_core.specs.Maps.{Pairs, FirstAbove, Ascends}
use Rattle.std.specs.Str.{IsUtf8, is_utf8}
use Rattle.std.proofs.lemmas.Str.{IsUtf8-from_is_utf8}
use Rattle.zerotrie_any.specs.Json.{members, whole}

-- a key below another is below what that one is below
above_next : (j k : List ℕ) (pairs : Pairs) → slice_cmp nat_cmp j k ≡ Less → FirstAbove k pairs → FirstAbove j pairs
above_next j k [] below above = tt
above_next j k (e ∷ pairs) below above = nat_list_cmp_total.trans j k e.0 below above

-- members with these pairs put in, one after another
abbrev pub put_all : Pairs → Members → Members
put_all [] ms = ms
put_all (e ∷ pairs) ms = put_all pairs (put e.0 (whole e.1) ms)

-- a key that is below all that are put in stays in front
put_behind : (k : List ℕ) (d : Data) (pairs : Pairs) (ms : Members) → FirstAbove k pairs → Ascends pairs
    → put_all pairs (member k d ms) ≡ member k d (put_all pairs ms)
put_behind k d [] ms above h = refl
put_behind k d (e ∷ pairs) ms above h =
    let after : slice_cmp nat_cmp e.0 k ≡ Greater = nat_list_cmp_total.antisymm e.0 k ∙ ap ordering_reverse above in
    rw after (put_behind k d pairs (put e.0 (whole e.1) ms) (above_next k e.0 pairs above h.0) h.1)

-- pairs that ascend, put in one after another, are the members in this order
pub put_all_members : (pairs : Pairs) → Ascends pairs → put_all pairs no_members ≡ members pairs
put_all_members [] h = refl
put_all_members (e ∷ pairs) h =
    put_behind e.0 (whole e.1) pairs no_members h.0 h.1 ∙ ap (member e.0 (whole e.1)) (put_all_members pairs h.1)

-- a test that is not passed fails
fails : (b : Bool) → (b ≡ true → ⊥) → b ≡ false
fails false refused = refl
fails true refused = absurd (refused refl)

-- what is not UTF-8 fails the test
pub not_utf8 : (key : List ℕ) → (IsUtf8 key → ⊥) → is_utf8 key ≡ false
not_utf8 key refused = fails (is_utf8 key) (λ h. refused (IsUtf8-from_is_utf8 key h))
