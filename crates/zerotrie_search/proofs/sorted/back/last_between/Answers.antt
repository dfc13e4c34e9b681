use Rattle.std.proofs.Common.{◌≡◌, ◌∙◌, ap, sym, subst, true, false}
use Rattle.std.specs.Prelude.{not}
use Rattle.std.specs.Option.{option_or}
use Rattle.std.specs.Range.Bound.{bound_map, is_from_start, is_up_to_end}
use Rattle.zerotrie_base.specs.Kind.{kind_with}
use Rattle.zerotrie_search.specs.Sets.{by_bytes}
use Rattle.zerotrie_search.specs.Sorted.{within, last_of}
use Rattle.zerotrie_search.specs.Lasts.{IsLastIn, ReachesLast, is_past}
use Rattle.zerotrie_search.proofs.LastLemmas.{last_in, last_is, last_below, last_none, last_no_end}
use Rattle.zerotrie_search.proofs.sorted.back.last_between.Goals as goal

pub returns-in_default : goal.returns-in_default
returns-in_default g c m means =
    let from = bound_map (λ b. b.now) c.args.from in
    let to = bound_map (λ b. b.now) c.args.to in
    sym (ap (λ n. last_of (within from to n)) means.is ∙ last_no_end means.pairs from to c.in_default.ensures)

pub returns-in_default-found : goal.returns-in_default-found
returns-in_default-found g c m means =
    let kind = kind_with c.args.options in
    let bytes = c.args.bytes.now in
    let from = bound_map (λ b. b.now) c.args.from in
    let to = bound_map (λ b. b.now) c.args.to in
    let limit = c.in-Some.limit in
    let front = c.follow.new.key.items in
    let next = c.in_ok-next.next in
    let key = c.move_back.new.key.items in
    let found = c.in_ok-found.found in
    let reached : ReachesLast kind bytes (is_past front (option_or next limit)) key found = subst (λ l. ReachesLast kind bytes (is_past front l) key found) c.or.ensures c.in_ok-found.ensures in
    let last : IsLastIn means.pairs (λ q. not (is_up_to_end by_bytes to q)) key found = last_in means.lists to c.in-Some.sought.now front key next limit found c.in-Some.ensures c.in_ok-next.ensures.follows reached in
    sym (ap (λ n. last_of (within from to n)) means.is ∙ last_none means.pairs from to key (subst (IsLastIn means.pairs (λ q. not (is_up_to_end by_bytes to q)) key) c.in_default-found.is last))

pub returns-then-is_down_to : goal.returns-then-is_down_to
returns-then-is_down_to g c m means =
    let kind = kind_with c.args.options in
    let bytes = c.args.bytes.now in
    let from = bound_map (λ b. b.now) c.args.from in
    let to = bound_map (λ b. b.now) c.args.to in
    let limit = c.in-Some.limit in
    let front = c.follow.new.key.items in
    let next = c.in_ok-next.next in
    let key = c.move_back.new.key.items in
    let found = c.in_ok-found.found in
    let reached : ReachesLast kind bytes (is_past front (option_or next limit)) key found = subst (λ l. ReachesLast kind bytes (is_past front l) key found) c.or.ensures c.in_ok-found.ensures in
    let last : IsLastIn means.pairs (λ q. not (is_up_to_end by_bytes to q)) key found = last_in means.lists to c.in-Some.sought.now front key next limit found c.in-Some.ensures c.in_ok-next.ensures.follows reached in
    sym
    (ap (λ n. last_of (within from to n)) means.is
    ∙ last_is means.pairs from to key c.in-Some-found.value (subst (IsLastIn means.pairs (λ q. not (is_up_to_end by_bytes to q)) key) c.in-Some-found.is last)
    (subst (λ k. is_from_start by_bytes from k ≡ true) c.as_slice.ensures.value (sym c.is_down_to.ensures ∙ c.if-is_down_to.true)))

pub returns-else-is_down_to : goal.returns-else-is_down_to
returns-else-is_down_to g c m means =
    let kind = kind_with c.args.options in
    let bytes = c.args.bytes.now in
    let from = bound_map (λ b. b.now) c.args.from in
    let to = bound_map (λ b. b.now) c.args.to in
    let limit = c.in-Some.limit in
    let front = c.follow.new.key.items in
    let next = c.in_ok-next.next in
    let key = c.move_back.new.key.items in
    let found = c.in_ok-found.found in
    let reached : ReachesLast kind bytes (is_past front (option_or next limit)) key found = subst (λ l. ReachesLast kind bytes (is_past front l) key found) c.or.ensures c.in_ok-found.ensures in
    let last : IsLastIn means.pairs (λ q. not (is_up_to_end by_bytes to q)) key found = last_in means.lists to c.in-Some.sought.now front key next limit found c.in-Some.ensures c.in_ok-next.ensures.follows reached in
    sym
    (ap (λ n. last_of (within from to n)) means.is
    ∙ last_below means.pairs from to key c.in-Some-found.value (subst (IsLastIn means.pairs (λ q. not (is_up_to_end by_bytes to q)) key) c.in-Some-found.is last)
    (subst (λ k. is_from_start by_bytes from k ≡ false) c.as_slice.ensures.value (sym c.is_down_to.ensures ∙ c.if-is_down_to.false)))
