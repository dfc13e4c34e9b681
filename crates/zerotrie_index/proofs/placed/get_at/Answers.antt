use Rattle.std.proofs.Common.{rules, ◌≡◌, ℕ, ◌+◌, ◌-◌, ◌*◌, ◌/◌, ◌^◌, ◌<◌, ◌≤◌, inl, length, take, drop, refl, sym, subst, List, [], ◌∷◌}
use Rattle.std.proofs.lemmas.Result.{err_from_is_err_and}
use Rattle.zerotrie_index.specs.Layout.{mark_of}
use Rattle.zerotrie_index.specs.Placed.{AreWords, HasPart}
use Rattle.zerotrie_index.proofs.PlacedLemmas.{IsRead, unmarked, ends_early, answered, of_parts, too_many, inside_front, inside_entries, inside_records, records_unread}
use Rattle.zerotrie_index.proofs.placed.get_at.Goals as goal

pub returns-then-entry-hash-eq0-clause-read : goal.returns-then-entry-hash-eq0-clause-read
returns-then-entry-hash-eq0-clause-read g c =
    let same : c.in_ok-seed.count ≡ c.in-Ok.count = search rules in
    let none : mark_of c.in_ok-entry.entry c.hash_of-hash.result ≡ 0 = search rules in (
      (0, c.in_ok-seed.ensures.words.0) ∷ (16 + 8 * c.from-number.result, c.in_ok-entry.ensures.words.0) ∷ [],
      λ bytes may. (c.in_ok-seed.ensures.words.1 bytes may, (c.in_ok-entry.ensures.words.1 bytes (c.in_ok-seed.ensures.same bytes may), tt)),
      λ bytes parts. let read : IsRead bytes c.args.key.now c.in_ok-seed.seed c.in-Ok.count c.hash_of-hash.result c.from-number.result c.in_ok-entry.entry c.in_ok-entry.next = record {
        front = subst (AreWords bytes 0 c.in_ok-seed.seed) same (c.in_ok-seed.ensures.words.2 bytes parts.0);
        hashed = c.hash_of-hash.ensures;
        small = c.hash_of-hash.type_inv;
        placed = search rules;
        entries = c.in_ok-entry.ensures.words.2 bytes parts.1.0;
      } in
          unmarked bytes c.args.key.now _ _ _ _ _ _ read none,
    )

pub returns-in_default-checked_sub-clause-read : goal.returns-in_default-checked_sub-clause-read
returns-in_default-checked_sub-clause-read g c =
    let same : c.in_ok-seed.count ≡ c.in-Ok.count = search rules in
    let early : c.in_ok-entry.next / 2 ^ 32 < c.in_ok-entry.entry / 2 ^ 32 = search rules in (
      (0, c.in_ok-seed.ensures.words.0) ∷ (16 + 8 * c.from-number.result, c.in_ok-entry.ensures.words.0) ∷ [],
      λ bytes may. (c.in_ok-seed.ensures.words.1 bytes may, (c.in_ok-entry.ensures.words.1 bytes (c.in_ok-seed.ensures.same bytes may), tt)),
      λ bytes parts. let read : IsRead bytes c.args.key.now c.in_ok-seed.seed c.in-Ok.count c.hash_of-hash.result c.from-number.result c.in_ok-entry.entry c.in_ok-entry.next = record {
        front = subst (AreWords bytes 0 c.in_ok-seed.seed) same (c.in_ok-seed.ensures.words.2 bytes parts.0);
        hashed = c.hash_of-hash.ensures;
        small = c.hash_of-hash.type_inv;
        placed = search rules;
        entries = c.in_ok-entry.ensures.words.2 bytes parts.1.0;
      } in
          ends_early bytes c.args.key.now _ _ _ _ _ _ read early,
    )

pub returns-clause-read : goal.returns-clause-read
returns-clause-read g c =
    let same : c.in_ok-seed.count ≡ c.in-Ok.count = search rules in
    let long : length c.as_slice.result.now ≡ c.in_ok-entry.next / 2 ^ 32 - c.in_ok-entry.entry / 2 ^ 32 = search rules in
    let place : ℕ = 16 + 8 * (c.in-Ok.count + 1) + c.in_ok-entry.entry / 2 ^ 32 in
    let counted : c.from.result ≡ c.in-Ok.count = c.from.ensures in (
      (0, c.in_ok-seed.ensures.words.0) ∷ (16 + 8 * c.from-number.result, c.in_ok-entry.ensures.words.0) ∷ (place, c.in_ok-records.records.items) ∷ [],
      λ bytes may. (
        c.in_ok-seed.ensures.words.1 bytes may,
        (
          c.in_ok-entry.ensures.words.1 bytes (c.in_ok-seed.ensures.same bytes may),
          (
            subst (λ n. HasPart (16 + 8 * (n + 1) + c.in_ok-entry.entry / 2 ^ 32) c.in_ok-records.records.items bytes) counted
                (c.in_ok-records.ensures.part bytes (c.in_ok-entry.ensures.same bytes (c.in_ok-seed.ensures.same bytes may))),
            tt,
          ),
        ),
      ),
      λ bytes parts. let read : IsRead bytes c.args.key.now c.in_ok-seed.seed c.in-Ok.count c.hash_of-hash.result c.from-number.result c.in_ok-entry.entry c.in_ok-entry.next = record {
        front = subst (AreWords bytes 0 c.in_ok-seed.seed) same (c.in_ok-seed.ensures.words.2 bytes parts.0);
        hashed = c.hash_of-hash.ensures;
        small = c.hash_of-hash.type_inv;
        placed = search rules;
        entries = c.in_ok-entry.ensures.words.2 bytes parts.1.0;
      } in
          answered bytes c.args.key.now _ _ _ _ _ _ place c.as_slice.result.now c.find_in.result read (subst (λ r. HasPart place r bytes) (sym c.as_slice.ensures.value) parts.1.1.0) refl long c.find_in.ensures,
    )

pub returns-then-entry-hash-eq0-clause-found : goal.returns-then-entry-hash-eq0-clause-found
returns-then-entry-hash-eq0-clause-found g c = of_parts (g.S.ReadAt.MayHold c.args.source.now) c.args.key.now _ (returns-then-entry-hash-eq0-clause-read g c)

pub returns-in_default-checked_sub-clause-found : goal.returns-in_default-checked_sub-clause-found
returns-in_default-checked_sub-clause-found g c = of_parts (g.S.ReadAt.MayHold c.args.source.now) c.args.key.now _ (returns-in_default-checked_sub-clause-read g c)

pub returns-clause-found : goal.returns-clause-found
returns-clause-found g c = of_parts (g.S.ReadAt.MayHold c.args.source.now) c.args.key.now _ (returns-clause-read g c)

pub returns-in_default-clause-read : goal.returns-in_default-clause-read
returns-in_default-clause-read g c =
    let far : 2 ^ 32 ≤ c.in_ok-seed.count = search rules in
    ((0, c.in_ok-seed.ensures.words.0) ∷ [], λ bytes may. (c.in_ok-seed.ensures.words.1 bytes may, tt), λ bytes parts. too_many bytes c.args.key.now _ _ (c.in_ok-seed.ensures.words.2 bytes parts.0) far)

-- ---- what fails

pub returns-in_err-seed-clause-err : goal.returns-in_err-seed-clause-err
returns-in_err-seed-clause-err g c =
    let p = err_from_is_err_and c.from_residual.result c.from_residual.ensures.1 in
    rw (p.1, p.2) (inl (0, 16, λ bytes may. inside_front bytes, c.in_err-seed.ensures.err))

pub returns-in_err-entry-clause-err : goal.returns-in_err-entry-clause-err
returns-in_err-entry-clause-err g c =
    let p = err_from_is_err_and c.from_residual-in_err-entry.result c.from_residual-in_err-entry.ensures.1 in
    let same : c.in_ok-seed.count ≡ c.in-Ok.count = search rules in
    rw (p.1, p.2) (inl (
      16 + 8 * c.from-number.result,
      16,
      λ bytes may. inside_entries bytes c.args.key.now c.in_ok-seed.seed c.in-Ok.count c.hash_of-hash.result c.from-number.result
          (subst (AreWords bytes 0 c.in_ok-seed.seed) same (c.in_ok-seed.ensures.words.2 bytes (c.in_ok-seed.ensures.words.1 bytes may)))
          c.hash_of-hash.ensures c.hash_of-hash.type_inv (search rules),
      c.in_ok-seed.ensures.fewer _ _ _ c.in_err-entry.ensures.err,
    ))

pub returns-in_err-records-clause-err : goal.returns-in_err-records-clause-err
returns-in_err-records-clause-err g c =
    let p = err_from_is_err_and c.from_residual-in_err-records.result c.from_residual-in_err-records.ensures.1 in
    let same : c.in_ok-seed.count ≡ c.in-Ok.count = search rules in
    let counted : c.from.result ≡ c.in-Ok.count = c.from.ensures in
    rw (p.1, p.2) (records_unread _ _ _ _ _ _ c.in_err-records.ensures.err (λ at n e fails. c.in_ok-seed.ensures.fewer at n e (c.in_ok-entry.ensures.fewer at n e fails))
    (λ at n from some to bytes may. let read : IsRead bytes c.args.key.now c.in_ok-seed.seed c.in-Ok.count c.hash_of-hash.result c.from-number.result c.in_ok-entry.entry c.in_ok-entry.next = record {
      front = subst (AreWords bytes 0 c.in_ok-seed.seed) same (c.in_ok-seed.ensures.words.2 bytes (c.in_ok-seed.ensures.words.1 bytes may));
      hashed = c.hash_of-hash.ensures;
      small = c.hash_of-hash.type_inv;
      placed = search rules;
      entries = c.in_ok-entry.ensures.words.2 bytes (c.in_ok-entry.ensures.words.1 bytes (c.in_ok-seed.ensures.same bytes may));
    } in
    inside_records bytes c.args.key.now _ _ _ _ _ _ _ _ at n read (search rules) (search rules) from some to))
