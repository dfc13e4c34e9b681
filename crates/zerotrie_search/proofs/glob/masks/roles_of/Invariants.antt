use Rattle.std.proofs.Common.{◌≡◌, ◌≤◌, ◌<◌, ◌+◌, ℕ, length, drop, get_or}
use Rattle.zerotrie_search.specs.Globs.{items, items_in, no_item, no_item_in}
use Rattle.zerotrie_search.specs.GlobMasks.{letters_in, role_at}
use Rattle.zerotrie_search.specs.declared.glob.pattern.Role.TheVariants.{Letter}
use Rattle.zerotrie_search.proofs.glob.masks.roles_of.Given as goal

abbrev pub invariant-loop-item : goal.invariant-loop-item
invariant-loop-item l = record {
  few : l.place ≤ 63;
  whole : length l.roles ≡ 64;
  all : l.place + length (items_in l.in_group (letters_in l.left)) ≡ length (items (letters_in l.pattern));
  at : drop l.place (items (letters_in l.pattern)) ≡ items_in l.in_group (letters_in l.left);
  left : no_item_in l.in_group (letters_in l.left) ≡ no_item (letters_in l.pattern);
  roles : (p : ℕ) → p < l.place → get_or l.roles p Letter ≡ role_at (drop p (items (letters_in l.pattern)));
}

abbrev pub decreases-loop-item : goal.decreases-loop-item
decreases-loop-item l = length (letters_in l.left)
