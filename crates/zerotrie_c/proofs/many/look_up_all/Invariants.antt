use Rattle.std.proofs.Common.{◌≡◌, ℕ, List, Option, length, drop, unwrap_or}
use Rattle.zerotrie_c.specs.Keys.{FindsAs, keys_from, values_or, written_over}
use Rattle.zerotrie_c.proofs.Written.{going_on}
use Rattle.zerotrie_c.proofs.many.look_up_all.Given as goal

abbrev pub invariant-loop-number : goal.invariant-loop-number
invariant-loop-number g l = ((word : List ℕ) (value : Option ℕ) → g.F.Finder.MayFind l.finder word value → g.F.Finder.MayFind l.initial.finder word value)
    × ((look : List ℕ → Option ℕ) → FindsAs (g.F.Finder.MayFind l.initial.finder) look
    → going_on (λ key. unwrap_or (look key) l.missing) l.keys l.ends l.from l.number l.values
    ≡ written_over (values_or l.missing look (keys_from 0 l.keys l.ends)) l.initial.values)
    × (drop (length l.ends) l.values ≡ drop (length l.ends) l.initial.values)
