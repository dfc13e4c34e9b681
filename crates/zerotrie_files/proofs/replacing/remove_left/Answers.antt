use Rattle.std.proofs.Common.{◌≡◌, length, take}
use Rattle.std.specs.Prelude.{IfSome}
use Rattle.zerotrie_sealed.specs.Sealed.{magic}
use Rattle.zerotrie_files.specs.Disks.{IsFront}
use Rattle.zerotrie_files.proofs.LeftLemmas.{held_removed}
use Rattle.zerotrie_files.proofs.replacing.remove_left.Goals as goal

pub returns-in_err-remove_held-in-Some-clause-story : goal.returns-in_err-remove_held-in-Some-clause-story
returns-in_err-remove_held-in-Some-clause-story g c =
    let held : IfSome (g.D.Disk.story c.hold.new.self) (IsFront c.args.path.now c.in-Some.front.items) = rw c.in-Some.is at c.in_ok-front.ensures.front in
    let begins : take (length c.as_slice.result.now) magic ≡ c.as_slice.result.now = c.begins_magic.ensures.0 c.if-begins_magic.true in
    held_removed c.args.path.now c.in-Some.front.items c.remove_held.result _ _ _ (rw c.as_slice.ensures.value at begins) held c.in_ok-front.ensures.story c.remove_held.ensures.story

pub returns-in_ok-remove_held-in-Some-clause-story : goal.returns-in_ok-remove_held-in-Some-clause-story
returns-in_ok-remove_held-in-Some-clause-story g c =
    let held : IfSome (g.D.Disk.story c.hold.new.self) (IsFront c.args.path.now c.in-Some.front.items) = rw c.in-Some.is at c.in_ok-front.ensures.front in
    let begins : take (length c.as_slice.result.now) magic ≡ c.as_slice.result.now = c.begins_magic.ensures.0 c.if-begins_magic.true in
    held_removed c.args.path.now c.in-Some.front.items c.remove_held.result _ _ _ (rw c.as_slice.ensures.value at begins) held c.in_ok-front.ensures.story c.remove_held.ensures.story
