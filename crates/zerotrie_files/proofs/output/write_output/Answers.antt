use Rattle.std.proofs.Common.{◌≡◌, ◌∙◌, sym, subst, false}
use Rattle.zerotrie_files.specs.Stores.{names_open_file}
use Rattle.zerotrie_files.proofs.DeedLemmas.{placed_file}
use Rattle.zerotrie_files.proofs.output.write_output.Goals as goal

pub returns-in_ok-real-in-File-clause-reached : goal.returns-in_ok-real-in-File-clause-reached
returns-in_ok-real-in-File-clause-reached g c =
    let file : names_open_file c.args.path.now ≡ false = sym c.is_open_file.ensures ∙ c.if-is_open_file.false in
    placed_file (g.D.Disk.leads c.args.disk.now c.args.path.now) (g.D.Disk.is_real c.args.disk.now c.args.path.now) c.args.path.now c.as_str.result.now c.args.bytes.now c.in-File.mode
    c.replace_beside-in-File.result _ _ file (rw c.in-File.is at c.in_ok-find.ensures.leads) (subst (g.D.Disk.is_real c.args.disk.now c.args.path.now) (sym c.as_str.ensures.value) c.in_ok-real-in-File.ensures.real) c.replace_beside-in-File.ensures.placed
