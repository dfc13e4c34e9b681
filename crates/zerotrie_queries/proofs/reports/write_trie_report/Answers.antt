use Rattle.std.proofs.Common.{rules, ◌≡◌, OnOk, OnErr, subst}
use Rattle.std.specs.Io.KnownBytes.{Appends}
use Rattle.std.specs.Option.{option_map}
use Rattle.zerotrie_files.specs.Parts.{AppendsPart}
use Rattle.zerotrie_queries.specs.reports.Reports.{report_of}
use Rattle.zerotrie_queries.specs.reports.Forms.{reported}
use Rattle.zerotrie_queries.proofs.reports.write_trie_report.Goals as goal

pub returns-clause-all : goal.returns-clause-all
returns-clause-all g c =
    let text : c.as_slice.result.now ≡ reported c.args.form (option_map (λ n. n.now) c.args.name) (report_of c.args.trie.now.kind c.args.trie.now.bytes.now) = search rules in
    subst (λ t. OnOk c.write_bytes.result (Appends (g.W.Write.contents c.args.output.now.inner) (g.W.Write.contents c.write_bytes.new.self.inner) t))
    text c.write_bytes.ensures.all

pub returns-clause-part : goal.returns-clause-part
returns-clause-part g c =
    let text : c.as_slice.result.now ≡ reported c.args.form (option_map (λ n. n.now) c.args.name) (report_of c.args.trie.now.kind c.args.trie.now.bytes.now) = search rules in
    subst (λ t. OnErr c.write_bytes.result (AppendsPart (g.W.Write.contents c.args.output.now.inner) (g.W.Write.contents c.write_bytes.new.self.inner) t))
    text c.write_bytes.ensures.part
