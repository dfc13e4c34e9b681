use Rattle.std.proofs.Common.{rules, ◌≡◌, ◌++◌, OnOk}
use Rattle.zerotrie_queries.specs.code.Texts.{rust_front}
use Rattle.zerotrie_queries.proofs.code.write.add_rust_front.Goals as goal

pub returns : goal.returns
returns c =
    let text : OnOk c.write.result (c.write.new.self.items ≡ c.args.text.now.items ++ rust_front c.args.kind c.args.name.now) = rw (← c.rattle_type-kind.ensures) c.write.ensures.bytes in
    search (rules, text)
