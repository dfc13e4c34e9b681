use Rattle.std.proofs.Common.{◌∙◌, sym, subst}
use Rattle.zerotrie.specs.Kind.{simple_ascii}
use Rattle.zerotrie.specs.Built.{IsBuilt}
use Rattle.zerotrie.specs.Routes.{ascending}
use Rattle.zerotrie.proofs.Found.{answered, exactly}
use Rattle.zerotrie_uses.proofs.HeaderTable.{headers, ascends}
use Rattle.zerotrie_uses.proofs.constants.header_number.Goals as goal

pub returns : goal.returns
returns c =
    let built = subst (IsBuilt simple_ascii headers) (sym (c.from_bytes.ensures ∙ c.as_bytes.ensures.value)) c.header_bytes-bytes.ensures in
    (exactly (answered ascending (ascends, built) c.get.ensures) tt).exactly
