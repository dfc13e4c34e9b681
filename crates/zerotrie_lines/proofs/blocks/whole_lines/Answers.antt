use Rattle.std.proofs.Common.{◌+◌, arith}
use Rattle.zerotrie_lines.proofs.BlockLemmas.{fresh_is, whole_cut, none_later}
use Rattle.zerotrie_lines.proofs.blocks.whole_lines.Goals as goal

pub returns-in-Some-memrchr-clause-whole : goal.returns-in-Some-memrchr-clause-whole
returns-in-Some-memrchr-clause-whole c =
    let fresh = fresh_is c.args.bytes.now c.in-Some.fresh.now c.args.from c.in-Some.ensures.lookup.0.2 in
    whole_cut c.args.bytes.now c.in-Some.fresh.now c.args.from c.in-Some-memrchr.place fresh c.in-Some-memrchr.ensures.0.high c.in-Some-memrchr.ensures.1

pub returns-in-Some-memrchr-clause-last : goal.returns-in-Some-memrchr-clause-last
returns-in-Some-memrchr-clause-last c k low later =
    let fresh = fresh_is c.args.bytes.now c.in-Some.fresh.now c.args.from c.in-Some.ensures.lookup.0.2 in
    none_later c.args.bytes.now c.in-Some.fresh.now c.args.from (c.in-Some-memrchr.place + 1) fresh c.in-Some-memrchr.ensures.0.after k low (omega (arith, later))

pub returns-in-None-clause-last : goal.returns-in-None-clause-last
returns-in-None-clause-last c k low later =
    let fresh = fresh_is c.args.bytes.now c.in-Some.fresh.now c.args.from c.in-Some.ensures.lookup.0.2 in
    none_later c.args.bytes.now c.in-Some.fresh.now c.args.from 0 fresh c.in-None.ensures k low (omega (arith, low))
