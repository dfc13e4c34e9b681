use Rattle.zerotrie_queries.proofs.lookups.add_trie_answer.Goals as goal

pub returns-in-Prefixes : goal.returns-in-Prefixes
returns-in-Prefixes c = rw c.in-Prefixes.is c.add_prefixes.ensures

pub returns-in-KeyOf : goal.returns-in-KeyOf
returns-in-KeyOf c = rw c.in-KeyOf.is c.add_key_by_scan.ensures
