use Rattle.zerotrie_search.proofs.sorted.is_valid.Goals as goal

pub returns-in-Simple-by_kind : goal.returns-in-Simple-by_kind
returns-in-Simple-by_kind c = rw c.in-Simple-by_kind.is c.by_kind-is_well_formed.ensures

pub returns-in-Ignore-by_kind : goal.returns-in-Ignore-by_kind
returns-in-Ignore-by_kind c = rw c.in-Ignore-by_kind.is c.by_kind-is_well_formed-2.ensures

pub returns-in-Hash-by_kind : goal.returns-in-Hash-by_kind
returns-in-Hash-by_kind c = rw c.in-Hash-by_kind.is c.by_kind-is_well_formed-3.ensures

pub returns-in-Ext-by_kind : goal.returns-in-Ext-by_kind
returns-in-Ext-by_kind c = rw c.in-Ext-by_kind.is c.by_kind-is_well_formed-4.ensures
