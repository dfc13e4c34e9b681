use Rattle.zerotrie_c.proofs.searches.fill_sought.Goals as goal

pub returns-in-Prefix-by_automaton-clause-listed : goal.returns-in-Prefix-by_automaton-clause-listed
returns-in-Prefix-by_automaton-clause-listed c = rw c.in-Prefix-by_automaton.is c.fill_accepted.ensures.listed

pub returns-in-Prefix-by_automaton-clause-any : goal.returns-in-Prefix-by_automaton-clause-any
returns-in-Prefix-by_automaton-clause-any c = rw c.in-Prefix-by_automaton.is c.fill_accepted.ensures.any

pub returns-in-Range-by_automaton-clause-listed : goal.returns-in-Range-by_automaton-clause-listed
returns-in-Range-by_automaton-clause-listed c = rw c.in-Range-by_automaton.is c.fill_accepted-2.ensures.listed

pub returns-in-Range-by_automaton-clause-any : goal.returns-in-Range-by_automaton-clause-any
returns-in-Range-by_automaton-clause-any c = rw c.in-Range-by_automaton.is c.fill_accepted-2.ensures.any

pub returns-in-Glob-by_automaton-clause-listed : goal.returns-in-Glob-by_automaton-clause-listed
returns-in-Glob-by_automaton-clause-listed c = rw c.in-Glob-by_automaton.is c.fill_accepted-3.ensures.listed

pub returns-in-Glob-by_automaton-clause-any : goal.returns-in-Glob-by_automaton-clause-any
returns-in-Glob-by_automaton-clause-any c = rw c.in-Glob-by_automaton.is c.fill_accepted-3.ensures.any

pub returns-in-GlobChars-by_automaton-clause-listed : goal.returns-in-GlobChars-by_automaton-clause-listed
returns-in-GlobChars-by_automaton-clause-listed c = rw c.in-GlobChars-by_automaton.is c.fill_accepted-4.ensures.listed

pub returns-in-GlobChars-by_automaton-clause-any : goal.returns-in-GlobChars-by_automaton-clause-any
returns-in-GlobChars-by_automaton-clause-any c = rw c.in-GlobChars-by_automaton.is c.fill_accepted-4.ensures.any

pub returns-in-Subsequence-by_automaton-clause-listed : goal.returns-in-Subsequence-by_automaton-clause-listed
returns-in-Subsequence-by_automaton-clause-listed c = rw c.in-Subsequence-by_automaton.is c.fill_accepted-5.ensures.listed

pub returns-in-Subsequence-by_automaton-clause-any : goal.returns-in-Subsequence-by_automaton-clause-any
returns-in-Subsequence-by_automaton-clause-any c = rw c.in-Subsequence-by_automaton.is c.fill_accepted-5.ensures.any

pub returns-in-Fuzzy-by_automaton-clause-listed : goal.returns-in-Fuzzy-by_automaton-clause-listed
returns-in-Fuzzy-by_automaton-clause-listed c = rw c.in-Fuzzy-by_automaton.is c.fill_accepted-6.ensures.listed

pub returns-in-Fuzzy-by_automaton-clause-any : goal.returns-in-Fuzzy-by_automaton-clause-any
returns-in-Fuzzy-by_automaton-clause-any c = rw c.in-Fuzzy-by_automaton.is c.fill_accepted-6.ensures.any

pub returns-in-FuzzyChars-by_automaton-clause-listed : goal.returns-in-FuzzyChars-by_automaton-clause-listed
returns-in-FuzzyChars-by_automaton-clause-listed c = rw c.in-FuzzyChars-by_automaton.is c.fill_accepted-7.ensures.listed

pub returns-in-FuzzyChars-by_automaton-clause-any : goal.returns-in-FuzzyChars-by_automaton-clause-any
returns-in-FuzzyChars-by_automaton-clause-any c = rw c.in-FuzzyChars-by_automaton.is c.fill_accepted-7.ensures.any

pub returns-in-Swaps-by_automaton-clause-listed : goal.returns-in-Swaps-by_automaton-clause-listed
returns-in-Swaps-by_automaton-clause-listed c = rw c.in-Swaps-by_automaton.is c.fill_accepted-8.ensures.listed

pub returns-in-Swaps-by_automaton-clause-any : goal.returns-in-Swaps-by_automaton-clause-any
returns-in-Swaps-by_automaton-clause-any c = rw c.in-Swaps-by_automaton.is c.fill_accepted-8.ensures.any

pub returns-in-SwapsChars-by_automaton-clause-listed : goal.returns-in-SwapsChars-by_automaton-clause-listed
returns-in-SwapsChars-by_automaton-clause-listed c = rw c.in-SwapsChars-by_automaton.is c.fill_accepted-9.ensures.listed

pub returns-in-SwapsChars-by_automaton-clause-any : goal.returns-in-SwapsChars-by_automaton-clause-any
returns-in-SwapsChars-by_automaton-clause-any c = rw c.in-SwapsChars-by_automaton.is c.fill_accepted-9.ensures.any
