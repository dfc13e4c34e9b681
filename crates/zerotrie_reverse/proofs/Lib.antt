mod DescentLemmas
mod TableLemmas
mod FirstLemmas
