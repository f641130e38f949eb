mod PrefixLemmas
mod InsertLines
