mod HostLemmas
mod NoteLemmas
mod RowLemmas
