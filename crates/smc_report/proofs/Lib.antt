mod RowLemmas
mod QuotientLemmas
mod StatusLemmas
