mod Stated
mod RowLemmas
mod Conclusions
mod Listed
mod Said
