mod Compared
mod RowSums
mod Recomposed
