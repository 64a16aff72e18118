mod RowLaws
mod ClientRowLaws
mod ChildRowLaws
mod CountLaws
