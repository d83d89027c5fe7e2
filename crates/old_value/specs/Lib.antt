pub mod OldValue
