pub mod Calls
pub mod Ledger
pub mod Statement
pub mod Names
pub mod AnyRack
