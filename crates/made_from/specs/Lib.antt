pub mod MadeFrom
