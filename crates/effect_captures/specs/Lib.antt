pub mod NewFunctions
