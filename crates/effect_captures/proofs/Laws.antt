pub mod NewFunction
