pub mod TableClasses
