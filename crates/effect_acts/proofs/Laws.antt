pub mod Act
