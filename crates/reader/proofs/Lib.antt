pub mod Numbers
mod Windows
