mod Edited
mod Filled
mod Held
mod Reweighing
