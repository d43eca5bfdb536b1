mod Ignored
mod Telling
