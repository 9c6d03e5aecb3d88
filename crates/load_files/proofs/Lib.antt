mod Comings
mod Telling
