-- what is told under one of several tickets
pub mod Telling
