mod Nth
mod Values
mod WholeText
