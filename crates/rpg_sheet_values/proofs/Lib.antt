pub mod Characters
mod Digits
mod Lettered
mod LiteralLemmas
