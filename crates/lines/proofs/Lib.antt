mod Digits
mod Steps
mod Spells
