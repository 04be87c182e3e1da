mod Dialling
mod Hearing
mod Meaning
