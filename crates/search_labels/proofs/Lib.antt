mod Rewritten
mod Slotted
mod Wording
