mod Apart
mod Lowering
mod Touching
mod Wording
