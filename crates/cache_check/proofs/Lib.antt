mod Adding
mod Blanks
mod Gone
mod Items
mod Past
mod Whole
