mod Lines
mod Arrows
mod Readings
mod Wholes
mod FieldsAgain
mod LinesAgain
mod TextsAgain
mod Sets
