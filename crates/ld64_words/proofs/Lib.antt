mod Bytes
mod CoreRows
mod Expanding
mod FileRows
mod Readings
mod Rows
mod Turns
