mod Bytes
mod Pages
