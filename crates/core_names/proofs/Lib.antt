mod SameKeys
mod Rows
mod Spelling
