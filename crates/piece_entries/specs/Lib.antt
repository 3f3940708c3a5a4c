-- How far the named blocks are used.
pub mod Cursor
