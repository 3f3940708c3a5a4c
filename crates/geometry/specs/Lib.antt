-- Document 01: the sizes of a volume; and the size classes that the code goes by.
pub mod Geometry
pub mod SizeClasses
