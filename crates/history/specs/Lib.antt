-- What a reader must believe of demand 3: lists of calls, the plain disk, and the claim; the stores of a call; what a program sees;
-- and the commits of a batch made singly.
pub mod History
pub mod Cut
pub mod Seen
pub mod Singly
