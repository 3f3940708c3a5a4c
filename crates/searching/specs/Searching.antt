-- What the searches along a track and across the tracks say, in sectors and positions.
use Rattle.std.specs.Prelude.{ℕ, ◌+◌, ◌*◌, ◌-◌, ◌%◌, ◌<◌, ◌≡◌, Bool, true, false, List}
use Rattle.layout.specs.Bounded.{at}

-- The sector of a track, of `size` sectors from `first` on, that is under the head w positions after `start`.
abbrev pub turned : ℕ → ℕ → ℕ → ℕ → ℕ
turned first size start w = first + (start - first + w) % size

-- The sectors of the track that pass by in the first so many positions are all used.
abbrev pub AllPassed : (ℕ → Bool) → ℕ → ℕ → ℕ → ℕ → Type 0
AllPassed is_used first size start steps = (w : ℕ) → w < steps → is_used (turned first size start w) ≡ true

-- Below a bound every sector at a position is used, on whatever track.
abbrev pub UsedAt : (ℕ → Bool) → ℕ → ℕ → ℕ → Type 0
UsedAt is_used size position bound = (k : ℕ) → k < bound → k % size ≡ position → is_used k ≡ true

-- The lowest free sector at a position.
abbrev pub LowestFree : (ℕ → Bool) → ℕ → ℕ → ℕ → Type 0
LowestFree is_used size position k = (is_used k ≡ false) × (k % size ≡ position) × UsedAt is_used size position k

-- No sector is free at the first so many positions from one on.
abbrev pub NoneWithin : (ℕ → Bool) → ℕ → ℕ → ℕ → ℕ → Type 0
NoneWithin is_used n size position steps = (j : ℕ) → j < steps → UsedAt is_used size ((position + j) % size) n

-- What a byte says of a position at which no track has a free sector.
abbrev pub all_tracks : ℕ
all_tracks = 255

-- For each position of a track: no track has a free sector there, or so many from the first are known to have none.
abbrev pub Known : List ℕ → (ℕ → Bool) → ℕ → ℕ → Type 0
Known known is_used n size =
    (position : ℕ) → (at known position ≡ all_tracks → UsedAt is_used size position n)
    × (at known position < all_tracks → UsedAt is_used size position (position + at known position * size))
