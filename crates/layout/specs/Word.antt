-- Document 01, "The volume": words of 32 bits, little-endian, and their sum with wrapping at 2^32.
use Rattle.std.specs.Prelude.{ℕ, ◌+◌, ◌*◌, ◌-◌, ◌/◌, ◌%◌, ◌^◌, Bool, List, [], ◌∷◌, ◌++◌, length, take}
use Rattle.layout.specs.Bounded.{same}

abbrev pub word : ℕ → ℕ → ℕ → ℕ → ℕ
word a b c d = a + 256 * b + 65536 * c + 16777216 * d

abbrev pub word_bytes : ℕ → List ℕ
word_bytes w = (w % 256) ∷ (w / 256 % 256) ∷ (w / 65536 % 256) ∷ (w / 16777216 % 256) ∷ []

-- The words of a run of bytes: word k starts at byte 4k.
unfoldable pub words_of : List ℕ → List ℕ
words_of [] = []
words_of (a ∷ []) = []
words_of (a ∷ b ∷ []) = []
words_of (a ∷ b ∷ c ∷ []) = []
words_of (a ∷ b ∷ c ∷ d ∷ rest) = word a b c d ∷ words_of rest

unfoldable pub bytes_of : List ℕ → List ℕ
bytes_of [] = []
bytes_of (w ∷ ws) = word_bytes w ++ bytes_of ws

-- The words added with wrapping at 2^32.
unfoldable pub word_sum : List ℕ → ℕ
word_sum [] = 0
word_sum (w ∷ ws) = (w + word_sum ws) % 2 ^ 32

-- The word that brings a sum to zero.
abbrev pub balance : ℕ → ℕ
balance sum = (2 ^ 32 - sum) % 2 ^ 32

-- A block or a sector begins with a mark of four bytes.
unfoldable pub starts_with : List ℕ → List ℕ → Bool
starts_with mark bytes = same (take (length mark) bytes) mark

-- A sector with a mark in word 0, the balance in word 1, and the given words from word 2 on.
unfoldable pub balanced : List ℕ → List ℕ → List ℕ
balanced mark ws = mark ++ bytes_of (balance (word_sum (words_of mark ++ ws)) ∷ ws)
