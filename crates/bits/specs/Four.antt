-- Four words reversed, each by itself (01, "Products").
--   reversed_words a b c d   each of the four words with its 32 bits in the other order
use Rattle.std.specs.Prelude.{ℕ, List, [], ◌∷◌, map}
use Rattle.bits.specs.Reversed.{reversed}

abbrev pub reversed_words : ℕ → ℕ → ℕ → ℕ → List ℕ
reversed_words a b c d = map (reversed 32) (a ∷ b ∷ c ∷ d ∷ [])
