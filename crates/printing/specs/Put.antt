-- What a writing function needs and does.
--   Holds out at bytes       the buffer has room for the bytes from `at` on
--   Put old new at r bytes   the bytes are put into the buffer from `at` on, its rest is left, and r is the place after them
use Rattle.std.specs.Prelude.{◌≡◌, List, ℕ, ◌+◌, ◌≤◌, length}
use Rattle.std.proofs.lemmas.List.Edits.{sets}

abbrev pub Holds : List ℕ → ℕ → List ℕ → Type 0
Holds out at bytes = at + length bytes ≤ length out

pub record Put (old new : List ℕ) (at r : ℕ) (bytes : List ℕ) : Type 0 where
  pub ends : r ≡ at + length bytes
  pub text : new ≡ sets old at bytes
