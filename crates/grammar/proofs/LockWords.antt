-- The word of a lock. Assumes nothing.
--   lock-word, open-word   `locked` for the lock 1, else `open`;   lock-length   its bytes, at most 6
use mathlib.Core.Path.{◌≡◌, ap}
use mathlib.Core.Bool.{Bool, true, false, cond}
use Prim.Native.Nat.{ℕ, ◌≤◌}
use native.Mathlib.Omega.{arith}
use lib.Dec.{eqb}
use lib.ListN.{length}
use borrow.Author.Tests.{eq-eqb, ne_eqb}
use Rattle.grammar.specs.Words.{open_word, locked_word, lock_word}

pub lock-word : (l : ℕ) → l ≡ 1 → lock_word l ≡ locked_word
lock-word l e = ap (λ (t : Bool). cond t locked_word open_word) (eq-eqb l 1 e)

pub open-word : (l : ℕ) → (l ≡ 1 → ⊥) → lock_word l ≡ open_word
open-word l e = ap (λ (t : Bool). cond t locked_word open_word) (ne_eqb l 1 e)

pub lock-length : (l : ℕ) → length (lock_word l) ≤ 6
lock-length l = go (eqb l 1)
  where
    go : (t : Bool) → length (cond t locked_word open_word) ≤ 6
    go true = omega arith
    go false = omega arith
