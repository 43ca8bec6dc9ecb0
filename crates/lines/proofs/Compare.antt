-- Words compared byte by byte, and the lock that a word names. Assumes nothing.
--   by_pairs                            what `==` of two slices says
--   other_length, other_byte, all_same   the ways out of the loop
--   is-locked, is_open, no-lock          the lock of a word
use mathlib.Core.Path.{◌≡◌, refl, sym, ap, subst, ◌∙◌}
use mathlib.Core.Bool.{Bool, true, false, ◌&&◌, ◌||◌}
use mathlib.Core.List.{List, [], ◌∷◌}
use Rattle.std.specs.Prelude.{Some, None}
use Prim.Native.Nat.{ℕ, ◌<◌}
use lib.Dec.{T, eqb}
use lib.Pointwise.{pointwise}
use lib.ListN.{length, get_or}
use lib.Seq.{ext_get_or}
use Rattle.bits.specs.Bit.{digit}
use Rattle.grammar.specs.Lists.{same}
use Rattle.grammar.specs.Words.{open_word, locked_word}
use Rattle.grammar.proofs.Tests.{other_word, eq→same}
use Rattle.grammar.specs.Line.{is_lock, lock_of}
use Rattle.bits.proofs.Bools.{T-inr}
use Rattle.letters.specs.Reads.{reading}
use Rattle.letters.proofs.Telling.{tells, tells-not}

pub by_pairs : (a b : List ℕ) → pointwise eqb a b ≡ same a b
unfolding same
by_pairs [] [] = refl
by_pairs [] (y ∷ b) = refl
by_pairs (x ∷ a) [] = refl
by_pairs (x ∷ a) (y ∷ b) = ap (λ (t : Bool). eqb x y && t) (by_pairs a b)

pub other_length : (a b : List ℕ) → (length b ≡ length a → ⊥) → false ≡ same a b
other_length a b h = sym (other_word a b (λ e. h (ap length (sym e))))

pub other_byte : (a b : List ℕ) (i : ℕ) → (get_or a i 0 ≡ get_or b i 0 → ⊥) → false ≡ same a b
other_byte a b i h = sym (other_word a b (λ e. h (ap (λ (l : List ℕ). get_or l i 0) e)))

pub all_same : (a b : List ℕ) → length a ≡ length b → ((k : ℕ) → k < length a → get_or a k 0 ≡ get_or b k 0) → true ≡ same a b
all_same a b e h = sym (eq→same a b (ext_get_or 0 a b e h))

-- ---- locks

-- by the answers r and s of the two comparisons
module _ (f : List ℕ) (r : Bool) (er : r ≡ same f locked_word) where
  pub is-locked : r ≡ true → Some 1 ≡ reading (is_lock f) (lock_of f)
  is-locked t = go (same f open_word) (same f locked_word) (sym t ∙ er)
    where
      go : (p q : Bool) → true ≡ q → Some 1 ≡ reading (p || q) (digit q)
      go p true e = tells (p || true) 1 1 (T-inr p true tt) refl
      go p false e = absurd (subst T e tt)

  module _ (s : Bool) (es : s ≡ same f open_word) where
    pub is_open : r ≡ false → s ≡ true → Some 0 ≡ reading (is_lock f) (lock_of f)
    is_open t u = go (same f open_word) (same f locked_word) (sym u ∙ es) (sym t ∙ er)
      where
        go : (p q : Bool) → true ≡ p → false ≡ q → Some 0 ≡ reading (p || q) (digit q)
        go true false e g = tells true 0 0 tt refl
        go true true e g = absurd (subst T (sym g) tt)
        go false q e g = absurd (subst T e tt)

    pub no-lock : r ≡ false → s ≡ false → None ≡ reading (is_lock f) (lock_of f)
    no-lock t u = go (same f open_word) (same f locked_word) (sym u ∙ es) (sym t ∙ er)
      where
        go : (p q : Bool) → false ≡ p → false ≡ q → None ≡ reading (p || q) (digit q)
        go false false e g = tells-not false 0 (λ t. t)
        go true q e g = absurd (subst T (sym e) tt)
        go false true e g = absurd (subst T (sym g) tt)
