-- The editions of the code, older than edition 3 or not. Assumes nothing.
--   older-told, third-told   what a record line's fields tell is the same in all older ones, and in the third
--   older-count, third-count how many numbers a record line has
use mathlib.Core.Path.{◌≡◌, refl, sym, ap, subst}
use mathlib.Core.Bool.{Bool, true, false, cond}
use mathlib.Core.List.{List}
use Prim.Native.Nat.{ℕ, ◌-◌}
use lib.Dec.{T}
use Rattle.operations.specs.Limits.{record_words}
use Rattle.grammar.specs.Words.{edition1, edition3, number_count}
use Rattle.letters.specs.declared.Edition.{Edition}
use Rattle.letters.specs.declared.Edition.TheVariants.{First, Second, Third}
use Rattle.letters.specs.Model.{edition_model}
use Rattle.lines.specs.Model.{record_told}

pub older-told : (e : Edition) → (edition_model e).older ≡ true → (name : List ℕ) (ns : List (List ℕ)) → record_told edition1 name ns ≡ record_told (edition_model e) name ns
older-told First h name ns = refl
older-told Second h name ns = refl
older-told Third h name ns = absurd (subst T (sym h) tt)

pub third-told : (e : Edition) → (edition_model e).older ≡ false → (name : List ℕ) (ns : List (List ℕ)) → record_told edition3 name ns ≡ record_told (edition_model e) name ns
third-told First h name ns = absurd (subst T h tt)
third-told Second h name ns = absurd (subst T h tt)
third-told Third h name ns = refl

pub older-count : (e : Edition) → (edition_model e).older ≡ true → number_count (edition_model e) ≡ 4
older-count e h = ap (λ (b : Bool). cond b (record_words - 2) (record_words - 1)) h

pub third-count : (e : Edition) → (edition_model e).older ≡ false → number_count (edition_model e) ≡ 5
third-count e h = ap (λ (b : Bool). cond b (record_words - 2) (record_words - 1)) h
