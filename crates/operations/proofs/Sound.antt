-- What the description of every kind keeps to, each as one computed test. Assumes nothing.
--   suits r ub uc   the words that name the rows whose widths the rule asks for are rows, or the cells of a load or a store
--   first-is-row, rule-suits, condition-chosen, second-is-row, ..   the tests, of the kind that has a number
use mathlib.Core.Path.{◌≡◌, refl}
use mathlib.Core.Bool.{Bool, true, false, not, cond, ◌&&◌, ◌||◌}
use Prim.Native.Nat.{ℕ}
use mathlib.Core.Logic.{inl, inr}
use lib.Dec.{T, T_not, leb, eqb, eqb→eq}
use Rattle.bits.specs.Below.{all_below}
use Rattle.bits.proofs.Bools.{T-left, T-right, T-or}
use Rattle.operations.specs.Kind.{Use, as_row, as_number, as_count, as_base, unused, is_row, is_base, Rule, same_width, same_widths, taken_width, joined_widths, extended_width, compared_widths, chosen_widths, cell_widths, Kind}
use Rattle.operations.specs.Kinds.{kind_count, is_kind, kind_of}
use Rattle.operations.specs.Encoding.{is_plain, is_number, word_class, uses_second, uses_parameter, uses_sixth}
use Rattle.operations.proofs.Lookup.{kind-test}

pub row_is : (u : Use) → T (is_row u) → u ≡ as_row
row_is as_row t = refl
row_is as_number t = absurd t
row_is as_count t = absurd t
row_is as_base t = absurd t
row_is unused t = absurd t

abbrev pub suits : Rule → Use → Use → Bool
suits same_width ub uc = true
suits same_widths ub uc = is_row ub
suits taken_width ub uc = true
suits joined_widths ub uc = is_row ub
suits extended_width ub uc = true
suits compared_widths ub uc = is_row ub
suits chosen_widths ub uc = is_row ub && is_row uc
suits cell_widths ub uc = is_base uc

abbrev is_chosen : Rule → Bool
is_chosen same_width = false
is_chosen same_widths = false
is_chosen taken_width = false
is_chosen joined_widths = false
is_chosen extended_width = false
is_chosen compared_widths = false
is_chosen chosen_widths = true
is_chosen cell_widths = false

chosen_is : (r : Rule) → T (is_chosen r) → r ≡ chosen_widths
chosen_is same_width t = absurd t
chosen_is same_widths t = absurd t
chosen_is taken_width t = absurd t
chosen_is joined_widths t = absurd t
chosen_is extended_width t = absurd t
chosen_is compared_widths t = absurd t
chosen_is chosen_widths t = refl
chosen_is cell_widths t = absurd t

pub implied : (x y : Bool) → T (not x || y) → T x → T y
implied true y u v = u
implied false y u v = absurd v

-- two tests that agree are one
pub same_test : (x y : Bool) → T (cond x y (not y)) → x ≡ y
same_test true true t = refl
same_test true false t = absurd t
same_test false true t = absurd t
same_test false false t = refl

module _ (n : ℕ) (h : T (is_kind n)) where
  abbrev k : Kind
  k = kind_of n

  -- the word a is a row
  pub first-is-row : k.use_a ≡ as_row
  unfolding all_below kind_count kind_of
  first-is-row = row_is k.use_a (kind-test (λ m. is_row (kind_of m).use_a) tt n h)

  pub rule-suits : T (suits k.rule k.use_b k.use_c)
  unfolding all_below kind_count kind_of
  rule-suits = kind-test (λ m. suits (kind_of m).rule (kind_of m).use_b (kind_of m).use_c) tt n h

  -- a condition row is one bit wide: the rule that asks it
  pub condition-chosen : T (is_row k.use_c) → k.rule ≡ chosen_widths
  unfolding all_below kind_count kind_of
  condition-chosen t = chosen_is k.rule (implied (is_row k.use_c) (is_chosen k.rule) (kind-test (λ m. not (is_row (kind_of m).use_c) || is_chosen (kind_of m).rule) tt n h) t)

  -- where operands named twice are one number, the word b is a row
  pub second-is-row : T k.correlated → k.use_b ≡ as_row
  unfolding all_below kind_count kind_of
  second-is-row t = row_is k.use_b (implied k.correlated (is_row k.use_b) (kind-test (λ m. not (kind_of m).correlated || is_row (kind_of m).use_b) tt n h) t)

  -- the words t and b have nothing to do with cells
  pub target-plain : T (is_plain k.use_t)
  unfolding all_below kind_count kind_of
  target-plain = kind-test (λ m. is_plain (kind_of m).use_t) tt n h

  pub second_plain : T (is_plain k.use_b)
  unfolding all_below kind_count kind_of
  second_plain = kind-test (λ m. is_plain (kind_of m).use_b) tt n h

  -- the words b and the sixth are no numbers
  pub second-no-number : T (not (is_number k.use_b))
  unfolding all_below kind_count kind_of
  second-no-number = kind-test (λ m. not (is_number (kind_of m).use_b)) tt n h

  pub sixth-no-number : T (not (is_number k.use_c))
  unfolding all_below kind_count kind_of
  sixth-no-number = kind-test (λ m. not (is_number (kind_of m).use_c)) tt n h

  -- the word p is no row
  pub parameter-no-row : T (not (is_row k.use_p))
  unfolding all_below kind_count kind_of
  parameter-no-row = kind-test (λ m. not (is_row (kind_of m).use_p)) tt n h

  -- the kinds that have cells are those from 24 on
  pub cells-from : leb 24 n ≡ is_base k.use_c
  unfolding all_below kind_count kind_of
  cells-from = same_test (leb 24 n) (is_base k.use_c) (kind-test (λ m. cond (leb 24 m) (is_base (kind_of m).use_c) (not (is_base (kind_of m).use_c))) tt n h)

  -- a kind that does not write a row t writes its cells
  pub cells-written : T (not (is_row k.use_t)) → T (is_base k.use_c)
  unfolding all_below kind_count kind_of
  cells-written t = implied (not (is_row k.use_t)) (is_base k.use_c) (kind-test (λ m. not (not (is_row (kind_of m).use_t)) || is_base (kind_of m).use_c) tt n h) t

  -- a store alone has no row t
  pub only_store : ¬ (n ≡ 25) → T (is_row k.use_t)
  unfolding all_below kind_count kind_of
  only_store d = elim (T-or (eqb n 25) (is_row k.use_t) (kind-test (λ m. eqb m 25 || is_row (kind_of m).use_t) tt n h)) [ inl e ↦ absurd (d (eqb→eq n 25 e)) | inr r ↦ r ]

  -- a kind with cells is a load or a store
  pub load-or-store : T (is_base k.use_c) → ¬ (n ≡ 24) → n ≡ 25
  unfolding all_below kind_count kind_of
  load-or-store b d =
      eqb→eq n 25
      (elim (T-or (eqb n 24) (eqb n 25) (implied (is_base k.use_c) (eqb n 24 || eqb n 25) (kind-test (λ m. not (is_base (kind_of m).use_c) || (eqb m 24 || eqb m 25)) tt n h) b)) [
        | inl e ↦ absurd (d (eqb→eq n 24 e))
        | inr r ↦ r
      ])

  -- the word p of a kind with cells is how many they are
  pub cells-counted : T (is_base k.use_c) → k.use_p ≡ as_count
  unfolding all_below kind_count kind_of
  cells-counted t = count-is k.use_p (implied (is_base k.use_c) (is_count k.use_p) (kind-test (λ m. not (is_base (kind_of m).use_c) || is_count (kind_of m).use_p) tt n h) t)
    where
      is_count : Use → Bool
      is_count as_row = false
      is_count as_number = false
      is_count as_count = true
      is_count as_base = false
      is_count unused = false

      count-is : (u : Use) → T (is_count u) → u ≡ as_count
      count-is as_row t = absurd t
      count-is as_number t = absurd t
      count-is as_count t = refl
      count-is as_base t = absurd t
      count-is unused t = absurd t

  -- ---- a kind without cells

  module _ (none : T (not (is_base k.use_c))) where
    pub target-is-row : k.use_t ≡ as_row
    unfolding all_below kind_count kind_of
    target-is-row = row_is k.use_t (implied (not (is_base k.use_c)) (is_row k.use_t) (kind-test (λ m. not (not (is_base (kind_of m).use_c)) || is_row (kind_of m).use_t) tt n h) none)

    -- two tests of a kind without cells that a computed test finds to agree
    told : (p q : ℕ → Bool) → T (all_below kind_count (λ m. is_base (kind_of m).use_c || cond (p m) (q m) (not (q m)))) → p n ≡ q n
    told p q t = same_test (p n) (q n)
        (elim (T-or (is_base k.use_c) (cond (p n) (q n) (not (q n))) (kind-test (λ m. is_base (kind_of m).use_c || cond (p m) (q m) (not (q m))) t n h)) [
          | inl z ↦ absurd (T_not (is_base k.use_c) none z)
          | inr y ↦ y
        ])

    uses-plain : T (is_plain k.use_p && is_plain k.use_c)
    unfolding all_below kind_count kind_of
    uses-plain =
        implied (not (is_base k.use_c)) (is_plain k.use_p && is_plain k.use_c)
        (kind-test (λ m. not (not (is_base (kind_of m).use_c)) || (is_plain (kind_of m).use_p && is_plain (kind_of m).use_c)) tt n h) none

    pub parameter-plain : T (is_plain k.use_p)
    parameter-plain = T-left (is_plain k.use_p) (is_plain k.use_c) uses-plain

    pub sixth-plain : T (is_plain k.use_c)
    sixth-plain = T-right (is_plain k.use_p) (is_plain k.use_c) uses-plain

    -- what the class of its words says
    pub class-second : uses_second (word_class k) ≡ is_row k.use_b
    unfolding all_below kind_count kind_of
    class-second = told (λ m. uses_second (word_class (kind_of m))) (λ m. is_row (kind_of m).use_b) tt

    pub class-parameter : uses_parameter (word_class k) ≡ is_number k.use_p
    unfolding all_below kind_count kind_of
    class-parameter = told (λ m. uses_parameter (word_class (kind_of m))) (λ m. is_number (kind_of m).use_p) tt

    pub class-sixth : uses_sixth (word_class k) ≡ is_row k.use_c
    unfolding all_below kind_count kind_of
    class-sixth = told (λ m. uses_sixth (word_class (kind_of m))) (λ m. is_row (kind_of m).use_c) tt
