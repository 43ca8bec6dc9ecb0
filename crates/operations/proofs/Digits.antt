-- The digits of the code's descriptions of the kinds: two words that compute from the list of kinds. Assumes nothing.
use mathlib.Core.Path.{◌≡◌, refl, ap, ◌∙◌}
use mathlib.Core.List.{List, [], ◌∷◌}
use Prim.Native.Nat.{ℕ, ◌+◌, ◌*◌, ◌/◌, ◌%◌}
use lib.Dec.{T, eqb, eqb→eq}
use lib.ListN.{length}
use Rattle.bits.specs.Bit.{digit}
use Rattle.bits.specs.Below.{all_below}
use Rattle.operations.specs.Kind.{Use, as_row, as_number, as_count, as_base, unused, Rule, same_width, same_widths, taken_width, joined_widths, extended_width, compared_widths, chosen_widths, cell_widths, Kind}
use Rattle.operations.specs.Kinds.{kinds, kind_count, is_kind, kind_of}
use Rattle.operations.specs.declared.descriptions.WordClass.{WordClass}
use Rattle.operations.specs.declared.descriptions.WordClass.TheVariants.{NoneUsed, Second, Parameter, SecondAndSixth}
use Rattle.operations.specs.Encoding.{use_told, use_numbered, word_class, class_numbered, rule_model, rule_numbered, digit_of}
use Rattle.operations.proofs.Lookup.{kind-test}

-- ---- what is told, by number

abbrev use_code : Use → ℕ
use_code unused = 0
use_code as_row = 1
use_code as_number = 2
use_code as_count = 3
use_code as_base = 3

use-back : (u : Use) → use_numbered (use_code u) ≡ use_told u
use-back as_row = refl
use-back as_number = refl
use-back as_count = refl
use-back as_base = refl
use-back unused = refl

abbrev class_code : WordClass → ℕ
class_code NoneUsed = 0
class_code Second = 1
class_code Parameter = 2
class_code SecondAndSixth = 3

class-back : (x : WordClass) → class_numbered (class_code x) ≡ x
class-back NoneUsed = refl
class-back Second = refl
class-back Parameter = refl
class-back SecondAndSixth = refl

abbrev rule_code : Rule → ℕ
rule_code same_width = 0
rule_code same_widths = 1
rule_code taken_width = 2
rule_code joined_widths = 3
rule_code extended_width = 4
rule_code compared_widths = 5
rule_code chosen_widths = 6
rule_code cell_widths = 7

rule-back : (r : Rule) → rule_model (rule_numbered (rule_code r)) ≡ r
rule-back same_width = refl
rule-back same_widths = refl
rule-back taken_width = refl
rule-back joined_widths = refl
rule-back extended_width = refl
rule-back compared_widths = refl
rule-back chosen_widths = refl
rule-back cell_widths = refl

-- ---- the words

packed : (Kind → ℕ) → List Kind → ℕ
packed f [] = 0
packed f (k ∷ ks) = f k + 4 * packed f ks

-- what a word, and what two words, say of a kind
unfoldable pub digits_of : (Kind → ℕ) → ℕ → ℕ
unfolding packed kinds
digits_of f n = digit_of (packed f kinds) n

unfoldable pub pairs_of : (Kind → ℕ) → ℕ → ℕ
unfolding digits_of
pairs_of f n = digits_of (λ k. f k % 4) n + digits_of (λ k. f k / 4) n * 4

abbrev second_of : Kind → ℕ
second_of k = use_code k.use_b

abbrev parameter_of : Kind → ℕ
parameter_of k = use_code k.use_p

abbrev sixth_of : Kind → ℕ
sixth_of k = use_code k.use_c

abbrev correlated_of : Kind → ℕ
correlated_of k = digit k.correlated

abbrev class_of : Kind → ℕ
class_of k = class_code (word_class k)

abbrev rule_of : Kind → ℕ
rule_of k = rule_code k.rule

abbrev length_of : Kind → ℕ
length_of k = length k.name

module _ (n : ℕ) (h : T (is_kind n)) where
  -- a number of each kind that a computed test finds to be another one
  equal : (f g : ℕ → ℕ) → T (all_below kind_count (λ m. eqb (f m) (g m))) → f n ≡ g n
  equal f g t = eqb→eq (f n) (g n) (kind-test (λ m. eqb (f m) (g m)) t n h)

  pub second_is : use_numbered (digits_of second_of n) ≡ use_told (kind_of n).use_b
  unfolding all_below kind_count kind_of digits_of
  second_is = ap use_numbered (equal (digits_of second_of) (λ m. second_of (kind_of m)) tt) ∙ use-back (kind_of n).use_b

  pub parameter-is : use_numbered (digits_of parameter_of n) ≡ use_told (kind_of n).use_p
  unfolding all_below kind_count kind_of digits_of
  parameter-is = ap use_numbered (equal (digits_of parameter_of) (λ m. parameter_of (kind_of m)) tt) ∙ use-back (kind_of n).use_p

  pub sixth-is : use_numbered (digits_of sixth_of n) ≡ use_told (kind_of n).use_c
  unfolding all_below kind_count kind_of digits_of
  sixth-is = ap use_numbered (equal (digits_of sixth_of) (λ m. sixth_of (kind_of m)) tt) ∙ use-back (kind_of n).use_c

  pub class-is : class_numbered (digits_of class_of n) ≡ word_class (kind_of n)
  unfolding all_below kind_count kind_of digits_of
  class-is = ap class_numbered (equal (digits_of class_of) (λ m. class_of (kind_of m)) tt) ∙ class-back (word_class (kind_of n))

  pub rule-is : rule_model (rule_numbered (pairs_of rule_of n)) ≡ (kind_of n).rule
  unfolding all_below kind_count kind_of pairs_of
  rule-is = ap (λ (x : ℕ). rule_model (rule_numbered x)) (equal (pairs_of rule_of) (λ m. rule_of (kind_of m)) tt) ∙ rule-back (kind_of n).rule

  pub length-is : pairs_of (λ k. length k.name) n ≡ length (kind_of n).name
  unfolding all_below kind_count kind_of pairs_of
  length-is = equal (pairs_of length_of) (λ m. length_of (kind_of m)) tt

  pub correlated-is : digits_of (λ k. digit k.correlated) n ≡ digit (kind_of n).correlated
  unfolding all_below kind_count kind_of digits_of
  correlated-is = equal (digits_of correlated_of) (λ m. correlated_of (kind_of m)) tt
