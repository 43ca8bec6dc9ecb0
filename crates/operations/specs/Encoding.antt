-- How the code writes what a kind's description says. Cited by contracts of inner functions alone: no public contract rests on it.
--   use_told u    the use of a word, as the code names it: one name for how many cells, and for their base row
--   is_plain u    the use of a word has nothing to do with cells;   is_number u   the word is a number
--   word_class k  which of the words b, p and the sixth a kind without cells uses;   uses_second x, uses_parameter x, uses_sixth x   that word is among them
--   rule_model r  the width rule that the code's name stands for
--   use_numbered n, class_numbered n, rule_numbered n   what a digit of a description, or two, stands for
--   digit_of word n   digit n of a word, two bits to a digit
--   sign_place signed w   the place of the sign of a number of w bits: 2^(w-1), or 0 where it is not signed
use Rattle.std.specs.Prelude.{ℕ, zero, suc, ◌-◌, ◌*◌, ◌/◌, ◌%◌, ◌^◌, Bool, true, false, cond, [], ◌∷◌, get_or}
use Rattle.bits.specs.Bit.{digit}
use Rattle.operations.specs.declared.descriptions.WordUse.{WordUse}
use Rattle.operations.specs.declared.descriptions.WordUse.TheVariants.{Nothing, Row, Number, Cells}
use Rattle.operations.specs.declared.descriptions.WordClass.{WordClass}
use Rattle.operations.specs.declared.descriptions.WordClass.TheVariants.{NoneUsed, Second, Parameter, SecondAndSixth}
use Rattle.operations.specs.declared.descriptions.WidthRule.{WidthRule}
use Rattle.operations.specs.declared.descriptions.WidthRule.TheVariants.{SameWidth, SameWidths, TakenWidth, JoinedWidths, ExtendedWidth, ComparedWidths, ChosenWidths, CellWidths}
use Rattle.operations.specs.Kind.{Use, as_row, as_number, as_count, as_base, unused, is_row, Kind, Rule, same_width, same_widths, taken_width, joined_widths, extended_width, compared_widths, chosen_widths, cell_widths}

abbrev pub use_told : Use → WordUse
use_told unused = Nothing
use_told as_row = Row
use_told as_number = Number
use_told as_count = Cells
use_told as_base = Cells

abbrev pub use_numbered : ℕ → WordUse
use_numbered zero = Nothing
use_numbered (suc zero) = Row
use_numbered (suc (suc zero)) = Number
use_numbered (suc (suc (suc n))) = Cells

abbrev pub is_plain : Use → Bool
is_plain as_row = true
is_plain as_number = true
is_plain as_count = false
is_plain as_base = false
is_plain unused = true

abbrev pub is_number : Use → Bool
is_number as_row = false
is_number as_number = true
is_number as_count = false
is_number as_base = false
is_number unused = false

abbrev pub word_class : Kind → WordClass
word_class k = cond (is_row k.use_c) SecondAndSixth (cond (is_number k.use_p) Parameter (cond (is_row k.use_b) Second NoneUsed))

abbrev pub uses_second : WordClass → Bool
uses_second NoneUsed = false
uses_second Second = true
uses_second Parameter = false
uses_second SecondAndSixth = true

abbrev pub uses_parameter : WordClass → Bool
uses_parameter NoneUsed = false
uses_parameter Second = false
uses_parameter Parameter = true
uses_parameter SecondAndSixth = false

abbrev pub uses_sixth : WordClass → Bool
uses_sixth NoneUsed = false
uses_sixth Second = false
uses_sixth Parameter = false
uses_sixth SecondAndSixth = true

abbrev pub class_numbered : ℕ → WordClass
class_numbered zero = NoneUsed
class_numbered (suc zero) = Second
class_numbered (suc (suc zero)) = Parameter
class_numbered (suc (suc (suc n))) = SecondAndSixth

abbrev pub rule_model : WidthRule → Rule
rule_model SameWidth = same_width
rule_model SameWidths = same_widths
rule_model TakenWidth = taken_width
rule_model JoinedWidths = joined_widths
rule_model ExtendedWidth = extended_width
rule_model ComparedWidths = compared_widths
rule_model ChosenWidths = chosen_widths
rule_model CellWidths = cell_widths

abbrev pub rule_numbered : ℕ → WidthRule
rule_numbered n = get_or (SameWidth ∷ SameWidths ∷ TakenWidth ∷ JoinedWidths ∷ ExtendedWidth ∷ ComparedWidths ∷ ChosenWidths ∷ []) n CellWidths

abbrev pub digit_of : ℕ → ℕ → ℕ
digit_of word n = word / 2 ^ (n * 2) % 4

abbrev pub sign_place : Bool → ℕ → ℕ
sign_place signed w = digit signed * 2 ^ (w - 1)
