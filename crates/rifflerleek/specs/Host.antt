-- What a host program is handed: the paper's answer as a struct, of two numbers or of four, and what the call leaves (01, "Calls": "the result, or a refusal holding its number and its place").
--   host_result a b      a result of two numbers: refusal 0;   host_refusal n p   a refusal: its number and its place
--   number_answer      of run, size, write, reset_bits, settle and prune, whose result is one number;   count_answer   of count;   counts_answer   of read
--   ends_answer        of field: where the part begins and ends
--   bit_number b       an output bit as a number: 2 for X;   bit_answer   of product_bit
--   order_number o     an order as a number;   order_answer   of compare_states
--   four_refusal n p   a refusal of a call that gives four numbers: they are 0;   FourAnswers a r   r refuses as a does, or is done
--   pair_of x y        two of them as operands
--   range_answer       of range: a vector's mask and value, the smallest and the largest number;   range_held r   these of a host's answer
--   Outcome L         an answer, and what the call leaves in the slices;   outcome r left   these of a host
--   host_leaves, host_read   these of what run, reset_bits, settle, prune and write, and of what read answer and leave
use Rattle.std.specs.Prelude.{◌≡◌, ℕ}
use Rattle.vectors.specs.declared.OutputBit.{OutputBit}
use Rattle.vectors.specs.declared.OutputBit.TheVariants.{Zero, One, Unknown}
use Rattle.witness_search.specs.declared.Pair.{Pair}
use Rattle.range_search.specs.declared.Range.{Range}
use Rattle.checks.specs.Check.{Answer, done, refused, Leaves}
use Rattle.checks.specs.Table.{Table}
use Rattle.tables.specs.declared.Counted.{Counted}
use Rattle.grammar.specs.Cut.{Ends}
use Rattle.texts.specs.Calls.{Counts, ReadBack}
use Rattle.orders.specs.declared.Order.{Order}
use Rattle.orders.specs.declared.Order.TheVariants.{Equal, Inside, Around, NoneOfThese}
use Rattle.rifflerleek.specs.declared.Answer.{Answer as HostAnswer}
use Rattle.rifflerleek.specs.declared.vector_exports.FourNumbers.{FourNumbers}

abbrev pub host_result : ℕ → ℕ → HostAnswer
host_result a b = record { refusal = 0; place = 0; result = a; second_result = b }

abbrev pub host_refusal : ℕ → ℕ → HostAnswer
host_refusal number place = record { refusal = number; place = place; result = 0; second_result = 0 }

abbrev pub number_answer : Answer ℕ → HostAnswer
number_answer (done n) = host_result n 0
number_answer (refused number place) = host_refusal number place

-- "the unknown bits u of a row, and 2^u"
abbrev pub count_answer : Answer Counted → HostAnswer
count_answer (done c) = host_result c.unknown c.choices
count_answer (refused number place) = host_refusal number place

-- "answers both counts"
abbrev pub counts_answer : Answer Counts → HostAnswer
counts_answer (done c) = host_result c.rows c.records
counts_answer (refused number place) = host_refusal number place

-- "a part of the lent text": by its two ends
abbrev pub ends_answer : Ends → HostAnswer
ends_answer e = host_result e.start e.end

-- a bit is 0, 1 or X (01, "Abstract result"); the number 2 for X is this library's own
abbrev pub bit_number : OutputBit → ℕ
bit_number Zero = 0
bit_number One = 1
bit_number Unknown = 2

abbrev pub bit_answer : Answer OutputBit → HostAnswer
bit_answer (done b) = host_result (bit_number b) 0
bit_answer (refused number place) = host_refusal number place

-- "the first equal to, inside or around the second, or none of these" (02, request 12); the numbers are this library's own
abbrev pub order_number : Order → ℕ
order_number Equal = 0
order_number Inside = 1
order_number Around = 2
order_number NoneOfThese = 3

abbrev pub order_answer : Answer Order → HostAnswer
order_answer (done o) = host_result (order_number o) 0
order_answer (refused number place) = host_refusal number place

-- ---- four numbers

-- a refusal holds its number and its place, and no other number
abbrev pub four_refusal : ℕ → ℕ → FourNumbers
four_refusal number place = record { refusal = number; place = place; first = 0; second = 0; third = 0; fourth = 0 }

-- a result has refusal 0 and place 0; what its numbers are is another clause of the call
abbrev pub FourAnswers : Answer (Unit {0}) → FourNumbers → Type 0
FourAnswers (done u) r = (r.refusal ≡ 0) × (r.place ≡ 0)
FourAnswers (refused number place) r = r ≡ four_refusal number place

-- "pairs of covered operands" (02, request 7)
abbrev pub pair_of : ℕ → ℕ → Pair
pair_of x y = record { a = x; b = y }

-- "the best vector .. with the smallest and the largest of them" (02, request 8)
abbrev pub range_answer : Answer Range → FourNumbers
range_answer (done x) = record { refusal = 0; place = 0; first = x.mask; second = x.value; third = x.smallest; fourth = x.largest }
range_answer (refused number place) = four_refusal number place

abbrev pub range_held : FourNumbers → Range
range_held r = record { mask = r.first; value = r.second; smallest = r.third; largest = r.fourth }

-- ---- with what is left in the slices

pub record Outcome (L : Type 0) : Type 0 where
  pub answer : HostAnswer
  pub left : L

abbrev pub outcome : {L : Type 0} → HostAnswer → L → Outcome L
outcome r left = record { answer = r; left = left }

abbrev pub host_leaves : {L : Type 0} → Leaves L → Outcome L
host_leaves a = outcome (number_answer a.answer) a.left

abbrev pub host_read : ReadBack → Outcome Table
host_read back = outcome (counts_answer back.answer) back.slices
