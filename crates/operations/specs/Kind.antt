-- What there is to say of a kind of operation (01, "Records" and "Points and plain runs"; 02, request 11).
--   bytes s         the bytes of a quoted word
--   Use             what a word of a record is to an operation: a row, a number, a number of cells, the base row of the cells, or nothing
--   is_row u, is_base u   the word is a row; the word is a base row
--   Rule            what an operation asks of the widths;   asks r   that, as a test
--   Kind            number, text name, use of the words t, a, b, p and the sixth, whether operands named twice are one number, width rule, plain number
--   first l, second l, third l   the operands' widths or numbers, in the order of the words
use Rattle.std.specs.Prelude.{Bool, true, false, ◌&&◌, List, [], ◌∷◌, ℕ, ◌+◌, leb, eqb, get_or, drop}
use Prim.Native.Char.{code}
use Prim.Native.String as S
use Rattle.vectors.specs.Lists.{all_of}

-- the bytes of a quoted word
abbrev pub bytes : S.String → List ℕ
bytes S.String.[] = []
bytes (S.◌∷◌ c s) = code c ∷ bytes s

pub data Use : Type 0 where
  as_row as_number as_count as_base unused : Use

abbrev pub is_row : Use → Bool
is_row as_row = true
is_row as_number = false
is_row as_count = false
is_row as_base = false
is_row unused = false

abbrev pub is_base : Use → Bool
is_base as_row = false
is_base as_number = false
is_base as_count = false
is_base as_base = true
is_base unused = false

pub data Rule : Type 0 where
  same_width same_widths taken_width joined_widths extended_width compared_widths chosen_widths cell_widths : Rule

-- correlated: "where the first and second operand words name one row, both operands are the same number" (02, request 2).
-- plain: of the target's width, the operand rows' widths, the parameter and the operands' numbers, the new number of the target in a plain run.
pub record Kind : Type 0 where
  pub number : ℕ
  pub name : List ℕ
  pub use_t : Use
  pub use_a : Use
  pub use_b : Use
  pub use_p : Use
  pub use_c : Use
  pub correlated : Bool
  pub rule : Rule
  pub plain : ℕ → List ℕ → ℕ → List ℕ → ℕ

abbrev pub first : List ℕ → ℕ
first l = get_or l 0 0

abbrev pub second : List ℕ → ℕ
second l = get_or l 1 0

abbrev pub third : List ℕ → ℕ
third l = get_or l 2 0

-- What a rule asks of the target's width, the operand rows' widths and the parameter.
abbrev pub asks : Rule → ℕ → List ℕ → ℕ → Bool
-- wt = wa
asks same_width wt ws p = eqb wt (first ws)
-- all widths equal
asks same_widths wt ws p = eqb wt (first ws) && eqb wt (second ws)
-- p + wt ≤ wa
asks taken_width wt ws p = leb (p + wt) (first ws)
-- wt = wa + wb
asks joined_widths wt ws p = eqb wt (first ws + second ws)
-- wt ≥ wa
asks extended_width wt ws p = leb (first ws) wt
-- wa = wb, wt = 1
asks compared_widths wt ws p = eqb (first ws) (second ws) && eqb wt 1
-- wt = wa = wb, and the condition row has width 1
asks chosen_widths wt ws p = eqb wt (first ws) && eqb wt (second ws) && eqb (third ws) 1
-- all widths but that of the address equal: "a cell whose width differs from that of a load's target or a store's data 9 (the address may have any width)" (02, request 11)
asks cell_widths wt ws p = all_of (eqb wt) (drop 1 ws)
