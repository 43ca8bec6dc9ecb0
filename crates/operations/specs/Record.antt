-- A record's words, the rows that it names and writes, and its effects, all from the kind's description (01, "Records"; 02, requests 2 and 11).
--   kind_word, target_word, first_word, second_word, parameter_word, sixth_word   the six words of a record: kind, target row t, operand rows a and b, parameter p, and the sixth: a base row, or the condition
--   words_of r        the words of a record that the code holds as one value
--   kind_in words     the record's kind
--   used u a l, used_last u cs, operands k a b cs   of what stands for the words a and b and for the rows of the sixth word that whose word the kind uses as rows
--   sixth_rows u c n  the rows of the sixth word: the row c, or where c is a base row the n rows of its span
--   rows_named words  the operand rows that the words name, in their order;   target_rows words   the rows that the record writes
--   named_twice words its words a and b name one row, and to its kind both operands are then one number
--   once b l         where b holds, l without its second element;   again b l   where b holds, l with its first element twice
--   Part, parts_of words   for each row that the record writes: that row, its operand rows, and its parameter;   whole_part, cell_part   the two ways to have one
--   width_at widths i the width of row i
--   Effect           a target row, operand rows, and the target's new number as a function of the operands' numbers
--   effect_of         the effect of a part;  effects_of   a record's effects, one for each part
use Rattle.std.specs.Prelude.{Bool, true, false, cond, ◌&&◌, List, [], ◌∷◌, map, ℕ, ◌+◌, eqb, get_or}
use Rattle.bits.specs.Counted.{listed}
use Rattle.operations.specs.declared.Record.{Record}
use Rattle.operations.specs.Kind.{Use, as_row, as_number, as_count, as_base, unused, is_row, is_base, Kind}
use Rattle.operations.specs.Memory.{span}
use Rattle.operations.specs.Kinds.{kind_of}

abbrev pub kind_word : List ℕ → ℕ
kind_word words = get_or words 0 0

abbrev pub target_word : List ℕ → ℕ
target_word words = get_or words 1 0

abbrev pub first_word : List ℕ → ℕ
first_word words = get_or words 2 0

abbrev pub second_word : List ℕ → ℕ
second_word words = get_or words 3 0

abbrev pub parameter_word : List ℕ → ℕ
parameter_word words = get_or words 4 0

-- "the sixth is a base row, or for ite the condition" (02, request 11)
abbrev pub sixth_word : List ℕ → ℕ
sixth_word words = get_or words 5 0

abbrev pub words_of : Record → List ℕ
words_of r = r.kind ∷ r.t ∷ r.a ∷ r.b ∷ r.p ∷ r.c ∷ []

abbrev pub kind_in : List ℕ → Kind
kind_in words = kind_of (kind_word words)

abbrev pub width_at : List ℕ → ℕ → ℕ
width_at widths i = get_or widths i 0

-- ---- the rows that it names and writes

abbrev pub used : {A : Type 0} → Use → A → List A → List A
used as_row a l = a ∷ l
used as_number a l = l
used as_count a l = l
used as_base a l = l
used unused a l = l

abbrev pub used_last : {A : Type 0} → Use → List A → List A
used_last as_row cs = cs
used_last as_number cs = []
used_last as_count cs = []
used_last as_base cs = cs
used_last unused cs = []

abbrev pub operands : {A : Type 0} → Kind → A → A → List A → List A
operands k a b cs = used k.use_a a (used k.use_b b (used_last k.use_c cs))

abbrev pub sixth_rows : Use → ℕ → ℕ → List ℕ
sixth_rows u c n = cond (is_base u) (span c n) (c ∷ [])

unfoldable pub rows_named : List ℕ → List ℕ
rows_named words = operands (kind_in words) (first_word words) (second_word words) (sixth_rows (kind_in words).use_c (sixth_word words) (parameter_word words))

-- the row t; "every cell of a store's span is a target row" (02, request 11), whose word t is unused
unfoldable pub target_rows : List ℕ → List ℕ
target_rows words = cond (is_row (kind_in words).use_t) (target_word words ∷ []) (span (sixth_word words) (parameter_word words))

-- "where the first and second operand words name one row": it is the words that count, and not what the rows hold
unfoldable pub named_twice : List ℕ → Bool
named_twice words = (kind_in words).correlated && eqb (first_word words) (second_word words)

-- of a row named twice: the row once, for the operands, and its number again, for the plain function
abbrev pub once : {A : Type 0} → Bool → List A → List A
once false l = l
once true [] = []
once true (a ∷ []) = a ∷ []
once true (a ∷ b ∷ l) = a ∷ l

abbrev pub again : Bool → List ℕ → List ℕ
again false ns = ns
again true [] = []
again true (n ∷ ns) = n ∷ n ∷ ns

-- ---- its parts

pub record Part : Type 0 where
  pub target : ℕ
  pub operands : List ℕ
  pub parameter : ℕ

abbrev pub whole_part : List ℕ → Part
whole_part words = record { target = target_word words; operands = rows_named words; parameter = parameter_word words }

-- "its operands the address, the data and that cell" (02, request 11); the parameter is the cell's number, from 0
abbrev pub cell_part : List ℕ → ℕ → Part
cell_part words i =
    record {
      target = sixth_word words + i;
      operands = operands (kind_in words) (first_word words) (second_word words) ((sixth_word words + i) ∷ []);
      parameter = i;
    }

unfoldable pub parts_of : List ℕ → List Part
parts_of words = cond (is_row (kind_in words).use_t) (whole_part words ∷ []) (listed (cell_part words) 0 (parameter_word words))

-- ---- the effects: a row named twice stands once among the operands, and its number is taken for both

pub record Effect : Type 0 where
  pub target : ℕ
  pub operands : List ℕ
  pub value : List ℕ → ℕ

unfoldable pub effect_of : List ℕ → List ℕ → Part → Effect
effect_of widths words q =
    record {
      target = q.target;
      operands = once (named_twice words) q.operands;
      value = λ ns. (kind_in words).plain (width_at widths q.target) (map (width_at widths) q.operands) q.parameter (again (named_twice words) ns);
    }

unfoldable pub effects_of : List ℕ → List ℕ → List Effect
effects_of widths words = map (effect_of widths words) (parts_of words)
