-- The checks 6 to 10 of a record, all from the kind's description (01, "Who can cause a refusal"; 02, request 11).
--   Fault, fault b n   a condition, and the number of the refusal that it causes
--   kind_unknown, word_outside, span_outside, misused, widths_fit, target_locked   the conditions of 6, 7, 7, 8, 9 (that it does not hold) and 10;   part_fits   9 of a part
--   named_faults n    checks 6 to 8 against n rows;  record_faults   checks 6 to 9, in order;  lock_fault   check 10
use Rattle.std.specs.Prelude.{Bool, false, not, ◌&&◌, List, [], ◌∷◌, ◌++◌, map, ℕ, ◌+◌, leb, ltb, eqb, length, get_or}
use Rattle.vectors.specs.Lists.{all_of, some_of}
use Rattle.operations.specs.Limits.{parameter_limit}
use Rattle.operations.specs.Kind.{asks, Use, as_row, as_number, as_count, as_base, unused, is_base}
use Rattle.operations.specs.Kinds.{is_kind}
use Rattle.operations.specs.Record.{kind_word, target_word, first_word, second_word, parameter_word, sixth_word, kind_in, width_at, target_rows, Part, parts_of}

pub record Fault : Type 0 where
  pub fails : Bool
  pub number : ℕ

abbrev pub fault : Bool → ℕ → Fault
fault b n = record { fails = b; number = n }

-- 6: kind unknown
abbrev pub kind_unknown : List ℕ → Bool
kind_unknown words = not (is_kind (kind_word words))

-- 7: a used row word outside the table, which has n rows
abbrev pub word_outside : ℕ → Use → ℕ → Bool
word_outside n as_row word = leb n word
word_outside n as_number word = false
word_outside n as_count word = false
word_outside n as_base word = leb n word
word_outside n unused word = false

-- 7: "Span past the table" (02, request 11); a count "over 256 is a span past the table", which has at most 256 rows
abbrev pub span_outside : ℕ → List ℕ → Bool
span_outside n words = is_base (kind_in words).use_c && ltb n (sixth_word words + parameter_word words)

-- 8: an unused word not 0, a shift, rotation or extract parameter over 31, or "n is the parameter; 0 is 8" (02, request 11)
abbrev pub misused : Use → ℕ → Bool
misused as_row word = false
misused as_number word = ltb parameter_limit word
misused as_count word = eqb word 0
misused as_base word = false
misused unused word = not (eqb word 0)

-- 9: widths don't fit
abbrev pub part_fits : List ℕ → List ℕ → Part → Bool
part_fits widths words q = asks (kind_in words).rule (width_at widths q.target) (map (width_at widths) q.operands) q.parameter

abbrev pub widths_fit : List ℕ → List ℕ → Bool
widths_fit widths words = all_of (part_fits widths words) (parts_of words)

-- 10: target row locked; "a locked row in a store's span" (02, request 11)
abbrev pub target_locked : List ℕ → List ℕ → Bool
target_locked locks words = some_of (λ i. eqb (get_or locks i 0) 1) (target_rows words)

abbrev pub named_faults : ℕ → List ℕ → List Fault
named_faults n words =
    fault (kind_unknown words) 6
    ∷ fault (word_outside n (kind_in words).use_t (target_word words)) 7
    ∷ fault (word_outside n (kind_in words).use_a (first_word words)) 7
    ∷ fault (word_outside n (kind_in words).use_b (second_word words)) 7
    ∷ fault (word_outside n (kind_in words).use_c (sixth_word words)) 7
    ∷ fault (span_outside n words) 7
    ∷ fault (misused (kind_in words).use_t (target_word words)) 8
    ∷ fault (misused (kind_in words).use_a (first_word words)) 8
    ∷ fault (misused (kind_in words).use_b (second_word words)) 8
    ∷ fault (misused (kind_in words).use_p (parameter_word words)) 8
    ∷ fault (misused (kind_in words).use_c (sixth_word words)) 8
    ∷ []

unfoldable pub record_faults : List ℕ → List ℕ → List Fault
record_faults widths words = named_faults (length widths) words ++ fault (not (widths_fit widths words)) 9 ∷ []

unfoldable pub lock_fault : List ℕ → List ℕ → List Fault
lock_fault locks words = fault (target_locked locks words) 10 ∷ []
