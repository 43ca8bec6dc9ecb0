-- Cutting a text at a byte, and the field that a line number and a field number name (01, "Text" and "Calls": field).
--   onto b ps          the byte b put before the first part
--   pieces c bs        the parts before, between and after the bytes c: always one more than there are such bytes
--   before c bs        how many bytes stand before the first c
--   past c n bs        how many bytes stand up to the n-th c and with it; all of them where there are fewer
--   Ends               where a part of a text begins and ends;   between bs e   the bytes there
--   part_ends c n bs    the ends of part n, from 1, of the bytes cut at c; an empty part where there is none
--   within line field  ends inside a line, as ends inside the text;   field_ends   the ends of the field named
--   Part               bytes and where they lie: a block and an offset;   part_at p e   the part of p between the ends e
--   field_of            the part of the lent text that field hands back
use Rattle.std.specs.Prelude.{cond, List, [], ◌∷◌, ℕ, zero, suc, ◌+◌, ◌-◌, eqb, take, drop}
use Rattle.grammar.specs.Words.{lf, tab}

abbrev pub onto : ℕ → List (List ℕ) → List (List ℕ)
onto b [] = (b ∷ []) ∷ []
onto b (p ∷ ps) = (b ∷ p) ∷ ps

unfoldable pub pieces : ℕ → List ℕ → List (List ℕ)
pieces c [] = [] ∷ []
pieces c (b ∷ bs) = cond (eqb b c) ([] ∷ pieces c bs) (onto b (pieces c bs))

unfoldable pub before : ℕ → List ℕ → ℕ
before c [] = zero
before c (b ∷ bs) = cond (eqb b c) zero (suc (before c bs))

unfoldable pub past : ℕ → ℕ → List ℕ → ℕ
past c zero bs = zero
past c (suc n) [] = zero
past c (suc n) (b ∷ bs) = suc (cond (eqb b c) (past c n bs) (past c (suc n) bs))

-- ---- field

pub record Ends : Type 0 where
  pub start : ℕ
  pub end : ℕ

abbrev pub between : List ℕ → Ends → List ℕ
between bs e = take (e.end - e.start) (drop e.start bs)

unfoldable pub part_ends : ℕ → ℕ → List ℕ → Ends
part_ends c zero bs = record { start = 0; end = 0 }
part_ends c (suc n) bs = record { start = past c n bs; end = past c n bs + before c (drop (past c n bs) bs) }

-- "for a line number and a field number, both from 1": the field's ends inside its line, from where the line begins
abbrev pub within : Ends → Ends → Ends
within line field = record { start = line.start + field.start; end = line.start + field.end }

-- "Here bytes after the last LF count as a line."
unfoldable pub field_ends : List ℕ → ℕ → ℕ → Ends
field_ends text line field = within (part_ends lf line text) (part_ends tab field (between text (part_ends lf line text)))

pub record Part : Type 0 where
  pub block : ℕ
  pub offset : ℕ
  pub bytes : List ℕ

abbrev pub part_at : Part → Ends → Part
part_at p e = record { block = p.block; offset = p.offset + e.start; bytes = between p.bytes e }

-- "the field named is handed back as a part of the lent text, and an empty part where there is none"
unfoldable pub field_of : Part → ℕ → ℕ → Part
field_of text line field = part_at text (field_ends text.bytes line field)
