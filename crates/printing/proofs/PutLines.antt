-- Writing a line: its parts in the order in which they are put. Assumes nothing.
--   row-begin, record-begin     a line, by its parts
use mathlib.Core.Path.{◌≡◌, sym, ap, ◌∙◌}
use mathlib.Core.List.{List, [], ◌∷◌, ◌++◌, append_assoc}
use Prim.Native.Nat.{ℕ}
use Rattle.vectors.specs.Row.{row}
use Rattle.operations.specs.declared.Record.{Record}
use Rattle.operations.specs.Kinds.{kind_of}
use Rattle.operations.specs.Record.{words_of}
use Rattle.grammar.specs.Words.{lf, tab, lock_word}
use Rattle.grammar.specs.Print.{decimal, letters_of, row_line, record_line, fields_of, joined, line_text}
use Rattle.printing.proofs.Puts.{Writing, begin}

-- ---- a row line

module _ (lock w m v : ℕ) where
  abbrev pub row_text : List ℕ
  row_text = line_text (row_line (record { lock = lock; vector = row w m v }))

  abbrev pub after_tab : List ℕ
  after_tab = letters_of w m v ++ lf ∷ []

  abbrev pub after_word : List ℕ
  after_word = lock_word lock ++ tab ∷ after_tab

  row-whole : 114 ∷ 111 ∷ 119 ∷ tab ∷ after_word ≡ row_text
  unfolding line_text fields_of joined
  row-whole = ap {B = List ℕ} (λ (x : List ℕ). 114 ∷ 111 ∷ 119 ∷ tab ∷ x) (sym (append_assoc (lock_word lock) (tab ∷ letters_of w m v) (lf ∷ [])))

  pub row-begin : (old : List ℕ) (at : ℕ) → Writing old at row_text old at (114 ∷ 111 ∷ 119 ∷ tab ∷ after_word)
  row-begin old at = begin old at row_text (114 ∷ 111 ∷ 119 ∷ tab ∷ after_word) row-whole

-- ---- a record line

module _ (r : Record) where
  abbrev pub record_text : List ℕ
  record_text = line_text (record_line (words_of r))

  abbrev pub after_b : List ℕ
  after_b = (tab ∷ decimal r.p ++ tab ∷ decimal r.c) ++ lf ∷ []

  abbrev pub after_t : List ℕ
  after_t = (tab ∷ decimal r.a ++ tab ∷ decimal r.b) ++ after_b

  abbrev pub after_name : List ℕ
  after_name = (tab ∷ decimal r.t) ++ after_t

  abbrev pub after_op : List ℕ
  after_op = (kind_of r.kind).name ++ after_name

  -- the numbers one by one
  abbrev singly : List ℕ
  singly = (tab ∷ decimal r.a) ++ ((tab ∷ decimal r.b) ++ ((tab ∷ decimal r.p) ++ ((tab ∷ decimal r.c) ++ lf ∷ [])))

  after-t-singly : after_t ≡ singly
  after-t-singly =
      append_assoc (tab ∷ decimal r.a) (tab ∷ decimal r.b) after_b
      ∙ ap (λ (x : List ℕ). (tab ∷ decimal r.a) ++ ((tab ∷ decimal r.b) ++ x)) (append_assoc (tab ∷ decimal r.p) (tab ∷ decimal r.c) (lf ∷ []))

  whole-singly : 111 ∷ 112 ∷ tab ∷ ((kind_of r.kind).name ++ ((tab ∷ decimal r.t) ++ singly)) ≡ record_text
  unfolding line_text fields_of joined
  whole-singly = simp append_assoc

  record-whole : 111 ∷ 112 ∷ tab ∷ after_op ≡ record_text
  record-whole = ap {B = List ℕ} (λ (x : List ℕ). 111 ∷ 112 ∷ tab ∷ ((kind_of r.kind).name ++ ((tab ∷ decimal r.t) ++ x))) after-t-singly ∙ whole-singly

  pub record-begin : (old : List ℕ) (at : ℕ) → Writing old at record_text old at (111 ∷ 112 ∷ tab ∷ after_op)
  record-begin old at = begin old at record_text (111 ∷ 112 ∷ tab ∷ after_op) record-whole
