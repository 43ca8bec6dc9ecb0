-- The round trips through the text (demand 2, as 02, requests 5 and 11, narrow it), as statements about what the calls leave.
--   Roomy t lent                the lent slices are long enough for the table t
--   TableBack t out lent got    got is what read leaves of the slices lent, on the text that write put into out: that table, the rest untouched
--   Back bytes text lent out got   got is what write leaves of out, on the table that read put into the slices lent: the bytes, the rest untouched
--   FormBack, BytesBack         the bytes are the edition-3 form of the text;   they are the text, where it is of edition 3
use Rattle.std.specs.Prelude.{◌≡◌, List, ℕ, ◌≤◌, T, length}
use Rattle.checks.specs.Check.{done}
use Rattle.checks.specs.Table.{Table}
use Rattle.grammar.specs.Lists.{filled}
use Rattle.grammar.specs.Words.{header3}
use Rattle.grammar.specs.Lines.{headed_by}
use Rattle.grammar.specs.Form.{form_of}
use Rattle.texts.specs.Calls.{Written, write_of, Counts, counts_of, ReadBack, filled_with, read_of, first_of}

pub record Roomy (t lent : Table) : Type 0 where
  pub locks_same : length lent.locks ≡ length lent.widths
  pub masks_same : length lent.masks ≡ length lent.widths
  pub values_same : length lent.values ≡ length lent.widths
  pub rows_hold : length t.widths ≤ length lent.widths
  pub words_hold : length t.words ≤ length lent.words

-- a table that is written, and slices long enough
abbrev pub TableBack : Table → List ℕ → Table → ReadBack → Type 0
TableBack t out lent got = (n : ℕ) → (write_of t out).answer ≡ done n → Roomy t lent → got ≡ record { answer = done (counts_of t); slices = filled_with t lent }

-- a text that is read, and whose table is written
abbrev pub Back : List ℕ → List ℕ → Table → List ℕ → Written → Type 0
Back bytes text lent out got =
    (c : Counts) → (read_of text lent).answer ≡ done c → (n : ℕ) → (write_of (first_of c (read_of text lent).slices) out).answer ≡ done n
    → got ≡ record { answer = done (length bytes); left = filled bytes out }

-- "the writer prints that with its header .. and older ones are read only" (02, request 11)
abbrev pub FormBack : List ℕ → Table → List ℕ → Written → Type 0
FormBack text lent out got = Back (form_of text) text lent out got

-- "the byte round trip is that edition's" (02, request 11)
abbrev pub BytesBack : List ℕ → Table → List ℕ → Written → Type 0
BytesBack text lent out got = T (headed_by header3 text) → Back text text lent out got
