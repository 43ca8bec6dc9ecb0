-- Tables grown out of old designs (02, request 13): the rows that are needed, and the records that stay (both 02's terms).
--   marked marks i          row i is marked
--   among i rows            row i is one of the rows
--   stays words need        the record stays, where `need` says which rows are needed after it
--   ceasing words           the rows that cease to be needed where it stays;   becoming words   the rows that become so
--   need_before words need   which rows are needed before a record that stays
--   kept_among t n need      the records that stay of the first n of t, rising, where `need` says which rows are needed after these n
--   kept_of t marks          the records of t that stay
use Rattle.std.specs.Prelude.{Bool, not, cond, ◌&&◌, ◌||◌, List, [], ◌∷◌, ◌++◌, ℕ, zero, suc, eqb, get_or}
use Rattle.vectors.specs.Lists.{some_of}
use Rattle.operations.specs.Kind.{is_row}
use Rattle.operations.specs.Record.{kind_in, target_word, first_word, second_word, rows_named, target_rows}
use Rattle.checks.specs.Table.{Table, record_count, record_of}

-- "one mark a row (1 keep, 0 not)"
abbrev pub marked : List ℕ → ℕ → Bool
marked marks i = eqb (get_or marks i 0) 1

abbrev pub among : ℕ → List ℕ → Bool
among i rows = some_of (λ j. eqb j i) rows

-- "a record stays exactly if its target (for a store, any row of its span, reachable or not) is needed then"
unfoldable pub stays : List ℕ → (ℕ → Bool) → Bool
stays words need = some_of need (target_rows words)

-- "its target ceases to be needed"; of a store, whose word t is unused, none does: "the other rows of its span stay needed or not as they were"
unfoldable pub ceasing : List ℕ → List ℕ
ceasing words = cond (is_row (kind_in words).use_t) (target_word words ∷ []) []

-- "its operands (for a load its address and its span) become so"; "Where a store stays, its address and data become needed"
unfoldable pub becoming : List ℕ → List ℕ
becoming words = cond (is_row (kind_in words).use_t) (rows_named words) (first_word words ∷ second_word words ∷ [])

-- a row that is target and operand is needed
unfoldable pub need_before : List ℕ → (ℕ → Bool) → ℕ → Bool
need_before words need i = among i (becoming words) || (need i && not (among i (ceasing words)))

-- "walk from the last record back"
unfoldable pub kept_among : Table → ℕ → (ℕ → Bool) → List ℕ
kept_among t zero need = []
kept_among t (suc n) need = cond (stays (record_of t n) need) (kept_among t n (need_before (record_of t n) need) ++ n ∷ []) (kept_among t n need)

abbrev pub kept_of : Table → List ℕ → List ℕ
kept_of t marks = kept_among t (record_count t) (marked marks)
