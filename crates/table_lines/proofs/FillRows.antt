-- The second pass over the row lines of a text. Assumes nothing.
--   Filling, begin, more, done   the loop
--   ends-in, no_record, no-outside   while a row is left, the next line is a row line with its LF
--   lengths                      the slices keep their lengths
use mathlib.Core.Path.{◌≡◌, refl, sym, ap, ap₂, ◌∙◌}
use mathlib.Core.Bool.{true, false}
use mathlib.Core.Logic.{inl, inr}
use mathlib.Core.List.{List, [], ◌∷◌, ◌++◌, map}
use Prim.Native.Nat.{ℕ, suc, ◌+◌, ◌-◌, ◌≤◌, ◌<◌}
use native.Mathlib.Nat.{eq-or-lt_of_le}
use native.Mathlib.Numerals.{add-one}
use native.Mathlib.Omega.{arith}
use lib.ListN.{length, get_or, take, drop, set, length-map, length-drop, drop_of_length-le}
use lib.Seq.{sets, length-sets, take-suc, take_all, drop-cons, length-take-le}
use Rattle.vectors.specs.Row.{row}
use Rattle.grammar.specs.Words.{lf, tab, Edition}
use Rattle.grammar.specs.Print.{LineRow, Line, row_line, record_line, outside}
use Rattle.grammar.specs.Cut.{pieces, before}
use Rattle.grammar.specs.Line.{line_of}
use Rattle.grammar.specs.Lines.{lines_from, first_bad, rows_in, words_in}
use Rattle.grammar.proofs.Cuts.{before-le}
use Rattle.grammar.proofs.Sorted.{bad-any, no-rows-after}
use Rattle.table_lines.specs.Fill.{RowsWait, RowsRead}
use Rattle.printing.proofs.Puts.{sets-append}
use Rattle.table_lines.proofs.Surveys.{lines-on, lines-last, lines_end}

none : LineRow
none = record { lock = 0; vector = row 0 0 0 }

-- the first k rows are in column f
abbrev pub SoFar : Edition → List ℕ → ℕ → (LineRow → ℕ) → List ℕ → List ℕ → Type 0
SoFar ed text k f old new = new ≡ sets old 0 (map f (take k (rows_in (lines_from ed text))))

pub record Filling (ed : Edition) (text : List ℕ) (at k : ℕ) (ws ws' ls ls' ms ms' vs vs' : List ℕ) : Type 0 where
  pub widths_are : SoFar ed text k (λ r. r.vector.width) ws ws'
  pub locks_are : SoFar ed text k (λ r. r.lock) ls ls'
  pub masks_are : SoFar ed text k (λ r. r.vector.mask) ms ms'
  pub values_are : SoFar ed text k (λ r. r.vector.value) vs vs'
  pub inside : at ≤ length text
  pub few : k ≤ length (rows_in (lines_from ed text))
  pub rows_left : rows_in (lines_from ed (drop at text)) ≡ drop k (rows_in (lines_from ed text))
  pub words_left : words_in (lines_from ed (drop at text)) ≡ words_in (lines_from ed text)
  pub good_left : first_bad false 1 (lines_from ed (drop at text)) ≡ 0

pub begin : (ed : Edition) (text : List ℕ) (n : ℕ) (ws ls ms vs : List ℕ) → RowsWait ed text n ws ls ms vs → Filling ed text 0 0 ws ws ls ls ms ms vs vs
begin ed text n ws ls ms vs h =
    record { widths_are = refl; locks_are = refl; masks_are = refl; values_are = refl; inside = omega arith; few = omega arith; rows_left = refl; words_left = refl; good_left = h.good }

-- ---- one more element of a column

map_snoc : (f : LineRow → ℕ) (l : List LineRow) (r : LineRow) → map f (l ++ r ∷ []) ≡ map f l ++ f r ∷ []
map_snoc f [] r = refl
map_snoc f (x ∷ l) r = ap {B = List ℕ} (λ (t : List ℕ). f x ∷ t) (map_snoc f l r)

column-more : (ed : Edition) (text : List ℕ) (k : ℕ) (f : LineRow → ℕ) (old new : List ℕ) → k < length (rows_in (lines_from ed text)) → SoFar ed text k f old new
    → (x : ℕ) → x ≡ f (get_or (rows_in (lines_from ed text)) k none) → SoFar ed text (k + 1) f old (set new k x)
column-more ed text k f old new h s x e =
    let rs = rows_in (lines_from ed text) in
    let n : 0 + length (map f (take k rs)) ≡ k = omega (arith, length-map (take k rs) f, length-take-le k rs (omega arith)) in
    sym (ap (λ (j : ℕ). sets old 0 (map f (take j rs))) (add-one k)
    ∙ ap (λ (l : List LineRow). sets old 0 (map f l)) (take-suc rs k none h)
    ∙ ap (sets old 0) (map_snoc f (take k rs) (get_or rs k none))
    ∙ sets-append old 0 (map f (take k rs)) (f (get_or rs k none) ∷ [])
    ∙ ap₂ (λ (o : List ℕ) (j : ℕ). set o j (f (get_or rs k none))) (sym s) n
    ∙ ap (set new k) (sym e))

column-length : (ed : Edition) (text : List ℕ) (k : ℕ) (f : LineRow → ℕ) (old new : List ℕ) → SoFar ed text k f old new → length new ≡ length old
column-length ed text k f old new s = ap length s ∙ length-sets old 0 (map f (take k (rows_in (lines_from ed text))))

-- ---- the loop

module _ {ed : Edition} {text : List ℕ} {at k : ℕ} {ws ws' ls ls' ms ms' vs vs' : List ℕ} (s : Filling ed text at k ws ws' ls ls' ms ms' vs vs') where
  pub lengths : (length ws' ≡ length ws) × (length ls' ≡ length ls) × (length ms' ≡ length ms) × (length vs' ≡ length vs)
  lengths = (
    column-length ed text k (λ r. r.vector.width) ws ws' s.widths_are,
    column-length ed text k (λ r. r.lock) ls ls' s.locks_are,
    column-length ed text k (λ r. r.vector.mask) ms ms' s.masks_are,
    column-length ed text k (λ r. r.vector.value) vs vs' s.values_are,
  )

  rows_next : (ls : List Line) → lines_from ed (drop at text) ≡ ls → rows_in ls ≡ drop k (rows_in (lines_from ed text))
  rows_next ls e = sym (ap rows_in e) ∙ s.rows_left

  good-next : (ls : List Line) → lines_from ed (drop at text) ≡ ls → first_bad false 1 ls ≡ 0
  good-next ls e = sym (ap (first_bad false 1) e) ∙ s.good_left

  -- while a row is left, so is an LF
  pub ends-in : (e : ℕ) → e ≡ at + before lf (drop at text) → k < length (rows_in (lines_from ed text)) → e < length text
  unfolding first_bad rows_in
  ends-in e h l =
      elim (eq-or-lt_of_le inside) [
        | inr m ↦ m
        | inl m ↦ elim (eq-or-lt_of_le s.inside) [
          | inl z ↦ absurd (omega (arith, l, length-drop k (rows_in (lines_from ed text)), ap length (rows_next [] (lines_end ed text at (omega arith)))))
          | inr z ↦ absurd (omega (arith, good-next (outside ∷ []) (lines-last ed text at e h z m)))
        ]
      ]
    where
      inside : e ≤ length text
      inside = omega (arith, h, before-le lf (drop at text), length-drop at text, s.inside)

  module _ (e : ℕ) (h : e ≡ at + before lf (drop at text)) (m : k < length (rows_in (lines_from ed text))) (l : Line) (is : l ≡ line_of ed (pieces tab (take (e - at) (drop at text)))) where
    here : (x : Line) → l ≡ x → lines_from ed (drop at text) ≡ x ∷ lines_from ed (drop (e + 1) text)
    here x o = lines-on ed text at e h (ends-in e h m) ∙ ap {B = List Line} (λ (y : Line). y ∷ lines_from ed (drop (e + 1) text)) (sym is ∙ o)

    pub no_record : (ws : List ℕ) → l ≡ record_line ws → ⊥
    unfolding first_bad rows_in
    no_record ws o =
        let there = here (record_line ws) o in
        let nil = no-rows-after 1 (lines_from ed (drop (e + 1) text)) (good-next (record_line ws ∷ lines_from ed (drop (e + 1) text)) there) in
        omega (arith, m, length-drop k (rows_in (lines_from ed text)), ap length (sym nil ∙ rows_next (record_line ws ∷ lines_from ed (drop (e + 1) text)) there))

    pub no-outside : l ≡ outside → ⊥
    unfolding first_bad
    no-outside o = omega (arith, good-next (outside ∷ lines_from ed (drop (e + 1) text)) (here outside o))

    pub more : (r : LineRow) → l ≡ row_line r
        → Filling ed text (e + 1) (k + 1) ws (set ws' k r.vector.width) ls (set ls' k r.lock) ms (set ms' k r.vector.mask) vs (set vs' k r.vector.value)
    unfolding first_bad rows_in words_in
    more r o =
        let there = here (row_line r) o in
        let rs = rows_in (lines_from ed text) in
        let both = rows_next (row_line r ∷ lines_from ed (drop (e + 1) text)) there ∙ drop-cons rs k none m in
        let r-is : r ≡ get_or rs k none = cc in
        let rest : rows_in (lines_from ed (drop (e + 1) text)) ≡ drop (suc k) rs = cc in
        record {
          widths_are = column-more ed text k (λ r. r.vector.width) ws ws' m s.widths_are r.vector.width (ap (λ (x : LineRow). x.vector.width) r-is);
          locks_are = column-more ed text k (λ r. r.lock) ls ls' m s.locks_are r.lock (ap (λ (x : LineRow). x.lock) r-is);
          masks_are = column-more ed text k (λ r. r.vector.mask) ms ms' m s.masks_are r.vector.mask (ap (λ (x : LineRow). x.vector.mask) r-is);
          values_are = column-more ed text k (λ r. r.vector.value) vs vs' m s.values_are r.vector.value (ap (λ (x : LineRow). x.vector.value) r-is);
          inside = omega (arith, ends-in e h m);
          few = omega (arith, m);
          rows_left = rest ∙ ap (λ (j : ℕ). drop j rs) (sym (add-one k));
          words_left = sym (ap words_in there) ∙ s.words_left;
          good_left = bad-any false 1 1 (lines_from ed (drop (e + 1) text)) (good-next (row_line r ∷ lines_from ed (drop (e + 1) text)) there);
        }

-- no row is left
only-records : (n : ℕ) (ls : List Line) → rows_in ls ≡ [] → first_bad false n ls ≡ 0 → first_bad true n ls ≡ 0
unfolding first_bad rows_in
only-records n [] e g = g
only-records n (row_line r ∷ ls) e g = absurd (omega (arith, ap length e))
only-records n (record_line ws ∷ ls) e g = g
only-records n (outside ∷ ls) e g = g

pub done : {ed : Edition} {text : List ℕ} {at k : ℕ} {ws ws' ls ls' ms ms' vs vs' : List ℕ} → Filling ed text at k ws ws' ls ls' ms ms' vs vs' → length (rows_in (lines_from ed text)) ≤ k → RowsRead ed text at ws ws' ls ls' ms ms' vs vs'
done {ed} {text} {at} {k} {ws} {ws'} {ls} {ls'} {ms} {ms'} {vs} {vs'} s h =
    let rs = rows_in (lines_from ed text) in
    let all = take_all k rs h in
    record {
      widths_are = s.widths_are ∙ ap (λ (l : List LineRow). sets ws 0 (map (λ (r : LineRow). r.vector.width) l)) all;
      locks_are = s.locks_are ∙ ap (λ (l : List LineRow). sets ls 0 (map (λ (r : LineRow). r.lock) l)) all;
      masks_are = s.masks_are ∙ ap (λ (l : List LineRow). sets ms 0 (map (λ (r : LineRow). r.vector.mask) l)) all;
      values_are = s.values_are ∙ ap (λ (l : List LineRow). sets vs 0 (map (λ (r : LineRow). r.vector.value) l)) all;
      inside = s.inside;
      words_left = s.words_left;
      good_left = only-records 1 (lines_from ed (drop at text)) (s.rows_left ∙ drop_of_length-le rs h) s.good_left;
    }
