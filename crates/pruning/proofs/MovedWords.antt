-- Words that move down, word by word, and zeros that follow them. Assumes nothing.
--   moved_from l from     the words from a place on, and zeros for those before it
--   Moved l from now j   the words before j have moved, the others are as they were
use mathlib.Core.Path.{◌≡◌, refl, sym, ap, ◌∙◌}
use mathlib.Core.List.{List, [], ◌∷◌, ◌++◌}
use Prim.Native.Nat.{ℕ, zero, suc, ◌+◌, ◌-◌, ◌*◌, ◌/◌, ◌≤◌, ◌<◌}
use native.Mathlib.Omega.{arith}
use lib.ListN.{length, get_or, set, drop, replicate, length-append, length-drop, length-replicate}
use lib.Seq.{get_or-drop, get_or-set_other}
use Rattle.operations.specs.Limits.{record_words}
use Rattle.checks.specs.Table.{Table, record_count}
use Rattle.checks.specs.Model.{lent}
use Rattle.needs.specs.Needs.{marked, kept_among, kept_of}
use Rattle.needs.specs.Prune.{words_kept, moved_down}
use Rattle.steps.proofs.Copies.{Copied, copied-start, copied_next, copied-end}

abbrev pub moved_from : List ℕ → ℕ → List ℕ
moved_from l from = drop from l ++ replicate from 0

pub zeros-at : (n j : ℕ) → get_or {A = ℕ} (replicate n 0) j 0 ≡ 0
zeros-at zero j = refl
zeros-at (suc n) zero = refl
zeros-at (suc n) (suc j) = zeros-at n j

-- zeros at the end are what is found past the end
past_end : (l : List ℕ) (n j : ℕ) → get_or (l ++ replicate n 0) j 0 ≡ get_or l j 0
past_end [] n j = zeros-at n j
past_end (x ∷ l) n zero = refl
past_end (x ∷ l) n (suc j) = past_end l n j

pub record Moved (l : List ℕ) (from : ℕ) (now : List ℕ) (j : ℕ) : Type 0 where
  pub before : Copied (moved_from l from) now j
  pub rest : (k : ℕ) → j ≤ k → get_or now k 0 ≡ get_or l k 0

module _ (l : List ℕ) (from : ℕ) (h : from ≤ length l) where
  moved_length : length (moved_from l from) ≡ length l
  moved_length = let d = length-drop from l in let r = length-replicate {A = ℕ} from 0 in omega (arith, length-append (drop from l) (replicate from 0))

  pub moved-start : Moved l from l 0
  moved-start = record { before = copied-start (moved_from l from) l (sym moved_length); rest = λ k g. refl }

  -- what stands `from` places after j has not moved yet
  pub moved-next : (now : List ℕ) (j x : ℕ) → j < length l → x ≡ get_or (drop from now) j 0 → Moved l from now j → Moved l from (set now j x) (j + 1)
  moved-next now j x i e M =
      record {
        before = copied_next (moved_from l from) now j x
            (e ∙ get_or-drop from now j 0 ∙ M.rest (from + j) (omega arith) ∙ sym (past_end (drop from l) from j ∙ get_or-drop from l j 0))
            (let m = moved_length in omega arith) M.before;
        rest = λ k g. get_or-set_other now j k x 0 (λ p. omega arith) ∙ M.rest k (omega arith);
      }

  pub moved-end : (now : List ℕ) (j : ℕ) → length l ≤ j → Moved l from now j → now ≡ moved_from l from
  moved-end now j g M = copied-end (moved_from l from) now j (let m = moved_length in omega arith) M.before

-- ---- both passes

-- need: the bytes after the marks are taken over; up, down: the words after each pass
module _ (words marks need : List ℕ) (same : (i : ℕ) → marked need i ≡ marked marks i) (up down : List ℕ) (first : ℕ) where
  abbrev t : Table
  t = lent [] [] [] [] words

  same_kept : kept_of t need ≡ kept_of t marks
  same_kept = λ ι. kept_among t (record_count t) (λ i. same i ι)

  pub passes-done : (first + length (kept_of t need) ≡ length words / record_words) × (length up ≡ length words) × (drop (record_words * first) up ≡ words_kept t (kept_of t need))
      → down ≡ moved_from up (record_words * first) → (length down / record_words - first ≡ length (kept_of t marks)) × (down ≡ moved_down t (kept_of t marks))
  passes-done B e =
      let inside : record_words * first ≤ length up = let c = B.0 in let l = B.1 in omega arith in
      let long : length down ≡ length words = ap length e ∙ moved_length up (record_words * first) inside ∙ B.1 in
      let kept : drop (record_words * first) up ≡ words_kept t (kept_of t marks) = B.2 ∙ ap (words_kept t) same_kept in
      let freed : record_words * first ≡ length words - length (words_kept t (kept_of t marks)) =
      let k = ap length kept in let d = length-drop (record_words * first) up in let l = B.1 in omega arith in (
        (let c = B.0 in let k = ap length same_kept in omega arith),
        e ∙ (λ ι. kept ι ++ replicate (freed ι) 0),
      )
