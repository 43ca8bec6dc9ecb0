-- One record under the conditions of 02, request 10: of a kind of the list it loses nothing; of any kind, each of its effects reads distinct rows among those that
-- it names, once it names none twice. Assumes nothing.
--   taken b i l g             an effect on row i of the rows l by the number g, of which the first two are one where b holds
--   free_effect widths words   the effect of a record without cells that names no row twice
use mathlib.Core.Path.{◌≡◌, refl, sym, ap, subst, ◌∙◌}
use mathlib.Core.Bool.{Bool, true, false, not, cond}
use mathlib.Core.List.{List, [], ◌∷◌, map, Memᴰ}
use Prim.Native.Nat.{ℕ, ◌+◌, ◌<◌}
use native.Mathlib.Omega.{arith}
use lib.Dec.{T, eqb→eq}
use Rattle.bits.specs.Counted.{listed}
use Rattle.vectors.specs.Lists.{All, Missing, Distinct}
use Rattle.vectors.specs.Row.{Row, WellFormed}
use Rattle.vectors.proofs.Lists.{◌⨾◌, all_map, all_both, all-member}
use Rattle.vectors.proofs.ListParts.{listed-all, all_listed}
use Rattle.operations.specs.Kind.{asks, Use, as_row, as_number, as_count, as_base, unused, is_row, is_base, Kind}
use Rattle.operations.specs.Bitwise.{op_copy, op_not, op_and, op_or, op_xor}
use Rattle.operations.specs.Moves.{op_shl, op_lshr, op_rotl, op_extract, op_concat, op_zext}
use Rattle.operations.specs.Kinds.{is_kind}
use Rattle.operations.specs.Record.{Effect, Part, kind_word, kind_in, target_word, first_word, second_word, parameter_word, sixth_word, used, used_last, operands, sixth_rows, rows_named, named_twice, once, again, width_at, whole_part, cell_part, parts_of, effect_of, effects_of}
use Rattle.operations.specs.Result.{widths_of}
use Rattle.operations.proofs.Bounded.{kind-bounded}
use Rattle.operations.proofs.Sound.{cells-written}
use Rattle.operations.proofs.Twice.{starts_twice, named-starts}
use Rattle.operations.proofs.Parts.{target_row, parts-operands, rows-one, one-fits}
use Rattle.checks.specs.Accepted.{RecordPassed}
use Rattle.tables.proofs.Fits.{one-effect}
use Rattle.lossless.specs.Conditions.{lossless_kinds}
use Rattle.lossless.proofs.Local.{Lossless, lossless}
use Rattle.lossless.proofs.LocalKinds.{kind-local}

-- ---- a kind of the list

pub listed_plain : (words : List ℕ) → Memᴰ (kind_in words) lossless_kinds → T (not (is_base (kind_in words).use_c))
unfolding lossless_kinds op_copy op_not op_and op_or op_xor op_shl op_lshr op_rotl op_extract op_concat op_zext
listed_plain words m = all-member (λ k. T (not (is_base k.use_c))) lossless_kinds (tt ⨾ tt ⨾ tt ⨾ tt ⨾ tt ⨾ tt ⨾ tt ⨾ tt ⨾ tt ⨾ tt ⨾ tt ⨾ tt) m

-- passed by its checks it loses nothing
pub record-lossless : (widths words : List ℕ) → RecordPassed widths words → Memᴰ (kind_in words) lossless_kinds
    → (rows : List Row) → All WellFormed rows → widths_of rows ≡ map (width_at widths) (rows_named words)
    → Lossless (width_at widths (target_word words)) ((kind_in words).plain (width_at widths (target_word words)) (map (width_at widths) (rows_named words)) (parameter_word words)) rows
record-lossless widths words R m rows F e =
    let wt = width_at widths (target_word words) in
    let p = parameter_word words in
    let none = listed_plain words m in
    let named = ap (map (width_at widths)) (rows-one words R.kind_known none) in
    let fits : T (asks (kind_in words).rule wt (widths_of rows) p) = subst (λ (ws : List ℕ). T (asks (kind_in words).rule wt ws p)) (sym (e ∙ named)) (subst T (one-fits widths words R.kind_known none) R.widths_are_fit) in
    subst (λ (ws : List ℕ). Lossless wt ((kind_in words).plain wt ws p) rows) e
    (lossless wt ((kind_in words).plain wt (widths_of rows) p) rows F (λ ns c. kind-bounded (kind_word words) wt p (widths_of rows) ns fits c) (kind-local (kind_in words) m wt p (widths_of rows) fits))

-- ---- no row named twice

starts-once : (l : List ℕ) → Distinct l → T (starts_twice l) → ⊥
starts-once [] D t = t
starts-once (a ∷ []) D t = t
starts-once (a ∷ b ∷ l) D t = D.0.0 (sym (eqb→eq a b t))

abbrev taken : Bool → ℕ → List ℕ → (List ℕ → ℕ) → Effect
taken b i l g = record { target = i; operands = once b l; value = λ ns. g (again b ns) }

not-again : (b : Bool) → (T b → ⊥) → (i : ℕ) (l : List ℕ) (g : List ℕ → ℕ) → taken b i l g ≡ record { target = i; operands = l; value = g }
not-again true h i l g = absurd (h tt)
not-again false h i l g = refl

never-twice : (words : List ℕ) → T (is_kind (kind_word words)) → Distinct (rows_named words) → T (named_twice words) → ⊥
unfolding rows_named
never-twice words h D u = starts-once (rows_named words) D (named-starts words h u _)

abbrev pub free_effect : List ℕ → List ℕ → Effect
free_effect widths words =
    record {
      target = target_word words;
      operands = rows_named words;
      value = (kind_in words).plain (width_at widths (target_word words)) (map (width_at widths) (rows_named words)) (parameter_word words);
    }

pub effects-free : (widths words : List ℕ) → T (is_kind (kind_word words)) → T (not (is_base (kind_in words).use_c)) → Distinct (rows_named words) → effects_of widths words ≡ free_effect widths words ∷ []
unfolding effect_of
effects-free widths words h none D =
    one-effect widths words (target_row words h none)
    ∙ ap (λ (e : Effect). e ∷ [])
    (not-again (named_twice words) (never-twice words h D) (target_word words) (rows_named words)
    ((kind_in words).plain (width_at widths (target_word words)) (map (width_at widths) (rows_named words)) (parameter_word words)))

-- ---- the operand rows of each part are distinct

-- what is missing from a list, and that it is distinct, kept where a word is put before it
missing-used : (u : Use) (a x : ℕ) (l m : List ℕ) → (Missing x l → Missing x m) → Missing x (used u a l) → Missing x (used u a m)
missing-used as_row a x l m f q = (q.0, f q.1)
missing-used as_number a x l m f q = f q
missing-used as_count a x l m f q = f q
missing-used as_base a x l m f q = f q
missing-used unused a x l m f q = f q

distinct-used : (u : Use) (a : ℕ) (l m : List ℕ) → ((x : ℕ) → Missing x l → Missing x m) → (Distinct l → Distinct m) → Distinct (used u a l) → Distinct (used u a m)
distinct-used as_row a l m f g D = (f a D.0, g D.1)
distinct-used as_number a l m f g D = g D
distinct-used as_count a l m f g D = g D
distinct-used as_base a l m f g D = g D
distinct-used unused a l m f g D = g D

-- one cell of a span for the whole span
cell-missing : (u : Use) (x c n i : ℕ) → T (is_base u) → i < n → Missing x (used_last u (sixth_rows u c n)) → Missing x (used_last u ((c + i) ∷ []))
cell-missing as_row x c n i z h q = absurd z
cell-missing as_number x c n i z h q = absurd z
cell-missing as_count x c n i z h q = absurd z
cell-missing as_base x c n i z h q = (all_listed (λ j. ¬ (j ≡ x)) (λ j. j) c n q (c + i) (omega arith) (omega arith), tt)
cell-missing unused x c n i z h q = absurd z

cell-distinct : (u : Use) (c : ℕ) → Distinct (used_last u (c ∷ []))
cell-distinct as_row c = (tt, tt)
cell-distinct as_number c = tt
cell-distinct as_count c = tt
cell-distinct as_base c = (tt, tt)
cell-distinct unused c = tt

parts-distinct : (words : List ℕ) → T (is_kind (kind_word words)) → Distinct (rows_named words) → All (λ q. Distinct q.operands) (parts_of words)
unfolding parts_of rows_named
parts-distinct words h D = go (is_row k.use_t) (cells-written (kind_word words) h)
  where
    k : Kind
    k = kind_in words

    go : (b : Bool) → (T (not b) → T (is_base k.use_c)) → All (λ q. Distinct q.operands) (cond b (whole_part words ∷ []) (listed (cell_part words) 0 (parameter_word words)))
    go true z = (D, tt)
    go false z =
        listed-all (λ q. Distinct q.operands) (cell_part words) 0 (parameter_word words)
        (λ i l u. distinct-used k.use_a (first_word words) _ _
        (λ x. missing-used k.use_b (second_word words) x _ _ (cell-missing k.use_c x (sixth_word words) (parameter_word words) i (z tt) (omega arith)))
        (distinct-used k.use_b (second_word words) _ _ (λ x. cell-missing k.use_c x (sixth_word words) (parameter_word words) i (z tt) (omega arith)) (λ e. cell-distinct k.use_c (sixth_word words + i))) D)

-- each effect reads distinct rows, of which holds what holds of all rows named
pub effects-fresh : (widths words : List ℕ) → T (is_kind (kind_word words)) → (F : ℕ → Type 0) → Distinct (rows_named words) → All F (rows_named words)
    → All (λ l. Distinct l.operands × All F l.operands) (effects_of widths words)
unfolding effects_of effect_of
effects-fresh widths words h F D r =
    all_map (λ l. Distinct l.operands × All F l.operands) (effect_of widths words)
    (λ q p. subst (λ (e : Effect). Distinct e.operands × All F e.operands) (sym (not-again (named_twice words) (never-twice words h D) q.target q.operands (plain q))) p)
    (parts_of words) (all_both (λ q d f. (d, f)) (parts_of words) (parts-distinct words h D) (parts-operands words h F r))
  where
    plain : Part → List ℕ → ℕ
    plain q ns = (kind_in words).plain (width_at widths q.target) (map (width_at widths) q.operands) q.parameter ns
