-- `needs::sixth_rows` meets its contract: the cells of a load, and of the other kinds that write a row t the condition or nothing. Assumes nothing.
use mathlib.Core.Path.{◌≡◌, sym, ap, ◌∙◌, subst}
use mathlib.Core.Bool.{not}
use Prim.Native.Nat.{ℕ}
use lib.Dec.{T, T_not, not_T}
use Rattle.operations.specs.Kind.{is_row, is_base}
use Rattle.operations.specs.Kinds.{kind_of}
use Rattle.operations.specs.Memory.{span}
use Rattle.operations.specs.Record.{used_last, sixth_rows}
use Rattle.operations.proofs.Sound.{sixth-plain, sixth-no-number, load-or-store}
use Rattle.needs.specs.Encoding.{rows_told}
use Rattle.needs.proofs.RowWords.{last_word}
use Rattle.needs.proofs.sixth_rows.Goals as goal

cells : (k c p : ℕ) → k ≡ 24 → span c p ≡ used_last (kind_of k).use_c (sixth_rows (kind_of k).use_c c p)
unfolding kind_of
cells k c p e = sym (ap (λ (n : ℕ). used_last (kind_of n).use_c (sixth_rows (kind_of n).use_c c p)) e)

no_row : (k : ℕ) → k ≡ 25 → T (not (is_row (kind_of k).use_t))
unfolding kind_of
no_row k e = subst (λ (m : ℕ). T (not (is_row (kind_of m).use_t))) (sym e) tt

pub returns-then-r-eq-LOAD : goal.returns-then-r-eq-LOAD
returns-then-r-eq-LOAD c =
    let r = c.args.r in
    cells r.kind r.c r.p c.if-r-eq-LOAD.true

pub returns : goal.returns
returns c =
    let r = c.args.r in
    let none = not_T (is_base (kind_of r.kind).use_c) (λ b. T_not (is_row (kind_of r.kind).use_t) (no_row r.kind (load-or-store r.kind c.requires.0 b c.if-r-eq-LOAD.false)) c.requires.1) in
    ap (span r.c) (c.rows_of.ensures ∙ ap rows_told c.sixth_use.ensures) ∙ last_word (kind_of r.kind).use_c (sixth-plain r.kind c.requires.0 none) (sixth-no-number r.kind c.requires.0) r.c r.p
