-- `checks::cells::target_marked` meets its contract: the cells of a store, the row t of any other kind. Assumes nothing.
use mathlib.Core.Path.{◌≡◌, sym, subst, ◌∙◌}
use mathlib.Core.Bool.{not}
use Prim.Native.Nat.{ℕ}
use native.Mathlib.Omega.{arith}
use lib.Dec.{T, eqb}
use lib.ListN.{get_or}
use Rattle.operations.specs.Kind.{is_row}
use Rattle.operations.specs.Kinds.{kind_of}
use Rattle.operations.proofs.Sound.{only_store}
use Rattle.checks.proofs.Memory.{store-targets, row-targets}
use Rattle.checks.proofs.cells.target_marked.Goals as goal

-- a store has no row t
no_row : (k : ℕ) → k ≡ 25 → T (not (is_row (kind_of k).use_t))
unfolding kind_of
no_row k e = subst (λ (m : ℕ). T (not (is_row (kind_of m).use_t))) (sym e) tt

pub span_marked-requires : goal.span_marked-requires
span_marked-requires c =
    let h = c.requires.1.cells_in (no_row c.args.r.kind c.if-r-eq-STORE.true) in
    omega arith

pub bounds-marks-t : goal.bounds-marks-t
bounds-marks-t c =
    let h = c.requires.1.row_in (only_store c.args.r.kind c.requires.0 c.if-r-eq-STORE.false) in
    omega arith

pub returns-then-r-eq-STORE : goal.returns-then-r-eq-STORE
returns-then-r-eq-STORE c =
    let a = c.args in
    c.span_marked.ensures
    ∙ sym (store-targets (λ j. eqb (get_or a.marks.now j 0) 1) a.r c.if-r-eq-STORE.true)

pub returns : goal.returns
returns c =
    let a = c.args in
    sym (row-targets (λ j. eqb (get_or a.marks.now j 0) 1) a.r (only_store a.r.kind c.requires.0 c.if-r-eq-STORE.false))
