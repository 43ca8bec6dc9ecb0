-- `pairs::check_pair` meets its contract: the conditions of 20, test by test. Assumes nothing.
use mathlib.Core.Path.{refl, ◌≡◌, sym, ap, ◌∙◌}
use mathlib.Core.Bool.{not, false}
use mathlib.Core.List.{List, [], ◌∷◌}
use Prim.Native.Nat.{ℕ, ◌<◌}
use native.Mathlib.Omega.{arith}
use lib.Dec.{eqb}
use lib.ListN.{get_or, drop, length}
use Rattle.std.proofs.Common.{◌≢◌}
use Rattle.operations.specs.Record.{width_at}
use Rattle.operations.specs.Faults.{Fault, fault}
use Rattle.checks.specs.Check.{Answer, placed}
use Rattle.checks.specs.Checks.{row_outside}
use Rattle.checks.specs.Table.{Table}
use Rattle.checks.specs.Model.{in_table, judged}
use Rattle.checks.proofs.Verdicts.{hits, skips, clears}
use Rattle.rounds.specs.Settle.{state_twice, written_row, pair_faults}
use borrow.Author.Tests.{eq-eqb, ne_eqb, le-leb, lt-leb}
use Rattle.pairs.proofs.check_pair.Goals as goal

-- the conditions of pair i, of the rows x and y
abbrev faults : Table → List ℕ → ℕ → ℕ → ℕ → List Fault
faults t ss i x y =
    fault (row_outside t x) 20
    ∷ fault (row_outside t y) 20
    ∷ fault (not (eqb (width_at t.widths x) (width_at t.widths y))) 20
    ∷ fault (state_twice ss i) 20
    ∷ fault (eqb (get_or t.locks x 0) 1) 20
    ∷ fault (written_row t x) 20
    ∷ []

-- ---- the verdict on the conditions after the first ones, of the rows x and y that pair i names

module _ (t : Table) (ss ns : List ℕ) (i x y : ℕ) (e : x ≡ get_or ss i 0) (f : y ≡ get_or ns i 0) where
  abbrev asked : Answer (Unit {0})
  asked = judged (placed 0 (pair_faults t ss ns i))

  abbrev after : ℕ → Answer (Unit {0})
  after k = judged (placed 0 (drop k (faults t ss i x y)))

  named : asked ≡ after 0
  named = sym (λ ι. judged (placed 0 (faults t ss i (e ι) (f ι))))

  past_state : x < length t.widths → asked ≡ after 1
  past_state h = named ∙ skips _ _ (lt-leb _ _ h)

  past_next : x < length t.widths → y < length t.widths → asked ≡ after 2
  past_next h g = past_state h ∙ skips _ _ (lt-leb _ _ g)

  past_widths : x < length t.widths → y < length t.widths → width_at t.widths x ≡ width_at t.widths y → asked ≡ after 3
  past_widths h g w = past_next h g ∙ skips _ _ (ap not (eq-eqb _ _ w))

  past_twice : x < length t.widths → y < length t.widths → width_at t.widths x ≡ width_at t.widths y → state_twice ss i ≡ false → asked ≡ after 4
  past_twice h g w d = past_widths h g w ∙ skips _ _ d

  past_lock : x < length t.widths → y < length t.widths → width_at t.widths x ≡ width_at t.widths y → state_twice ss i ≡ false
      → get_or t.locks x 0 ≢ 1 → asked ≡ after 5
  past_lock h g w d l = past_twice h g w d ∙ skips _ _ (ne_eqb _ _ l)

pub returns-then-t-s : goal.returns-then-t-s
returns-then-t-s c = c.refuse.ensures ∙ sym (named (in_table c.args.t) c.args.states.now c.args.nexts.now c.args.i _ _ refl refl ∙ hits _ _ (le-leb _ _ c.if-t-s.true))

pub returns-then-t-n : goal.returns-then-t-n
returns-then-t-n c = c.refuse-then-t-n.ensures ∙ sym (past_state (in_table c.args.t) c.args.states.now c.args.nexts.now c.args.i _ _ refl refl c.if-t-s.false ∙ hits _ _ (le-leb _ _ c.if-t-n.true))

pub returns-then-t-s-2 : goal.returns-then-t-s-2
returns-then-t-s-2 c = c.refuse-then-t-s-2.ensures ∙ sym (past_next (in_table c.args.t) c.args.states.now c.args.nexts.now c.args.i _ _ refl refl c.if-t-s.false c.if-t-n.false ∙ hits _ _ (ap not (ne_eqb _ _ c.if-t-s-2.true)))

pub returns-then-named_before : goal.returns-then-named_before
returns-then-named_before c = c.refuse-then-named_before.ensures ∙ sym (past_widths (in_table c.args.t) c.args.states.now c.args.nexts.now c.args.i _ _ refl refl c.if-t-s.false c.if-t-n.false c.if-t-s-2.false ∙ hits _ _ (sym c.named_before.ensures ∙ c.if-named_before.true))

pub written-requires : goal.written-requires
written-requires c = c.requires.0.kinds

pub returns-then-written : goal.returns-then-written
unfolding written_row
returns-then-written c = c.refuse-then-written.ensures ∙ sym (past_lock (in_table c.args.t) c.args.states.now c.args.nexts.now c.args.i _ _ refl refl c.if-t-s.false c.if-t-n.false c.if-t-s-2.false (sym c.named_before.ensures ∙ c.if-named_before.false) (omega arith) ∙ hits _ _ (sym c.written.ensures ∙ c.if-written.true))

pub returns : goal.returns
unfolding written_row
returns c = sym (past_lock (in_table c.args.t) c.args.states.now c.args.nexts.now c.args.i _ _ refl refl c.if-t-s.false c.if-t-n.false c.if-t-s-2.false (sym c.named_before.ensures ∙ c.if-named_before.false) (omega arith) ∙ clears _ (sym c.written.ensures ∙ c.if-written.false))
