-- One visit, and a walk over bits of the table: what they leave, and that the rows still fit. Assumes nothing.
use mathlib.Core.Path.{◌≡◌, refl, sym}
use mathlib.Core.Logic.{◌≢◌}
use mathlib.Core.Bool.{Bool, true, false, cond, ◌&&◌}
use mathlib.Core.List.{List, [], ◌∷◌, ◌++◌}
use lib.Dec.{T}
use lib.ListN.{get_or}
use borrow.Author.Tests.{ne_eqb}
use Rattle.bits.specs.Bit.{bit}
use Rattle.vectors.specs.Lists.{All}
use Rattle.checks.specs.Table.{State, Table, with_rows}
use Rattle.steps.specs.States.{StateFits}
use Rattle.conclusions.specs.declared.Conclusion.{Conclusion}
use Rattle.conclusions.specs.Pass.{concludesb, Position, forget, known_at, visit, walk}
use Rattle.conclusions.specs.Encoding.{InTable}
use Rattle.conclusions.proofs.Forgets.{forget-fits}

-- ---- one visit

module _ (t : Table) (c : Conclusion) (s : State) (p : Position) where
  -- it spares the bit, or it does not
  abbrev pub spares : Bool
  spares = known_at s p && concludesb t c (forget t.widths s p)

  pub visit-cases : (P : State → Type 0) → (T spares → P (forget t.widths s p)) → ((T spares → ⊥) → P s) → P (visit t c s p)
  unfolding visit
  visit-cases P f g = choose spares f g
    where
      choose : (b : Bool) → (T b → P (forget t.widths s p)) → ((T b → ⊥) → P s) → P (cond b (forget t.widths s p) s)
      choose true f g = f tt
      choose false f g = g (λ u. u)

  pub visit-fits : StateFits t.widths s → InTable t.widths p.row p.at → StateFits t.widths (visit t c s p)
  visit-fits S P = visit-cases (StateFits t.widths) (λ u. forget-fits t.widths s S p P) (λ n. S)

  -- in the code's terms
  pub visit-unknown : bit (get_or s.masks p.row 0) p.at ≢ 0 → visit t c s p ≡ s
  unfolding visit
  visit-unknown n = simp (ne_eqb _ _ n)

  module _ (e : bit (get_or s.masks p.row 0) p.at ≡ 0) (r : Bool) (h : r ≡ concludesb t c (forget t.widths s p)) where
    pub visit-lost : r ≡ false → visit t c s p ≡ s
    unfolding visit
    visit-lost u = simp (e, sym h, u)

    pub visit-kept : r ≡ true → visit t c s p ≡ forget t.widths s p
    unfolding visit
    visit-kept u = simp (e, sym h, u)

-- the rows that a table brings do not count in a visit from other rows
pub visit-same : (t : Table) (q : State) (c : Conclusion) (s : State) (p : Position) → visit (with_rows t q) c s p ≡ visit t c s p
unfolding visit concludesb
visit-same t q c s p = refl

-- ---- a walk

module _ (t : Table) (c : Conclusion) where
  pub walk-fits : (ps : List Position) → All (λ p. InTable t.widths p.row p.at) ps → (s : State) → StateFits t.widths s → StateFits t.widths (walk t c ps s)
  unfolding walk
  walk-fits [] P s S = S
  walk-fits (p ∷ ps) P s S = walk-fits ps P.1 (visit t c s p) (visit-fits t c s p S P.0)

  pub walk-append : (ps qs : List Position) (s : State) → walk t c (ps ++ qs) s ≡ walk t c qs (walk t c ps s)
  unfolding walk
  walk-append [] qs s = refl
  walk-append (p ∷ ps) qs s = walk-append ps qs (visit t c s p)

pub walk_same : (t : Table) (q : State) (c : Conclusion) (ps : List Position) (s : State) → walk (with_rows t q) c ps s ≡ walk t c ps s
unfolding walk
walk_same t q c [] s = refl
walk_same t q c (p ∷ ps) s = rw (visit-same t q c s p) (walk_same t q c ps (visit t c s p))
