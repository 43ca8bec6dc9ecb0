-- What the pass leaves: the conclusion holds from it, and no bit that was visited can become X without losing it. Assumes nothing.
use mathlib.Core.Path.{◌≡◌, refl, sym, ◌∙◌, subst}
use mathlib.Core.Logic.{◌≢◌}
use mathlib.Core.List.{List, [], ◌∷◌}
use Prim.Native.Nat.{ℕ}
use native.Mathlib.Omega.{arith}
use lib.Dec.{T, eqb, eqb→eq}
use lib.ListN.{get_or}
use Rattle.bits.specs.Bit.{bit}
use Rattle.bits.proofs.Bools.{T_and, T-left, T-right, eq→eqb}
use Rattle.vectors.specs.Lists.{All}
use Rattle.vectors.proofs.Insides.{inside-known}
use Rattle.checks.specs.Table.{State, row_at, Table, start_of, with_rows, record_count}
use Rattle.checks.specs.Check.{done}
use Rattle.checks.specs.Accepted.{Accepted}
use Rattle.tables.specs.Run.{run_of}
use Rattle.steps.specs.States.{StateFits, InsideState}
use Rattle.tables.proofs.Demand3.{start_fits}
use Rattle.tables.proofs.FullRuns.{full-demand3}
use Rattle.conclusions.specs.declared.Conclusion.{Conclusion}
use Rattle.conclusions.specs.Pass.{ended, Concludes, concludesb, Position, forget, known_at, open_bits, visit, walk, pass_rows}
use Rattle.conclusions.specs.Encoding.{InTable}
use Rattle.conclusions.proofs.Forgets.{forget-fits}
use Rattle.conclusions.proofs.Visits.{visit-cases}
use Rattle.conclusions.proofs.OpenBits.{open-all, open-found}
use Rattle.conclusions.specs.Reset.{RestsOn}
use Rattle.conclusions.proofs.Wider.{forget-others, forget-wider, forget-inside, known-inside, forget-unknown}

-- ---- the test of the conclusion

module _ (t : Table) (c : Conclusion) (s : State) where
  concludes-of-test : T (concludesb t c s) → Concludes t c s
  unfolding concludesb
  concludes-of-test u =
      record {
        known = eqb→eq _ _ (T-left (eqb (bit (ended t c.row s).mask c.at) 0) _ u);
        as_value = eqb→eq _ _ (T-right (eqb (bit (ended t c.row s).mask c.at) 0) _ u);
      }

  test-of-concludes : Concludes t c s → T (concludesb t c s)
  unfolding concludesb
  test-of-concludes h = T_and (eqb (bit (ended t c.row s).mask c.at) 0) _ (eq→eqb h.known) (eq→eqb h.as_value)

-- ---- the pass

abbrev InBits : Table → Position → Type 0
InBits t p = InTable t.widths p.row p.at

module _ (t : Table) (A : Accepted t 0 (record_count t)) (c : Conclusion) (C : InTable t.widths c.row c.at) where
  -- demand 3's inner runs: what holds from start vectors holds from such that lie inside
  concludes-inside : (s r : State) → StateFits t.widths s → StateFits t.widths r → InsideState t.widths s r → Concludes t c r → Concludes t c s
  concludes-inside s r S R I h =
      let inner = ((full-demand3 t A r R).inner_runs s S I (record_count t) (omega arith) (omega arith)).1 c.row C.row_in in
      let formed = (full-demand3 t A s S).formed (record_count t) (omega arith) (omega arith) c.row C.row_in in
      let k = inside-known (ended t c.row s) (ended t c.row r) refl formed inner c.at C.at_in h.known in
      record { known = k.known; as_value = k.as_value ∙ h.as_value }

  -- what a visit, and so the walk, keeps
  record Kept (s r : State) : Type 0 where
    fits : StateFits t.widths r
    wider : InsideState t.widths s r
    holds : Concludes t c r

  visit-keeps : (s : State) → StateFits t.widths s → Concludes t c s → (p : Position) → InBits t p → Kept s (visit t c s p)
  visit-keeps s S h p P =
      visit-cases t c s p (Kept s)
      (λ u. record {
        fits = forget-fits t.widths s S p P;
        wider = forget-wider t.widths s S p;
        holds = concludes-of-test t c (forget t.widths s p) (T-right (known_at s p) _ u);
      })
      (λ n. record { fits = S; wider = λ i l n x. x; holds = h })

  -- a bit that the visit leaves known cannot become X
  visit-needs : (s : State) → StateFits t.widths s → (p : Position) → InBits t p → T (known_at s p) → T (known_at (visit t c s p) p) → ¬ Concludes t c (forget t.widths s p)
  visit-needs s S p P k =
      visit-cases t c s p (λ r. T (known_at r p) → ¬ Concludes t c (forget t.widths s p))
      (λ u z. absurd (forget-unknown t.widths s S p P.row_in z))
      (λ n z h. n (T_and (known_at s p) _ k (test-of-concludes t c (forget t.widths s p) h)))

  walk-keeps : (ps : List Position) → All (InBits t) ps → (s : State) → StateFits t.widths s → Concludes t c s → Kept s (walk t c ps s)
  unfolding walk
  walk-keeps [] P s S h = record { fits = S; wider = λ i l n x. x; holds = h }
  walk-keeps (p ∷ ps) P s S h =
      let g = visit-keeps s S h p P.0 in
      let w = walk-keeps ps P.1 (visit t c s p) g.fits g.holds in
      record { fits = w.fits; wider = λ i l n x. w.wider i l n (g.wider i l n x); holds = w.holds }

  walk-needs : (ps : List Position) → All (InBits t) ps → (s : State) → StateFits t.widths s → Concludes t c s
      → All (λ p. T (known_at (walk t c ps s) p) → ¬ Concludes t c (forget t.widths (walk t c ps s) p)) ps
  unfolding walk
  walk-needs [] P s S h = tt
  walk-needs (p ∷ ps) P s S h =
      let g = visit-keeps s S h p P.0 in
      let w = walk-keeps ps P.1 (visit t c s p) g.fits g.holds in
      let end = walk t c ps (visit t c s p) in
      let I : InsideState t.widths s end = λ i l n x. w.wider i l n (g.wider i l n x) in (
        (λ u f.
            visit-needs s S p P.0 (known-inside t.widths s end S I p P.0 u) (known-inside t.widths (visit t c s p) end g.fits w.wider p P.0 u)
            (concludes-inside (forget t.widths s p) (forget t.widths end p) (forget-fits t.widths s S p P.0) (forget-fits t.widths end w.fits p P.0)
            (forget-inside t.widths s end S w.fits I p P.0.row_in) f)),
        walk-needs ps P.1 (visit t c s p) g.fits g.holds,
      )

-- rows of which no bit is visited stay
walk-others : (t : Table) (c : Conclusion) (i : ℕ) (ps : List Position) → All (λ p. p.row ≢ i) ps → (s : State) → row_at t.widths (walk t c ps s) i ≡ row_at t.widths s i
unfolding walk
walk-others t c i [] d s = refl
walk-others t c i (p ∷ ps) d s =
    walk-others t c i ps d.1 (visit t c s p)
    ∙ visit-cases t c s p (λ r. row_at t.widths r i ≡ row_at t.widths s i) (λ u. forget-others t.widths s p i (λ q. d.0 (sym q))) (λ n. refl)

-- ---- the claim

module _ (t : Table) (A : Accepted t 0 (record_count t)) (c : Conclusion) (C : InTable t.widths c.row c.at) (h : Concludes t c (start_of t)) where
  bits_in_lem : All (InBits t) (open_bits t)
  bits_in_lem = open-all (InBits t) t (λ i k l o m. record { row_in = l; at_in = m })

  start : StateFits t.widths (start_of t)
  start = start_fits t A.table

  accepted-run : (s : State) → StateFits t.widths s → (run_of (with_rows t s) 0 (record_count t)).answer ≡ done (record_count t)
  accepted-run s S = (full-demand3 t A s S).points (record_count t) (omega arith) (omega arith)

  pub rests-on : RestsOn t c (pass_rows t c)
  rests-on =
      let g = walk-keeps t A c C (open_bits t) bits_in_lem (start_of t) start h in
      record {
        concluded = h;
        fits = g.fits;
        wider = g.wider;
        locked_stay = λ i d. walk-others t c i (open_bits t) (open-all (λ p. p.row ≢ i) t (λ j k l o m e. d (subst (λ (x : ℕ). get_or t.locks x 0 ≡ 0) e o))) (start_of t);
        accepted = accepted-run (pass_rows t c) g.fits;
        holds = g.holds;
        further_accepted = λ p K. accepted-run (forget t.widths (pass_rows t c) p) (forget-fits t.widths (pass_rows t c) g.fits p (record { row_in = K.row_in; at_in = K.at_in }));
        no_further = λ p K.
            open-found (λ p. T (known_at (pass_rows t c) p) → ¬ Concludes t c (forget t.widths (pass_rows t c) p)) t (walk-needs t A c C (open_bits t) bits_in_lem (start_of t) start h)
            p.row p.at K.row_in K.is_open K.at_in K.known;
      }
