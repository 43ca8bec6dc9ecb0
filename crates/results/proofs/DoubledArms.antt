-- The arms of a record that names one row twice: the entry of the table for its kind is the result that is due. Assumes nothing.
--   Due g   the result over one number for both operands
-- An entry of `doubled-results` is taken by its place in the table: and, or, xor, concat, add, sub, eq, ult, slt, ite.
use mathlib.Core.Path.{◌≡◌, refl, sym, ap, ◌∙◌, subst}
use mathlib.Core.Bool.{true, not}
use mathlib.Core.List.{List, [], ◌∷◌}
use Prim.Native.Nat.{ℕ}
use lib.Dec.{T, eqb_refl}
use Rattle.vectors.specs.Row.{Row, row, WellFormed}
use Rattle.operations.specs.Kind.{as_number, Kind}
use Rattle.operations.specs.Bitwise.{op_and, op_or, op_xor}
use Rattle.operations.specs.Moves.{op_shl, op_concat}
use Rattle.operations.specs.Arithmetic.{op_add, op_sub, op_eq, op_ult, op_slt, op_ite}
use Rattle.operations.specs.declared.kind.Kind.{Kind as KindCase}
use Rattle.operations.specs.declared.kind.Kind.TheVariants.{Copy, Not, And, Or, Xor, Shl, Lshr, Ashr, Rotl, Extract, Concat, Zext, Sext, Add, Sub, Neg, Mul, Eq, Ult, Slt, Ite, Umulw, Smulw, Sumulw, Load, Store}
use Rattle.operations.specs.Kinds.{kind_of}
use Rattle.operations.specs.Record.{operands}
use Rattle.operations.specs.Faults.{misused}
use Rattle.operations.specs.Result.{result_of, result_once, Ready}
use Rattle.operations.specs.Doubled.{doubled, doubled_table, DoubledIs}
use Rattle.kernels.proofs.Dispatch.{described, kind_is, Given, ready_of}
use Rattle.kernels.proofs.KindDispatch.{arm-concat}
use Rattle.results.proofs.DoubledResults.{same_width, ite-width, ite-row, doubled-results}

abbrev pub Due : Given → Row
Due g = result_once true (described g.kind) g.wt g.p (operands (described g.kind) g.ra g.rb (g.rc ∷ []))

module _ (k : Kind) (g : Given) (e : described g.kind ≡ k) (same : g.ra ≡ g.rb) (rest : List Row)
    (o : operands k g.ra g.rb (g.rc ∷ []) ≡ g.ra ∷ g.rb ∷ rest) where
  one-row : operands k g.ra g.rb (g.rc ∷ []) ≡ g.ra ∷ g.ra ∷ rest
  one-row = o ∙ (λ ι. g.ra ∷ sym same ι ∷ rest)

  ready-twice : Ready k g.wt g.p (g.ra ∷ g.ra ∷ rest)
  ready-twice = subst (Ready k g.wt g.p) one-row (ready_of g k e)

  due-twice : result_once true k g.wt g.p (g.ra ∷ g.ra ∷ rest) ≡ Due g
  due-twice =
      let back = sym e in
      sym (ap (result_once true k g.wt g.p) one-row) ∙ (λ ι. result_once true (back ι) g.wt g.p (operands (back ι) g.ra g.rb (g.rc ∷ [])))

  entry-due : (f : ℕ → ℕ → Row → List Row → Row) → DoubledIs (doubled k f) → f g.wt g.p g.ra rest ≡ Due g
  entry-due f D = sym (D g.wt g.p g.ra rest ready-twice) ∙ due-twice

module _ (g : Given) (same : g.ra ≡ g.rb) where
  -- the row named twice, as the code holds it where it is as wide as the target
  abbrev held : Row
  held = row g.wt g.ra.mask g.ra.value

  at_width : g.ra.width ≡ g.wt → held ≡ g.ra
  at_width e = λ ι. row (sym e ι) g.ra.mask g.ra.value

  -- "and, or give the row", and so does ite
  pub due-and : g.kind ≡ And → held ≡ Due g
  unfolding kind_of doubled_table
  due-and e = at_width (same_width g.wt _ _ (ready-twice op_and g (kind_is e) same [] refl).fits) ∙ entry-due op_and g (kind_is e) same [] refl _ doubled-results.0

  pub due-or : g.kind ≡ Or → held ≡ Due g
  unfolding kind_of doubled_table
  due-or e = at_width (same_width g.wt _ _ (ready-twice op_or g (kind_is e) same [] refl).fits) ∙ entry-due op_or g (kind_is e) same [] refl _ doubled-results.1.0

  pub due-ite : g.kind ≡ Ite → held ≡ Due g
  unfolding kind_of
  due-ite e =
      let R = ready-twice op_ite g (kind_is e) same (g.rc ∷ []) refl in
      at_width (ite-width g.wt g.p g.ra g.rc R) ∙ sym (ite-row g.wt g.p g.ra g.rc R) ∙ due-twice op_ite g (kind_is e) same (g.rc ∷ []) refl

  -- "add gives the row shifted left by one"
  add-ready : g.kind ≡ Add → Ready op_add g.wt g.p (g.ra ∷ g.ra ∷ [])
  unfolding kind_of
  add-ready e = ready-twice op_add g (kind_is e) same [] refl

  add-width : g.kind ≡ Add → held ≡ g.ra
  unfolding op_add
  add-width e = at_width (same_width g.wt _ _ (add-ready e).fits)

  pub shift-ready : (q : ℕ) → T (not (misused as_number q)) → g.kind ≡ Add → Ready op_shl g.wt q (held ∷ [])
  unfolding op_shl
  shift-ready q u e =
      let R = add-ready e in
      record {
        count = refl;
        formed = (subst WellFormed (sym (add-width e)) R.formed.0, tt);
        wide = R.wide;
        widths = (R.wide, tt);
        fits = eqb_refl g.wt;
        parameter = u;
      }

  pub due-add : g.kind ≡ Add → result_of op_shl g.wt 1 (held ∷ []) ≡ Due g
  unfolding kind_of doubled_table
  due-add e = ap (λ (r : Row). result_of op_shl g.wt 1 (r ∷ [])) (add-width e) ∙ entry-due op_add g (kind_is e) same [] refl _ doubled-results.1.1.1.1.0

  -- concat: the vector of independent operands
  pub concat-ready : g.kind ≡ Concat → Ready op_concat g.wt 0 (g.ra ∷ g.ra ∷ [])
  concat-ready e = subst (λ (r : Row). Ready op_concat g.wt 0 (g.ra ∷ r ∷ [])) (sym same) (arm-concat g e).asks

  pub due-concat : g.kind ≡ Concat → result_of op_concat g.wt 0 (g.ra ∷ g.ra ∷ []) ≡ Due g
  unfolding kind_of doubled_table result_of
  due-concat e = entry-due op_concat g (kind_is e) same [] refl _ doubled-results.1.1.1.0

  -- "eq gives 1"
  pub due-eq : g.kind ≡ Eq → row g.wt 0 1 ≡ Due g
  unfolding kind_of doubled_table
  due-eq e = entry-due op_eq g (kind_is e) same [] refl _ doubled-results.1.1.1.1.1.1.0

  -- every other such kind: "xor, sub give zeros", "ult, slt give 0"
  pub due-zeros : T (described g.kind).correlated
      → (g.kind ≡ And → ⊥) → (g.kind ≡ Or → ⊥) → (g.kind ≡ Concat → ⊥) → (g.kind ≡ Add → ⊥) → (g.kind ≡ Eq → ⊥) → (g.kind ≡ Ite → ⊥) → row g.wt 0 0 ≡ Due g
  unfolding kind_of doubled_table
  due-zeros t and or concat add eq ite = of g.kind refl t
    where
      of : (k : KindCase) → g.kind ≡ k → T (described k).correlated → row g.wt 0 0 ≡ Due g
      of Copy e u = absurd u
      of Not e u = absurd u
      of And e u = absurd (and e)
      of Or e u = absurd (or e)
      of Xor e u = entry-due op_xor g (kind_is e) same [] refl _ doubled-results.1.1.0
      of Shl e u = absurd u
      of Lshr e u = absurd u
      of Ashr e u = absurd u
      of Rotl e u = absurd u
      of Extract e u = absurd u
      of Concat e u = absurd (concat e)
      of Zext e u = absurd u
      of Sext e u = absurd u
      of Add e u = absurd (add e)
      of Sub e u = entry-due op_sub g (kind_is e) same [] refl _ doubled-results.1.1.1.1.1.0
      of Neg e u = absurd u
      of Mul e u = absurd u
      of Eq e u = absurd (eq e)
      of Ult e u = entry-due op_ult g (kind_is e) same [] refl _ doubled-results.1.1.1.1.1.1.1.0
      of Slt e u = entry-due op_slt g (kind_is e) same [] refl _ doubled-results.1.1.1.1.1.1.1.1.0
      of Ite e u = absurd (ite e)
      of Umulw e u = absurd u
      of Smulw e u = absurd u
      of Sumulw e u = absurd u
      of Load e u = absurd u
      of Store e u = absurd u
