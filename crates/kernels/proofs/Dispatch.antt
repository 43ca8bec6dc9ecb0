-- The arms of the dispatch: what the checks give of a kind's operands, as its kernel asks for it. Assumes nothing.
use mathlib.Core.Path.{◌≡◌, refl, sym, ap, subst, subst₂, ◌∙◌}
use mathlib.Core.Bool.{not, ◌&&◌}
use mathlib.Core.List.{List, [], ◌∷◌}
use Prim.Native.Nat.{ℕ}
use lib.Dec.{T, eqb, eqb→eq}
use Rattle.bits.proofs.Bools.{T-left, T-right, T_not-not}
use Rattle.vectors.specs.Row.{Row, row}
use Rattle.operations.specs.Kind.{Use, unused, asks, Rule, Kind, same_width, same_widths, compared_widths}
use Rattle.operations.specs.Record.{operands}
use Rattle.operations.specs.Faults.{misused}
use Rattle.operations.specs.declared.kind.Kind.{Kind as KindCase}
use Rattle.operations.specs.KindNumbers.{kind_number}
use Rattle.operations.specs.Kinds.{kind_of}
use Rattle.operations.specs.Result.{widths_of, result_of, Ready}

-- ---- an arm: a kind's operands as its kernel names them

-- the description of a declared kind
abbrev pub described : KindCase → Kind
described kind = kind_of (kind_number kind)

pub kind_is : {kind k : KindCase} → kind ≡ k → described kind ≡ described k
kind_is e = ap described e

-- what the dispatch is given: the target's width, the parameter, and the rows that the words a, b and the sixth would name
pub record Given : Type 0 where
  pub kind : KindCase
  pub wt : ℕ
  pub p : ℕ
  pub ra : Row
  pub rb : Row
  pub rc : Row
  pub ready : Ready (described kind) wt p (operands (described kind) ra rb (rc ∷ []))

abbrev pub given : (kind : KindCase) {wt p : ℕ} (ra rb rc : Row) → Ready (described kind) wt p (operands (described kind) ra rb (rc ∷ [])) → Given
given kind {wt} {p} ra rb rc ready = record { kind = kind; wt = wt; p = p; ra = ra; rb = rb; rc = rc; ready = ready }

-- a kernel of kind k that is called with width w, parameter q and these rows has what it asks for, and its result is the one that is due
pub record Arm (g : Given) (k : Kind) (w q : ℕ) (rows : List Row) : Type 0 where
  pub asks : Ready k w q rows
  pub gives : result_of k w q rows ≡ result_of (described g.kind) g.wt g.p (operands (described g.kind) g.ra g.rb (g.rc ∷ []))

-- the shapes that several kinds have: one operand of the target's width, two of them, and two of one width with a target of width 1
abbrev pub SameRow : Given → Kind → ℕ → Type 0
SameRow g k q = Arm g k g.wt q (row g.wt g.ra.mask g.ra.value ∷ [])

abbrev pub SameRows : Given → Kind → Type 0
SameRows g k = Arm g k g.wt 0 (row g.wt g.ra.mask g.ra.value ∷ row g.wt g.rb.mask g.rb.value ∷ [])

abbrev pub ComparedRows : Given → Kind → Type 0
ComparedRows g k = (g.wt ≡ 1) × Arm g k 1 0 (g.ra ∷ row g.ra.width g.rb.mask g.rb.value ∷ [])

module _ (g : Given) (k : Kind) (e : described g.kind ≡ k) where
  pub ready_of : Ready k g.wt g.p (operands k g.ra g.rb (g.rc ∷ []))
  ready_of = subst (λ (j : Kind). Ready j g.wt g.p (operands j g.ra g.rb (g.rc ∷ []))) e g.ready

  pub result-of : result_of k g.wt g.p (operands k g.ra g.rb (g.rc ∷ [])) ≡ result_of (described g.kind) g.wt g.p (operands (described g.kind) g.ra g.rb (g.rc ∷ []))
  result-of = ap (λ (j : Kind). result_of j g.wt g.p (operands j g.ra g.rb (g.rc ∷ []))) (sym e)

  -- the same width, parameter and rows under other names
  pub arm : {w q : ℕ} {rows : List Row} → g.wt ≡ w → g.p ≡ q → operands k g.ra g.rb (g.rc ∷ []) ≡ rows → Arm g k w q rows
  arm {w} {q} {rows} a b c =
      record {
        asks = subst (λ (l : List Row). Ready k w q l) c
            (subst (λ (x : ℕ). Ready k w x (operands k g.ra g.rb (g.rc ∷ []))) b
            (subst (λ (x : ℕ). Ready k x g.p (operands k g.ra g.rb (g.rc ∷ []))) a ready_of));
        gives = sym (λ ι. result_of k (a ι) (b ι) (c ι)) ∙ result-of;
      }

  -- a word that is not used is 0
  pub none : k.use_p ≡ unused → g.p ≡ 0
  none u = eqb→eq g.p 0 (T_not-not (eqb g.p 0) (subst (λ (v : Use). T (not (misused v g.p))) u ready_of.parameter))

  -- what the kind's rule says of the operands' widths
  pub rule : (F : Rule) (rows : List Row) → k.rule ≡ F → operands k g.ra g.rb (g.rc ∷ []) ≡ rows → T (asks F g.wt (widths_of rows) g.p)
  rule F rows f o = subst₂ (λ (G : Rule) (l : List Row). T (asks G g.wt (widths_of l) g.p)) f o ready_of.fits

  same : (v w : ℕ) → T (eqb v w) → w ≡ v
  same v w t = sym (eqb→eq v w t)

  pub both-same : T (eqb g.wt g.ra.width && eqb g.wt g.rb.width) → (g.ra.width ≡ g.wt) × (g.rb.width ≡ g.wt)
  both-same t = (
    same g.wt g.ra.width (T-left (eqb g.wt g.ra.width) (eqb g.wt g.rb.width) t),
    same g.wt g.rb.width (T-right (eqb g.wt g.ra.width) (eqb g.wt g.rb.width) t),
  )

  -- one operand of the target's width
  pub one-row : k.rule ≡ same_width → operands k g.ra g.rb (g.rc ∷ []) ≡ g.ra ∷ [] → operands k g.ra g.rb (g.rc ∷ []) ≡ row g.wt g.ra.mask g.ra.value ∷ []
  one-row f o = o ∙ (λ ι. row (same g.wt g.ra.width (rule same_width (g.ra ∷ []) f o) ι) g.ra.mask g.ra.value ∷ [])

  -- two of them
  pub two-rows : k.rule ≡ same_widths → k.use_p ≡ unused → operands k g.ra g.rb (g.rc ∷ []) ≡ g.ra ∷ g.rb ∷ [] → SameRows g k
  two-rows f u o =
      let (a, b) = both-same (rule same_widths (g.ra ∷ g.rb ∷ []) f o) in
      arm refl (none u) (o ∙ (λ ι. row (a ι) g.ra.mask g.ra.value ∷ row (b ι) g.rb.mask g.rb.value ∷ []))

  -- two of one width, and a target of width 1
  pub compared-rows : k.rule ≡ compared_widths → k.use_p ≡ unused → operands k g.ra g.rb (g.rc ∷ []) ≡ g.ra ∷ g.rb ∷ [] → ComparedRows g k
  compared-rows f u o =
      let t = rule compared_widths (g.ra ∷ g.rb ∷ []) f o in
      let w = eqb→eq g.wt 1 (T-right (eqb g.ra.width g.rb.width) (eqb g.wt 1) t) in
      let b = same g.ra.width g.rb.width (T-left (eqb g.ra.width g.rb.width) (eqb g.wt 1) t) in
      (w, arm w (none u) (o ∙ (λ ι. g.ra ∷ row (b ι) g.rb.mask g.rb.value ∷ [])))
