-- A term agrees with its kind if it does at each list of operands that the checks let pass, by the number of operands and the width rule. Assumes nothing.
--   Shows m ..                       the term's vector has the target's width and the plain number
--   Every k P                        P holds of each list of k widths and k numbers that the widths allow
--   by-operands                      a kind of k operands
--   by-same, by_both, by-compared    a kind whose operand has, or whose two operands have, the target's width, or are compared
use mathlib.Core.Path.{◌≡◌, sym, subst, ◌∙◌}
use mathlib.Core.Bool.{◌&&◌}
use mathlib.Core.List.{List, [], ◌∷◌}
use Prim.Native.Nat.{ℕ, zero, suc, ◌≤◌}
use native.Mathlib.Omega.{arith}
use lib.Dec.{T, eqb, eqb→eq}
use lib.ListN.{length}
use Rattle.bits.proofs.Bools.{T-left, T-right}
use Rattle.operations.specs.Kind.{asks, Rule, same_width, same_widths, chosen_widths, compared_widths}
use Rattle.operations.specs.Result.{Below, arity}
use Rattle.operations.specs.Bitvector.{bv}
use Rattle.operations.specs.Terms.{Term, Served, Agrees, vectors}
use Rattle.operations.proofs.SmtNat.{Is, bv-is}

abbrev pub Shows : Term → ℕ → ℕ → List ℕ → List ℕ → Type 0
Shows m wt p ws ns = Is wt (m.kind.plain wt ws p ns) (m.term wt p (vectors ws ns))

abbrev pub Every : ℕ → (List ℕ → List ℕ → Type 0) → Type 0
Every zero P = P [] []
Every (suc k) P = (w a : ℕ) → Is w a (bv w a) → Every k (λ ws ns. P (w ∷ ws) (a ∷ ns))

every : (k : ℕ) (P : List ℕ → List ℕ → Type 0) → Every k P → (ws ns : List ℕ) → length ws ≡ k → Below ws ns → P ws ns
every zero P f [] [] e b = f
every zero P f [] (a ∷ ns) e b = absurd b
every zero P f (w ∷ ws) ns e b = absurd (omega arith)
every (suc k) P f [] ns e b = absurd (omega arith)
every (suc k) P f (w ∷ ws) [] e b = absurd b
every (suc k) P f (w ∷ ws) (a ∷ ns) e b = every k (λ vs ms. P (w ∷ vs) (a ∷ ms)) (f w a (bv-is b.0)) ws ns (omega arith) b.1

pub by-operands : (k : ℕ) (m : Term) → arity m.kind ≡ k → ((wt p : ℕ) → Every k (λ ws ns. Served m wt p ws ns → Shows m wt p ws ns)) → Agrees m
by-operands k m e f =
    record {
      width_is = λ wt p ws ns s. (shows wt p ws ns s).width_is;
      number_is = λ wt p ws ns s. (shows wt p ws ns s).number_is;
    }
  where
    shows : (wt p : ℕ) (ws ns : List ℕ) → Served m wt p ws ns → Shows m wt p ws ns
    shows wt p ws ns s = every k (λ vs ms. Served m wt p vs ms → Shows m wt p vs ms) (f wt p) ws ns (s.count ∙ e) s.below s

-- ---- by the width rule

pub by-same : (m : Term) → arity m.kind ≡ 1 → m.kind.rule ≡ same_width
    → ((p w a : ℕ) → Served m w p (w ∷ []) (a ∷ []) → Is w a (bv w a) → Shows m w p (w ∷ []) (a ∷ [])) → Agrees m
by-same m e r f =
    by-operands 1 m e
    (λ wt p w a h s.
    let d : wt ≡ w = eqb→eq wt w (subst (λ (r : Rule). T (asks r wt (w ∷ []) p)) r s.fits) in
    subst (λ (x : ℕ). Served m x p (w ∷ []) (a ∷ []) → Shows m x p (w ∷ []) (a ∷ [])) (sym d) (λ s. f p w a s h) s)

pub by_both : (m : Term) → arity m.kind ≡ 2 → m.kind.rule ≡ same_widths
    → ((p w a b : ℕ) → Is w a (bv w a) → Is w b (bv w b) → Shows m w p (w ∷ w ∷ []) (a ∷ b ∷ [])) → Agrees m
by_both m e r f =
    by-operands 2 m e
    (λ wt p w a h v b g s.
    let t : T (eqb wt w && eqb wt v) = subst (λ (r : Rule). T (asks r wt (w ∷ v ∷ []) p)) r s.fits in
    let d : wt ≡ w = eqb→eq wt w (T-left (eqb wt w) (eqb wt v) t) in
    let c : wt ≡ v = eqb→eq wt v (T-right (eqb wt w) (eqb wt v) t) in
    subst (λ (x : ℕ). Shows m x p (w ∷ v ∷ []) (a ∷ b ∷ [])) (sym d)
    (subst (λ (x : ℕ). Is x b (bv x b) → Shows m w p (w ∷ x ∷ []) (a ∷ b ∷ [])) (sym d ∙ c) (f p w a b h) g))

pub by-compared : (m : Term) → arity m.kind ≡ 2 → m.kind.rule ≡ compared_widths
    → ((p w a b : ℕ) → 1 ≤ w → Is w a (bv w a) → Is w b (bv w b) → Shows m 1 p (w ∷ w ∷ []) (a ∷ b ∷ [])) → Agrees m
by-compared m e r f =
    by-operands 2 m e
    (λ wt p w a h v b g s.
    let t : T (eqb w v && eqb wt 1) = subst (λ (r : Rule). T (asks r wt (w ∷ v ∷ []) p)) r s.fits in
    let d : wt ≡ 1 = eqb→eq wt 1 (T-right (eqb w v) (eqb wt 1) t) in
    let c : w ≡ v = eqb→eq w v (T-left (eqb w v) (eqb wt 1) t) in
    subst (λ (x : ℕ). Shows m x p (w ∷ v ∷ []) (a ∷ b ∷ [])) (sym d)
    (subst (λ (x : ℕ). Is x b (bv x b) → Shows m 1 p (w ∷ x ∷ []) (a ∷ b ∷ [])) c (f p w a b s.widths.0 h) g))

pub chosen-widths : (wt w v u : ℕ) → T (asks chosen_widths wt (w ∷ v ∷ u ∷ []) 0) → (wt ≡ w) × (wt ≡ v) × (u ≡ 1)
chosen-widths wt w v u t =
    let s = T-left (eqb wt w && eqb wt v) (eqb u 1) t in (
      eqb→eq wt w (T-left (eqb wt w) (eqb wt v) s),
      eqb→eq wt v (T-right (eqb wt w) (eqb wt v) s),
      eqb→eq u 1 (T-right (eqb wt w && eqb wt v) (eqb u 1) t),
    )
