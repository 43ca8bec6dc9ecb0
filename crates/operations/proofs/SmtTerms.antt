-- The plain number of each kind is the number of its SMT-LIB term: at every width that the width rule allows, for all operands. Assumes nothing.
--   terms-agree, narrow-terms-agree   each term agrees with its kind
--   terms-kinds, terms-serve          the terms are of all kinds without cells, and serve every parameter that the checks let pass
--   term-agrees, term-kind            of any term listed: it agrees with its kind, and its kind is the one that has that number
--   term_of                           some term is of the kind that has a number, unless it has cells
use mathlib.Core.Path.{◌≡◌, refl, sym, ap, subst, ◌∙◌}
use mathlib.Core.Bool.{Bool, true, false, not, ◌||◌}
use mathlib.Core.List.Memᴰ
use mathlib.Core.List.{List, [], ◌∷◌, ◌++◌, map, Memᴰ}
use mathlib.Core.Logic.{inl, inr}
use Prim.Native.Nat.{ℕ, ◌+◌, ◌-◌, ◌^◌}
use native.Mathlib.Omega.{arith}
use lib.Dec.{T, eqb, eqb→eq, nltb→le, ltb→lt, leb→le}
use lib.ListN.{get_or, drop}
use Rattle.vectors.specs.Lists.{All}
use Rattle.vectors.proofs.Lists.{◌⨾◌, all-imp, all-member}
use Rattle.bits.specs.Below.{all_below}
use Rattle.operations.specs.Kind.{is_base}
use Rattle.operations.specs.Moves.{op_shl, op_lshr, op_ashr}
use Rattle.operations.specs.Kinds.{kinds, kind_count, numbered, is_kind, kind_of}
use Rattle.operations.proofs.Lookup.{kind-test}
use Rattle.operations.proofs.Sound.{implied}
use Rattle.operations.specs.Limits.{parameter_limit}
use Rattle.operations.specs.Bitvector.{bv}
use Rattle.operations.specs.Terms.{Term, Agrees, always, terms, narrow_terms}
use Rattle.operations.proofs.SmtNat.{Is-width, bv-is}
use Rattle.operations.proofs.SmtLogic.{not_is, and_is, or_is, xor_is}
use Rattle.operations.proofs.SmtSums.{add_is, sub_is, neg_is, mul_is}
use Rattle.operations.proofs.SmtMoves.{extract-is, concat-is, zext-to, sext-to}
use Rattle.operations.proofs.SmtShifts.{shl_is, lshr-is, ashr-is, wide-shl-is, wide-lshr-is, wide-ashr-is}
use Rattle.operations.proofs.SmtWide.{wide_is}
use Rattle.operations.proofs.SmtRotate.{rotl-is}
use Rattle.operations.proofs.SmtCompare.{eq_is, ult_is, slt-is, ite-is}
use Rattle.operations.proofs.SmtOperands.{by-operands, by-same, by_both, by-compared, chosen-widths}

terms-kinds : T (all_below kind_count (λ n. not (not (is_base (kind_of n).use_c)) || numbered n (map (λ m. m.kind) terms)))
unfolding all_below kind_count kind_of terms kinds
terms-kinds = tt

abbrev pub Serving : Term → Type 0
Serving m = (w p : ℕ) → T (m.serves w p)

-- two functions that give one list agree on each element
same-maps : {A B : Type 0} (f g : A → B) (b : B) (l : List A) → map f l ≡ map g l → All (λ a. f a ≡ g a) l
same-maps f g b [] e = tt
same-maps f g b (a ∷ l) e = (ap (λ m. get_or m 0 b) e, same-maps f g b l (ap (drop 1) e))

pub terms-serve : All Serving terms
unfolding terms
terms-serve =
    all-imp {Q = λ m. m.serves ≡ always} {P = Serving} (λ m e. subst (λ (f : ℕ → ℕ → Bool). (w p : ℕ) → T (f w p)) {x = always} (sym e) (λ w p. tt)) terms
    (same-maps (λ (m : Term). m.serves) (λ m. always) always terms refl)

pub terms-agree : All Agrees terms
unfolding terms kinds bv
terms-agree =
    by-same _ refl refl (λ p w a s h. h)
    ⨾ by-same _ refl refl (λ p w a s h. not_is h)
    ⨾ by_both _ refl refl (λ p w a b h g. and_is h g)
    ⨾ by_both _ refl refl (λ p w a b h g. or_is h g)
    ⨾ by_both _ refl refl (λ p w a b h g. xor_is h g)
    ⨾ by-same _ refl refl (λ p w a s h. wide-shl-is p s.wide (nltb→le parameter_limit p s.parameter) h)
    ⨾ by-same _ refl refl (λ p w a s h. wide-lshr-is p s.wide (nltb→le parameter_limit p s.parameter) h)
    ⨾ by-same _ refl refl (λ p w a s h. wide-ashr-is p s.wide (nltb→le parameter_limit p s.parameter) h)
    ⨾ by-same _ refl refl (λ p w a s h. rotl-is p s.wide h)
    ⨾ by-operands 1 _ refl (λ wt p w a h s. extract-is (p + wt - 1) p wt (omega (arith, s.wide)) s.wide (leb→le (p + wt) w s.fits) h)
    ⨾ by-operands 2 _ refl (λ wt p w a h v b g s. Is-width (sym (eqb→eq wt (w + v) s.fits)) (concat-is h g))
    ⨾ by-operands 1 _ refl (λ wt p w a h s. zext-to wt (leb→le w wt s.fits) h)
    ⨾ by-operands 1 _ refl (λ wt p w a h s. sext-to wt s.widths.0 (leb→le w wt s.fits) h)
    ⨾ by_both _ refl refl (λ p w a b h g. add_is h g)
    ⨾ by_both _ refl refl (λ p w a b h g. sub_is h g)
    ⨾ by-same _ refl refl (λ p w a s h. neg_is h)
    ⨾ by_both _ refl refl (λ p w a b h g. mul_is h g)
    ⨾ by-compared _ refl refl (λ p w a b l h g. eq_is h g)
    ⨾ by-compared _ refl refl (λ p w a b l h g. ult_is h g)
    ⨾ by-compared _ refl refl (λ p w a b l h g. slt-is l h g)
    ⨾ by-operands 3 _ refl
    (λ wt p w a h v b g u c k s.
    let e = chosen-widths wt w v u s.fits in
    Is-width (sym e.0) (ite-is h (Is-width (sym e.1 ∙ e.0) g) (Is-width e.2 k)))
    ⨾ by-operands 2 _ refl (λ wt p w a h v b g s. wide_is false false s.fits s.widths.0 s.widths.1.0 h g)
    ⨾ by-operands 2 _ refl (λ wt p w a h v b g s. wide_is true true s.fits s.widths.0 s.widths.1.0 h g)
    ⨾ by-operands 2 _ refl (λ wt p w a h v b g s. wide_is true false s.fits s.widths.0 s.widths.1.0 h g)
    ⨾ tt

pub narrow-terms-agree : All Agrees narrow_terms
unfolding narrow_terms bv op_shl op_lshr op_ashr
narrow-terms-agree =
    by-same _ refl refl (λ p w a s h. shl_is h (bv-is (ltb→lt p (2 ^ w) s.serves)))
    ⨾ by-same _ refl refl (λ p w a s h. lshr-is h (bv-is (ltb→lt p (2 ^ w) s.serves)))
    ⨾ by-same _ refl refl (λ p w a s h. ashr-is s.wide h (bv-is (ltb→lt p (2 ^ w) s.serves)))
    ⨾ tt

-- ---- the terms of a kind

pub term-agrees : {m : Term} → Memᴰ m (terms ++ narrow_terms) → Agrees m
term-agrees d = elim (Memᴰ.append_cases terms d) [ inl x ↦ all-member Agrees terms terms-agree x | inr y ↦ all-member Agrees narrow_terms narrow-terms-agree y ]

-- the number of a term's kind is looked up as that kind
terms-found : All (λ m. kind_of m.kind.number ≡ m.kind) (terms ++ narrow_terms)
unfolding terms narrow_terms kind_of
terms-found = same-maps (λ (m : Term). kind_of m.kind.number) (λ m. m.kind) (kind_of 0) (terms ++ narrow_terms) refl

pub term-kind : {m : Term} → Memᴰ m (terms ++ narrow_terms) → kind_of m.kind.number ≡ m.kind
term-kind d = all-member (λ m. kind_of m.kind.number ≡ m.kind) (terms ++ narrow_terms) terms-found d

abbrev pub Found : List Term → ℕ → Type 0
Found ms n = (m : Term) × Memᴰ m ms × (m.kind.number ≡ n) × Serving m

found : (n : ℕ) (ms : List Term) → All Serving ms → T (numbered n (map (λ m. m.kind) ms)) → Found ms n
found n [] g t = absurd t
found n (m ∷ ms) g t = choose (eqb m.kind.number n) (eqb→eq m.kind.number n) (found n ms g.1) t
  where
    later : Found ms n → Found (m ∷ ms) n
    later r = (r.0, Memᴰ.tail r.1, r.2, r.3)

    choose : (b : Bool) → (T b → m.kind.number ≡ n) → (T (numbered n (map (λ m. m.kind) ms)) → Found ms n) → T (b || numbered n (map (λ m. m.kind) ms)) → Found (m ∷ ms) n
    choose true e r t = (m, Memᴰ.head refl, e tt, g.0)
    choose false e r t = later (r t)

pub term_of : (n : ℕ) → T (is_kind n) → T (not (is_base (kind_of n).use_c)) → Found terms n
term_of n t none =
    found n terms terms-serve
    (implied (not (is_base (kind_of n).use_c)) (numbered n (map (λ m. m.kind) terms)) (kind-test (λ n. not (not (is_base (kind_of n).use_c)) || numbered n (map (λ m. m.kind) terms)) terms-kinds n t) none)
