-- What `best` is worth: exact, fewest unknown bits, covering, monotone, plain on known rows. Assumes nothing.
use mathlib.Core.Path.{◌≡◌, refl, sym, ap, ◌∙◌, subst}
use mathlib.Core.List.{List, [], ◌∷◌, map}
use Prim.Native.Nat.{ℕ, ◌^◌, ◌<◌}
use native.Mathlib.Omega.{arith}
use lib.Pow.{pow_pos}
use Rattle.bits.specs.Bit.{bit}
use Rattle.bits.proofs.Bits.{bit-ext, bit-of-zero}
use Rattle.vectors.specs.Lists.{All, Pointwise}
use Rattle.vectors.specs.Row.{Row, row, WellFormed, Covers, Inside}
use Rattle.vectors.specs.Choice.{Chosen}
use Rattle.vectors.specs.Best.{best, Exact}
use Rattle.vectors.specs.Hull.{Hull, Results}
use Rattle.vectors.proofs.Choices.{some-chosen, chosen-inside}
use Rattle.vectors.proofs.Hulls.{hull-covers, hull-all, hull-least, hull-mono, hull-row, hull-iff}
use Rattle.vectors.proofs.Bests.{best-hull, best-of-hull, some_result, best-from-bits}

module _ (w : ℕ) (f : List ℕ → ℕ) (rows : List Row) where
  result : (ns : List ℕ) → Chosen rows ns → Results f rows (f ns)
  result ns c = record { numbers = ns; chosen = c; gives = refl }

  -- every result is covered
  pub best-covers : (ns : List ℕ) → Chosen rows ns → f ns < 2 ^ w → Covers (best w f rows) (f ns)
  best-covers ns c h = hull-covers w (Results f rows) (best w f rows) (best-hull w f rows) (f ns) (result ns c) h

  -- exact in both directions, and with the fewest unknown bits among all vectors of that width that cover all results
  pub best-exact : All WellFormed rows → ((ns : List ℕ) → Chosen rows ns → f ns < 2 ^ w) → Exact w f rows (best w f rows)
  best-exact F below =
      record {
        width_is = H.width_is;
        known_iff = λ k h b l. (
          (λ K ns c. H.known k h K.known (f ns) (result ns c) ∙ K.as_value),
          (λ all.
              let (ns, c) = some-chosen rows F in
              let e = hull-all w (Results f rows) (best w f rows) H k h b (λ n s. each k b all n s) in
              record { known = e; as_value = sym (H.known k h e (f ns) (result ns c)) ∙ all ns c }),
        );
        covers = λ ns c. best-covers ns c (below ns c);
        least = λ q e all. hull-least w (Results f rows) (best w f rows) H q e (λ n s. subst (Covers q) s.gives (all s.numbers s.chosen));
      }
    where
      H : Hull w (Results f rows) (best w f rows)
      H = best-hull w f rows

      each : (k b : ℕ) → ((ns : List ℕ) → Chosen rows ns → bit (f ns) k ≡ b) → (n : ℕ) → Results f rows n → bit n k ≡ b
      each k b all n s = ap (λ (x : ℕ). bit x k) (sym s.gives) ∙ all s.numbers s.chosen

-- operands inside, result inside
pub best-mono : (w : ℕ) (f : List ℕ → ℕ) (ps qs : List Row) → All WellFormed ps → Pointwise Inside ps qs → Inside (best w f ps) (best w f qs)
best-mono w f ps qs F I =
    hull-mono w (Results f ps) (Results f qs) (best w f ps) (best w f qs) (some_result f ps F)
    (λ n s. record { numbers = s.numbers; chosen = chosen-inside ps qs s.numbers I s.chosen; gives = s.gives }) (best-hull w f ps) (best-hull w f qs)

-- where the choices of two lists of rows give the same results, their best results are one
pub best-carried : (w : ℕ) (f g : List ℕ → ℕ) (ps qs : List Row) → All WellFormed qs
    → ((ns : List ℕ) → Chosen ps ns → Results g qs (f ns)) → ((ns : List ℕ) → Chosen qs ns → Results f ps (g ns)) → best w f ps ≡ best w g qs
best-carried w f g ps qs F there back =
    best-of-hull w g qs (best w f ps) F
    (hull-iff w (Results f ps) (Results g qs) (best w f ps) (carried f g ps qs there) (carried g f qs ps back) (best-hull w f ps))
  where
    carried : (f g : List ℕ → ℕ) (ps qs : List Row) → ((ns : List ℕ) → Chosen ps ns → Results g qs (f ns)) → (n : ℕ) → Results f ps n → Results g qs n
    carried f g ps qs h n r = let s = h r.numbers r.chosen in record { numbers = s.numbers; chosen = s.chosen; gives = s.gives ∙ r.gives }

-- functions that agree on all choices give one result
pub best-ext : (w : ℕ) (f g : List ℕ → ℕ) (rows : List Row) → All WellFormed rows → ((ns : List ℕ) → Chosen rows ns → f ns ≡ g ns) → best w f rows ≡ best w g rows
best-ext w f g rows F e =
    best-carried w f g rows rows F (λ ns c. record { numbers = ns; chosen = c; gives = sym (e ns c) }) (λ ns c. record { numbers = ns; chosen = c; gives = e ns c })

-- a function that gives one number on all choices gives that number, with an empty mask
pub best-constant : (w : ℕ) (f : List ℕ → ℕ) (rows : List Row) (n : ℕ) → All WellFormed rows → n < 2 ^ w → ((ns : List ℕ) → Chosen rows ns → f ns ≡ n) → best w f rows ≡ row w 0 n
best-constant w f rows n F h e =
    sym (best-from-bits F (record {
      width_is = refl;
      formed = record { mask_below = pow_pos w; value_below = h; apart = λ k z. absurd (let y = bit-of-zero k in omega arith) };
      unknown = λ k l z. absurd (let y = bit-of-zero k in omega arith);
      known = λ k l z ns c. ap (λ (x : ℕ). bit x k) (e ns c);
    }))

-- where the results are what a row covers, the best result is that row
pub best-is-row : (w : ℕ) (f : List ℕ → ℕ) (rows : List Row) (r : Row) → WellFormed r → r.width ≡ w → All WellFormed rows
    → ((ns : List ℕ) → Chosen rows ns → Covers r (f ns)) → ((n : ℕ) → Covers r n → Results f rows n) → best w f rows ≡ r
best-is-row w f rows r F e W there back =
    sym (best-of-hull w f rows r W
    (hull-iff w (Covers r) (Results f rows) r back (λ n s. subst (Covers r) s.gives (there s.numbers s.chosen)) (subst (λ (x : ℕ). Hull x (Covers r) r) e (hull-row r F))))

-- ---- fully known rows: the plain number with an empty mask

-- a row with an empty mask covers its value alone
pub known-covers : (r : Row) (n : ℕ) → WellFormed r → r.mask ≡ 0 → Covers r n → n ≡ r.value
known-covers r n F e c = bit-ext r.width n r.value c.below F.value_below (λ k h. c.agrees k h (ap (λ (x : ℕ). bit x k) e ∙ bit-of-zero k))

pub known-chosen : (rows : List Row) (ns : List ℕ) → All WellFormed rows → All (λ r. r.mask ≡ 0) rows → Chosen rows ns → ns ≡ map (λ r. r.value) rows
known-chosen [] [] F K c = refl
known-chosen [] (n ∷ ns) F K c = absurd c
known-chosen (r ∷ rs) [] F K c = absurd c
known-chosen (r ∷ rs) (n ∷ ns) F K c =
    let p = known-covers r n F.0 K.0 c.0 in
    let q = known-chosen rs ns F.1 K.1 c.1 in
    λ ι. p ι ∷ q ι

pub best-known : (w : ℕ) (f : List ℕ → ℕ) (rows : List Row) → All WellFormed rows → All (λ r. r.mask ≡ 0) rows → f (map (λ r. r.value) rows) < 2 ^ w
    → best w f rows ≡ row w 0 (f (map (λ r. r.value) rows))
best-known w f rows F K h = best-constant w f rows (f (map (λ r. r.value) rows)) F h (λ ns c. ap f (known-chosen rows ns F K c))
