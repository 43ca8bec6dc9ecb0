-- The kinds of the request's list: which result bit an operand bit bears on. Assumes nothing.
--   LocalKind k   the plain number of the kind k is local wherever the widths fit
use mathlib.Core.Path.{◌≡◌, refl, sym, ap, ap₂, ◌∙◌, subst}
use mathlib.Core.Bool.{Bool, true, false, ◌&&◌}
use mathlib.Core.Logic.{◌⊎◌, inl, inr}
use mathlib.Core.List.{List, Memᴰ}
use Prim.Native.Nat.{ℕ, zero, suc, ◌+◌, ◌-◌, ◌%◌, ◌^◌, ◌<◌, min, max}
use native.Mathlib.Decide.{dec_lt}
use native.Mathlib.Omega.{arith}
use lib.Dec.{T, eqb, eqb→eq}
use lib.Bits.{differ}
use lib.ListN.{get_or}
use Rattle.bits.specs.Bit.{bit, is_set, digit}
use Rattle.bits.proofs.Below.{some_below-ext}
use Rattle.bits.proofs.Bits.{bit-number, bit-and, bit-or, bit-xor}
use Rattle.bits.proofs.Numbers.{is_set-same}
use Rattle.bits.proofs.Constants.{bit-complement}
use Rattle.vectors.specs.Lists.{All}
use Rattle.vectors.proofs.Lists.{◌⨾◌, all-member}
use Rattle.operations.specs.Kind.{asks, Kind, first, second}
use Rattle.operations.specs.Bitwise.{op_copy, op_not, op_and, op_or, op_xor}
use Rattle.operations.specs.Moves.{op_shl, op_lshr, op_rotl, op_extract, op_concat, op_zext}
use Rattle.operations.specs.Result.{Below}
use Rattle.operations.proofs.Bounded.{below_at}
use Rattle.operations.proofs.MovedBits.{shl-low, shl-high, lshr-bit, extract-bit, concat-low, concat-high}
use Rattle.lossless.specs.Conditions.{lossless_kinds}
use Rattle.lossless.proofs.Local.{Local}

abbrev pub LocalKind : Kind → Type 0
LocalKind k = (wt p : ℕ) (ws : List ℕ) → T (asks k.rule wt ws p) → Local wt ws (k.plain wt ws p)

-- a bit below a width that is tested to be that one
below-width : (k w v : ℕ) → T (eqb w v) → k < w → k < v
below-width k w v t h = subst (λ (x : ℕ). k < x) (eqb→eq w v t) h

-- ---- bit by bit: bit k of the result is made of the operands' bits k

local-bits : (w : ℕ) (ws : List ℕ) (f : List ℕ → ℕ) (c : ℕ → ℕ → ℕ)
    → ((ns : List ℕ) → Below ws ns → (k : ℕ) → k < w → bit (f ns) k ≡ c (bit (first ns) k) (bit (second ns) k)) → Local w ws f
local-bits w ws f c law =
    record {
      owner = λ o q. q;
      apart = λ ns ms a b k h e. law ns a k h ∙ ap₂ c (e 0 k refl) (e 1 k refl) ∙ sym (law ms b k h);
    }

local-not : LocalKind op_not
unfolding op_not
local-not wt p ws t =
    local-bits wt ws (λ ns. 2 ^ first ws - 1 - first ns) (λ x y. 1 - x) (λ ns a k h. bit-complement (first ws) (first ns) k (below_at ws ns a 0) (below-width k wt (first ws) t h))

local-and : LocalKind op_and
unfolding op_and
local-and wt p ws t = local-bits wt ws (op_and.plain wt ws p) min (λ ns a k h. bit-and (first ns) (second ns) k)

local-or : LocalKind op_or
unfolding op_or
local-or wt p ws t = local-bits wt ws (op_or.plain wt ws p) max (λ ns a k h. bit-or (first ns) (second ns) k)

local-xor : LocalKind op_xor
unfolding op_xor
local-xor wt p ws t = local-bits wt ws (op_xor.plain wt ws p) differ (λ ns a k h. bit-xor (first ns) (second ns) k)

-- ---- movement: bit k of the result is 0, or the one operand bit that goes there

local-moved : (w : ℕ) (ws : List ℕ) (f : List ℕ → ℕ) (owner : ℕ → ℕ → ℕ)
    → ((k : ℕ) → k < w → ((ns : List ℕ) → Below ws ns → bit (f ns) k ≡ 0) ⊎ ((o q : ℕ) × (owner o q ≡ k) × ((ns : List ℕ) → Below ws ns → bit (f ns) k ≡ bit (get_or ns o 0) q))) → Local w ws f
local-moved w ws f owner moved =
    record {
      owner = owner;
      apart = λ ns ms a b k h e. elim (moved k h) [
        | inl z ↦ z ns a ∙ sym (z ms b)
        | inr m ↦ let (o, q, p, g) = m in g ns a ∙ e o q p ∙ sym (g ms b)
      ];
    }

local-kept : (w : ℕ) (ws : List ℕ) → Local w ws first
local-kept w ws = local-moved w ws first (λ o q. q) (λ k h. inr (0, k, refl, (λ ns a. refl)))

local-copy : LocalKind op_copy
unfolding op_copy
local-copy wt p ws t = local-kept wt ws

local-zext : LocalKind op_zext
unfolding op_zext
local-zext wt p ws t = local-kept wt ws

local-shl : LocalKind op_shl
unfolding op_shl
local-shl wt p ws t =
    local-moved wt ws (op_shl.plain wt ws p) (λ o q. q + p) (λ k h.
    let l = below-width k wt (first ws) t h in
    elim (dec_lt k p) [
      | yes y ↦ inl (λ ns a. shl-low wt p ws ns k l y)
      | no n ↦ inr (0, k - p, omega arith, (λ ns a. shl-high wt p ws ns k l (omega arith)))
    ])

local-lshr : LocalKind op_lshr
local-lshr wt p ws t = local-moved wt ws (op_lshr.plain wt ws p) (λ o q. q - p) (λ k h. inr (0, k + p, omega arith, (λ ns a. lshr-bit wt p ws ns k)))

local-extract : LocalKind op_extract
local-extract wt p ws t = local-moved wt ws (op_extract.plain wt ws p) (λ o q. q - p) (λ k h. inr (0, k + p, omega arith, (λ ns a. extract-bit wt p ws ns k h)))

local-concat : LocalKind op_concat
local-concat wt p ws t =
    local-moved wt ws (op_concat.plain wt ws p) own (λ k h. elim (dec_lt k (second ws)) [
      | yes y ↦ inr (1, k, refl, (λ ns a. concat-low wt p ws ns k y))
      | no n ↦ inr (0, k - second ws, omega arith, (λ ns a. concat-high wt p ws ns k (below_at ws ns a 1) (omega arith)))
    ])
  where
    own : ℕ → ℕ → ℕ
    own zero q = q + second ws
    own (suc o) q = q

-- two tests that are one wherever a third holds
and_same : (b c d : Bool) → (T b → c ≡ d) → (b && c) ≡ (b && d)
and_same true c d e = e tt
and_same false c d e = refl

local-rotl : LocalKind op_rotl
unfolding op_rotl
local-rotl wt p ws t =
    record {
      owner = λ o q. (q + p) % first ws;
      apart = λ ns ms a b k h e.
          let l = below-width k wt (first ws) t h in
          bit-number (first ws) _ k l
          ∙ ap digit (some_below-ext (first ws) _ _ (λ q. and_same (eqb ((q + p) % first ws) k) (is_set (first ns) q) (is_set (first ms) q)
          (λ u. is_set-same (first ns) q (first ms) q (e 0 q (eqb→eq _ k u)))))
          ∙ sym (bit-number (first ws) _ k l);
    }

-- ---- all of them

all_local : All LocalKind lossless_kinds
unfolding lossless_kinds
all_local = local-copy ⨾ local-not ⨾ local-and ⨾ local-or ⨾ local-xor ⨾ local-shl ⨾ local-lshr ⨾ local-rotl ⨾ local-extract ⨾ local-concat ⨾ local-zext ⨾ tt

pub kind-local : (k : Kind) → Memᴰ k lossless_kinds → LocalKind k
kind-local k m = all-member LocalKind lossless_kinds all_local m
