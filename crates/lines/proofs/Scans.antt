-- Loops that look for a separator, by indices into the text. Assumes nothing.
--   before-stop, before_on, before-end   how far it is to the next separator
--   past_next, past_end, past-now        how far it is to the n-th
--   start-zero, start-here               where part n begins
--   part-zero, part-here, part_bytes     the part found;   part-part   a part of a part
--   count-here, count-on, count-end      one more part at each separator
use mathlib.Core.Path.{◌≡◌, refl, sym, ap, ◌∙◌}
use mathlib.Core.List.{List, [], ◌∷◌}
use Prim.Native.Nat.{ℕ, zero, suc, ◌+◌, ◌-◌, ◌≤◌, ◌<◌}
use native.Mathlib.Numerals.{add-one}
use native.Mathlib.Omega.{arith}
use lib.Dec.{eqb}
use lib.ListN.{length, get_or, take, drop, length-drop, drop_of_length-le}
use lib.Seq.{drop-cons, drop-drop}
use Rattle.bits.proofs.Bools.{eq→eqb, when_true, when_false}
use Rattle.grammar.specs.Cut.{onto, pieces, before, past, Ends, between, part_ends, within, Part, part_at}
use Rattle.grammar.proofs.Tests.{ne→neqb}
use Rattle.grammar.proofs.Cuts.{by_first, before_here, before-later}
use Rattle.grammar.proofs.Parts.{past-on, nth, past-none, part-is, between-within}

module _ (text : List ℕ) (c i : ℕ) where
  pub before-stop : i < length text → get_or text i 0 ≡ c → before c (drop i text) ≡ 0
  before-stop h e = ap (before c) (drop-cons text i 0 h) ∙ before_here c (get_or text i 0) (drop (suc i) text) e

  pub before_on : i < length text → (get_or text i 0 ≡ c → ⊥) → before c (drop i text) ≡ suc (before c (drop (i + 1) text))
  before_on h e =
      ap (before c) (drop-cons text i 0 h)
      ∙ before-later c (get_or text i 0) (drop (suc i) text) e
      ∙ ap (λ (x : ℕ). suc (before c (drop x text))) (sym (add-one i))

  pub before-end : length text ≤ i → before c (drop i text) ≡ 0
  unfolding before
  before-end h = ap (before c) (drop_of_length-le text h)

-- ---- one separator more

module _ (text : List ℕ) (c at e : ℕ) (inside : at ≤ length text) (ends : e ≡ at + before c (drop at text)) where
  pub past_next : (left : ℕ) → 0 < left → e < length text → at + past c left (drop at text) ≡ e + 1 + past c (left - 1) (drop (e + 1) text)
  past_next zero h l = absurd (omega arith)
  past_next (suc left) h l =
      let k : at + suc (before c (drop at text)) ≡ e + 1 = omega arith in
      let j : suc left - 1 ≡ left = omega arith in
      let rest : drop (suc (before c (drop at text))) (drop at text) ≡ drop (e + 1) text = drop-drop (suc (before c (drop at text))) at text ∙ ap (λ (x : ℕ). drop x text) k in
      let on = past-on c left (drop at text) (omega (arith, length-drop at text)) in
      omega (arith, on, ap (λ (x : List ℕ). past c left x) rest, ap (λ (x : ℕ). past c x (drop (e + 1) text)) j)

  pub past_end : (left : ℕ) → 0 < left → e ≡ length text → at + past c left (drop at text) ≡ length text
  past_end zero h l = absurd (omega arith)
  past_end (suc left) h l = omega (arith, past-none c left (drop at text) (omega (arith, length-drop at text)), length-drop at text)

-- none is left to pass
pub past-now : (text : List ℕ) (c left : ℕ) → left ≤ 0 → past c left text ≡ 0
unfolding past
past-now text c zero h = refl
past-now text c (suc left) h = absurd (omega arith)

-- ---- where part n begins

module _ (text : List ℕ) (c n : ℕ) where
  pub start-zero : n ≡ 0 → 0 ≡ (part_ends c n text).start
  unfolding part_ends
  start-zero e = ap (λ (k : ℕ). (part_ends c k text).start) (sym e)

  pub start-here : (at : ℕ) → (n ≡ 0 → ⊥) → at ≡ past c (n - 1) text → at ≡ (part_ends c n text).start
  unfolding part_ends
  start-here at z h = go n z h
    where
      go : (m : ℕ) → (m ≡ 0 → ⊥) → at ≡ past c (m - 1) text → at ≡ (part_ends c m text).start
      go zero y r = absurd (y refl)
      go (suc m) y r = let j : suc m - 1 ≡ m = omega arith in r ∙ ap (λ (x : ℕ). past c x text) j

-- ---- the part found

module _ (block offset : ℕ) (text : List ℕ) (c n : ℕ) where
  abbrev lent : Part
  lent = record { block = block; offset = offset; bytes = text }

  -- part 0: none
  pub part-zero : n ≡ 0 → record { block = block; offset = offset; bytes = [] } ≡ part_at lent (part_ends c n text)
  unfolding part_ends
  part-zero e = let o : offset ≡ offset + 0 = omega arith in (λ i. record { block = block; offset = o i; bytes = [] }) ∙ sym (ap (λ (k : ℕ). part_at lent (part_ends c k text)) e)

  pub part-here : (n ≡ 0 → ⊥) → (at e o : ℕ) → at ≡ (part_ends c n text).start → e ≡ at + before c (drop at text) → o ≡ offset + at
      → record { block = block; offset = o; bytes = take (e - at) (drop at text) } ≡ part_at lent (part_ends c n text)
  unfolding part_ends
  part-here z at e o h k q = (λ i. record { block = block; offset = q i; bytes = take (e - at) (drop at text) }) ∙ go n z h
    where
      go : (m : ℕ) → (m ≡ 0 → ⊥) → at ≡ (part_ends c m text).start → record { block = block; offset = offset + at; bytes = take (e - at) (drop at text) } ≡ part_at lent (part_ends c m text)
      go zero y r = absurd (y refl)
      go (suc m) y r =
          ap (λ (x : ℕ). part_at lent (record { start = at; end = x })) k ∙ ap (λ (x : ℕ). part_at lent (record { start = x; end = x + before c (drop x text) })) r

-- its bytes are the piece of that number
pub part_bytes : (p q : Part) (c n : ℕ) → q ≡ part_at p (part_ends c n p.bytes) → q.bytes ≡ nth (pieces c p.bytes) n
part_bytes p q c n e = ap (λ (x : Part). x.bytes) e ∙ part-is c n p.bytes

-- a part of a part
pub part-part : (p : Part) (l f : Ends) → l.start ≤ l.end → l.end ≤ length p.bytes → f.start ≤ f.end → f.end ≤ length (between p.bytes l)
    → part_at (part_at p l) f ≡ part_at p (within l f)
part-part p l f hl hb hf hi =
    let o : p.offset + l.start + f.start ≡ p.offset + (l.start + f.start) = omega arith in
    let b = between-within p.bytes l f hl hb hf hi in
    λ i. record { block = p.block; offset = o i; bytes = sym b i }

-- ---- one more part at each separator

onto-length : (b c : ℕ) (l : List ℕ) → length (onto b (pieces c l)) ≡ length (pieces c l)
onto-length b c l = by_first (λ (ps : List (List ℕ)). length (onto b ps) ≡ length ps) (λ q qs. refl) c l

module _ (text : List ℕ) (c i : ℕ) (h : i < length text) where
  pub count-here : get_or text i 0 ≡ c → length (pieces c (drop i text)) ≡ suc (length (pieces c (drop (i + 1) text)))
  unfolding pieces
  count-here e =
      ap (λ (x : List ℕ). length (pieces c x)) (drop-cons text i 0 h)
      ∙ ap length (when_true (eqb (get_or text i 0) c) ([] ∷ pieces c (drop (suc i) text)) (onto (get_or text i 0) (pieces c (drop (suc i) text))) (eq→eqb e))
      ∙ ap (λ (k : ℕ). suc (length (pieces c (drop k text)))) (sym (add-one i))

  pub count-on : (get_or text i 0 ≡ c → ⊥) → length (pieces c (drop i text)) ≡ length (pieces c (drop (i + 1) text))
  unfolding pieces
  count-on e =
      ap (λ (x : List ℕ). length (pieces c x)) (drop-cons text i 0 h)
      ∙ ap length (when_false (eqb (get_or text i 0) c) ([] ∷ pieces c (drop (suc i) text)) (onto (get_or text i 0) (pieces c (drop (suc i) text))) (ne→neqb (get_or text i 0) c e))
      ∙ onto-length (get_or text i 0) c (drop (suc i) text)
      ∙ ap (λ (k : ℕ). length (pieces c (drop k text))) (sym (add-one i))

pub count-end : (text : List ℕ) (c i : ℕ) → length text ≤ i → length (pieces c (drop i text)) ≡ 1
unfolding pieces
count-end text c i h = ap (λ (x : List ℕ). length (pieces c x)) (drop_of_length-le text h)
