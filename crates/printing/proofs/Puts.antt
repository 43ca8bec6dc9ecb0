-- Bytes put one after another into a buffer. Assumes nothing.
--   sets-append                      elements put in two runs
--   set-sets                         an element that lies beyond a run, put first or last
--   put-length, put_byte             what putting does to the buffer
--   Writing, begin, step, room, done bytes put run by run: what is still to be put, at the place reached, makes up the whole
--   step-on, room-on, done_on        the same, where the rest is known by an equation
use mathlib.Core.Path.{◌≡◌, refl, sym, ap, ap₂, ◌∙◌, subst}
use mathlib.Core.List.{List, [], ◌∷◌, ◌++◌}
use Prim.Native.Nat.{ℕ, suc, ◌+◌, ◌≤◌}
use native.Mathlib.Omega.{arith}
use lib.ListN.{length, set, length-append}
use lib.Seq.{sets, set_comm, length-sets}
use Rattle.printing.specs.Put.{Holds, Put}

pub sets-append : (l : List ℕ) (i : ℕ) (x y : List ℕ) → sets l i (x ++ y) ≡ sets (sets l i x) (i + length x) y
sets-append l i [] y = let e : i ≡ i + 0 = omega arith in ap (λ (k : ℕ). sets l k y) e
sets-append l i (a ∷ x) y =
    let e : suc i + length x ≡ i + suc (length x) = omega arith in
    sets-append (set l i a) (suc i) x y ∙ ap (λ (k : ℕ). sets (sets (set l i a) (suc i) x) k y) e

pub set-sets : (l : List ℕ) (i j : ℕ) (x : List ℕ) (b : ℕ) → i + length x ≤ j → sets (set l j b) i x ≡ set (sets l i x) j b
set-sets l i j [] b h = refl
set-sets l i j (a ∷ x) b h =
    ap (λ (k : List ℕ). sets k (suc i) x) (set_comm l j i b a (λ e. omega arith)) ∙ set-sets (set l i a) (suc i) j x b (omega arith)

pub put-length : {old new : List ℕ} {at r : ℕ} {bytes : List ℕ} → Put old new at r bytes → length new ≡ length old
put-length {old} {at = at} {bytes = bytes} p = ap length p.text ∙ length-sets old at bytes

pub put_byte : (l : List ℕ) (at b : ℕ) → Put l (set l at b) at (at + 1) (b ∷ [])
put_byte l at b = record { ends = omega arith; text = refl }

-- ---- run by run

pub record Writing (old : List ℕ) (from : ℕ) (whole new : List ℕ) (at : ℕ) (rest : List ℕ) : Type 0 where
  pub place : at + length rest ≡ from + length whole
  pub kept : length new ≡ length old
  pub text : sets new at rest ≡ sets old from whole

pub begin : (old : List ℕ) (from : ℕ) (whole rest : List ℕ) → rest ≡ whole → Writing old from whole old from rest
begin old from whole rest e = record { place = ap (λ (x : List ℕ). from + length x) e; kept = refl; text = ap (sets old from) e }

pub step : {old : List ℕ} {from : ℕ} {whole new new' : List ℕ} {at at' : ℕ} {x : List ℕ} (rest : List ℕ) → Writing old from whole new at (x ++ rest) → Put new new' at at' x → Writing old from whole new' at' rest
step {new = new} {at = at} {x = x} rest w p =
    record {
      place = omega (arith, w.place, p.ends, length-append x rest);
      kept = put-length p ∙ w.kept;
      text = ap₂ (λ (o : List ℕ) (k : ℕ). sets o k rest) p.text p.ends ∙ sym (sets-append new at x rest) ∙ w.text;
    }

pub room : {old : List ℕ} {from : ℕ} {whole new : List ℕ} {at : ℕ} (x rest : List ℕ) → Holds old from whole → Writing old from whole new at (x ++ rest) → Holds new at x
room x rest h w = omega (arith, w.place, w.kept, length-append x rest)

pub done : {old : List ℕ} {from : ℕ} {whole new : List ℕ} {at : ℕ} → Writing old from whole new at [] → Put old new from at whole
done w = record { ends = omega (arith, w.place); text = w.text }

-- the same, where the rest is known by an equation
pub step-on : {old : List ℕ} {from : ℕ} {whole new new' : List ℕ} {at at' : ℕ} {rest : List ℕ} (x rest' : List ℕ) → rest ≡ x ++ rest' → Writing old from whole new at rest → Put new new' at at' x → Writing old from whole new' at' rest'
step-on {old} {from} {whole} {new} {at = at} x rest' e w p = step rest' (subst (Writing old from whole new at) e w) p

pub room-on : {old : List ℕ} {from : ℕ} {whole new : List ℕ} {at : ℕ} {rest : List ℕ} (x rest' : List ℕ) → rest ≡ x ++ rest' → Holds old from whole → Writing old from whole new at rest → Holds new at x
room-on {old} {from} {whole} {new} {at} x rest' e h w = room x rest' h (subst (Writing old from whole new at) e w)

pub done_on : {old : List ℕ} {from : ℕ} {whole new : List ℕ} {at : ℕ} {rest : List ℕ} → rest ≡ [] → Writing old from whole new at rest → Put old new from at whole
done_on {old} {from} {whole} {new} {at} e w = done (subst (Writing old from whole new at) e w)
