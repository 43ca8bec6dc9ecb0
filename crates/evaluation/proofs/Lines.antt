-- The line of a refusal: its parts, its length, and the buffer that holds it. Assumes nothing.
use mathlib.Core.Path.{◌≡◌, sym, ap, ◌∙◌}
use mathlib.Core.List.{List, [], ◌∷◌, ◌++◌, append_assoc}
use Prim.Native.Nat.{ℕ, zero, suc, ◌+◌, ◌/◌, ◌^◌, ◌≤◌, ◌<◌}
use native.Mathlib.Nat.{pow-suc, div-lt_iff_lt-mul, zero-add}
use native.Mathlib.Decide.{dec_lt}
use native.Mathlib.Omega.{arith}
use lib.ListN.{length, drop, length-append}
use lib.Seq.{sets-eq}
use Rattle.grammar.specs.Print.{decimal, joined}
use Rattle.grammar.proofs.Decimals.{length-small, length-large}
use Rattle.printing.specs.Put.{Holds, Put}
use Rattle.evaluation.specs.Evaluate.{Printed, refused_line, output_room}

-- a number below 10 ^ k has at most k digits
digits-most : (k n : ℕ) → n < 10 ^ suc k → length (decimal n) ≤ suc k
digits-most zero n h = let e = length-small n (omega arith) in omega arith
digits-most (suc k) n h =
    elim (dec_lt n 10) [
      | yes l ↦ let e = length-small n l in omega arith
      | no l ↦
          let q = digits-most k (n / 10) ((div-lt_iff_lt-mul (omega arith)).1 (rw (pow-suc 10 (suc k)) at h)) in
          let e = length-large n (omega arith) in
          omega arith
    ]

-- the parts that are put one after another
abbrev pub first_part : List ℕ
first_part = 114 ∷ 101 ∷ 102 ∷ 117 ∷ 115 ∷ 101 ∷ 100 ∷ 9 ∷ []

abbrev pub tab_part : List ℕ
tab_part = 9 ∷ []

abbrev pub end_part : List ℕ
end_part = 10 ∷ []

pub line-parts : (n i : ℕ) → first_part ++ (decimal n ++ (tab_part ++ (decimal i ++ (end_part ++ [])))) ≡ refused_line n i
unfolding refused_line joined
line-parts n i = ap (λ (l : List ℕ). first_part ++ l) (sym (append_assoc (decimal n) (9 ∷ decimal i) (10 ∷ [])))

line-length : (n i : ℕ) → length (refused_line n i) ≡ 8 + (length (decimal n) + (1 + (length (decimal i) + 1)))
line-length n i =
    ap length (sym (line-parts n i))
    ∙ length-append first_part (decimal n ++ (tab_part ++ (decimal i ++ end_part)))
    ∙ ap (λ (m : ℕ). 8 + m) (length-append (decimal n) (tab_part ++ (decimal i ++ end_part)) ∙ ap (λ (m : ℕ). length (decimal n) + m) (length-append tab_part (decimal i ++ end_part) ∙ ap (λ (m : ℕ). 1 + m) (length-append (decimal i) end_part)))

pub line-fits : (out : List ℕ) (n i : ℕ) → n < 2 ^ 64 → i < 2 ^ 64 → output_room ≤ length out → Holds out 0 (refused_line n i)
line-fits out n i hn hi h =
    let a = digits-most 19 n (omega arith) in
    let b = digits-most 19 i (omega arith) in
    let e = line-length n i in
    omega arith

-- bytes put at the start fill the buffer from its start
pub printed-of-put : {old new bytes : List ℕ} {r : ℕ} → Holds old 0 bytes → Put old new 0 r bytes → Printed bytes r old new
printed-of-put {old} {new} {bytes} h p =
    record {
      count = p.ends ∙ zero-add (length bytes);
      buffer = p.text ∙ sets-eq bytes old 0 h ∙ ap (λ (m : ℕ). bytes ++ drop m old) (zero-add (length bytes));
    }
