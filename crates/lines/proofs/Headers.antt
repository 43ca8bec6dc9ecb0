-- The header of a text: what each answer of the code has to show. Assumes nothing.
--   no_room          a text that is too short for a header
--   with_second, with-third, without-header   the opening, by the answers r and s of the two comparisons
use mathlib.Core.Path.{◌≡◌, sym, ◌∙◌, subst}
use mathlib.Core.Bool.{Bool, true, false, not}
use mathlib.Core.List.{List}
use Prim.Native.Nat.{ℕ, ◌<◌}
use native.Mathlib.Omega.{arith}
use lib.Dec.{T}
use lib.ListN.{length, take, length-take}
use Rattle.grammar.specs.Words.{edition2, edition3, header2, header3}
use Rattle.grammar.specs.Lines.{headed_by, headed_opening, bare_opening, opening}
use Rattle.grammar.proofs.Openings.{opening-second, opening-third, opening-bare}
use Rattle.lines.proofs.Compare.{other_length}

pub no_room : (header text : List ℕ) → length text < length header → false ≡ headed_by header text
unfolding headed_by
no_room header text h = other_length (take (length header) text) header (λ e. omega (arith, e, length-take (length header) text))

-- the answers of the code's tests, as tests
held : (r b : Bool) → r ≡ b → r ≡ true → T b
held r b e is = subst T (sym is ∙ e) tt

failed : (r b : Bool) → r ≡ b → r ≡ false → T (not b)
failed r b e is = subst (λ (x : Bool). T (not x)) (sym is ∙ e) tt

pub with_second : (text : List ℕ) (r : Bool) → r ≡ headed_by header2 text → r ≡ true → headed_opening edition2 header3 ≡ opening text
with_second text r e is = sym (opening-second text (held r (headed_by header2 text) e is))

pub with-third : (text : List ℕ) (s : Bool) → s ≡ headed_by header3 text → s ≡ true → headed_opening edition3 header3 ≡ opening text
with-third text s e is = sym (opening-third text (held s (headed_by header3 text) e is))

pub without-header : (text : List ℕ) (r s : Bool) → r ≡ headed_by header2 text → s ≡ headed_by header3 text → r ≡ false → s ≡ false → bare_opening ≡ opening text
without-header text r s e f is isn = sym (opening-bare text (failed r (headed_by header2 text) e is) (failed s (headed_by header3 text) f isn))
