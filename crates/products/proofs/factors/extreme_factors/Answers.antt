-- `extreme_factors` meets its contract. Assumes nothing.
use mathlib.Core.Path.{ap, ap₂, ◌∙◌}
use lib.Bits.{bit_and, bit_or}
use Rattle.std.proofs.Common.{List, ℕ, get_or}
use Rattle.products.specs.Factors.{and_not, least_factor, greatest_factor, extremes_of}
use Rattle.products.proofs.factors.extreme_factors.Goals as goal

pub returns : goal.returns
unfolding extremes_of least_factor greatest_factor
returns c =
    let a = c.args in
    let e = c.requires.1 in
    let va = c.partners-a_value.ensures a.va (ap (λ (r : List ℕ). get_or r 1 0) e) in
    let vb = c.partners-b_value.ensures a.vb (ap (λ (r : List ℕ). get_or r 3 0) e) in
    let ma = c.partners-2.ensures a.ma (ap (λ (r : List ℕ). get_or r 0 0) e) in
    let mb = c.partners.ensures a.mb (ap (λ (r : List ℕ). get_or r 2 0) e) in
    let sa = c.and_not-a_single.ensures ∙ ap (and_not a.ma) mb in
    let sb = c.and_not-b_single.ensures ∙ ap (and_not a.mb) ma in
    let la = ap (bit_or a.va) (ap₂ bit_and sa vb) in
    let lb = ap (bit_or a.vb) (ap₂ bit_and sb va) in
    let ga = ap (bit_or a.va) (c.and_not.ensures ∙ ap₂ and_not sa vb) in
    let gb = ap (bit_or a.vb) (c.and_not-2.ensures ∙ ap₂ and_not sb va) in
    λ ι. record { least = record { a = la ι; b = lb ι }; greatest = record { a = ga ι; b = gb ι } }
