-- `rifflerleek::rifflerleek_field` meets its contract: the field begins where it does in its line, and ends after its bytes. Assumes nothing.
use mathlib.Core.Path.{ap, ◌∙◌}
use native.Mathlib.Omega.{arith}
use Rattle.grammar.specs.Cut.{Part}
use Rattle.lines.specs.Model.{lies}
use Rattle.rifflerleek.proofs.Starts.{bytes-found, end-inside, ends_found}
use Rattle.rifflerleek.proofs.rifflerleek_field.Goals as goal

pub overflow_add-end : goal.overflow_add-end
overflow_add-end c =
    let a = c.args in
    let l = c.part-l in
    let s = c.start_of in
    let t = c.start_of-2 in
    let f = c.field-found in
    let h = end-inside a.text.now a.line a.field l.result.now f.result.now s.result t.result (ap (λ (p : Part). p.bytes) l.ensures) s.ensures.0 t.ensures.0
    (bytes-found (lies a.text.ref_ptr a.text.now) (lies f.result.ref_ptr f.result.now) a.line a.field f.ensures) in
    omega (arith, h)

pub returns : goal.returns
returns c =
    let a = c.args in
    let l = c.part-l in
    let s = c.start_of in
    let t = c.start_of-2 in
    let f = c.field-found in
    c.done.ensures ∙ ends_found a.text.now a.line a.field l.result.now f.result.now s.result t.result (ap (λ (p : Part). p.bytes) l.ensures) s.ensures.0 t.ensures.0
    (bytes-found (lies a.text.ref_ptr a.text.now) (lies f.result.ref_ptr f.result.now) a.line a.field f.ensures)
