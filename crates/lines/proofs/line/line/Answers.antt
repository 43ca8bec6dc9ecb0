-- `lines::line::line`, by the first field and the count of fields. Assumes nothing.
use mathlib.Core.Path.{refl, sym, ap, ◌∙◌}
use mathlib.Core.List.{List}
use Prim.Native.Nat.{ℕ}
use Rattle.grammar.specs.Lists.{same}
use Rattle.grammar.specs.Words.{tab, row_word, op_word}
use Rattle.grammar.specs.Cut.{pieces}
use Rattle.letters.specs.Model.{edition_model}
use Rattle.lines.specs.Model.{lies, line_model}
use Rattle.lines.proofs.Scans.{part_bytes}
use Rattle.lines.proofs.ReadLines.{line-short-row, line_row_lem, line-op, line_other}
use Rattle.lines.proofs.line.line.Goals as goal

pub returns-then-n-ne3 : goal.returns-then-n-ne3
returns-then-n-ne3 c =
    let l = c.args.l.now in
    let e = edition_model c.args.e in
    let head = part_bytes (lies c.args.l.ref_ptr c.args.l.now) (lies c.part-head.result.ref_ptr c.part-head.result.now) tab 1 c.part-head.ensures in
    let is_row = c.is_word.ensures ∙ ap (λ (x : List ℕ). same x row_word) head in
    line-short-row e (pieces tab l) c.is_word.result _ is_row refl c.if-is_word.true (λ n. c.if-n-ne3.true (c.count_parts-n.ensures ∙ n))

pub returns-then-is_word : goal.returns-then-is_word
returns-then-is_word c =
    let l = c.args.l.now in
    let e = edition_model c.args.e in
    let head = part_bytes (lies c.args.l.ref_ptr c.args.l.now) (lies c.part-head.result.ref_ptr c.part-head.result.now) tab 1 c.part-head.ensures in
    let is_row = c.is_word.ensures ∙ ap (λ (x : List ℕ). same x row_word) head in
    let lock = part_bytes (lies c.args.l.ref_ptr c.args.l.now) (lies c.part-lock.result.ref_ptr c.part-lock.result.now) tab 2 c.part-lock.ensures in
    let letters = part_bytes (lies c.args.l.ref_ptr c.args.l.now) (lies c.part-letters.result.ref_ptr c.part-letters.result.now) tab 3 c.part-letters.ensures in
    line_row_lem e (pieces tab l) c.is_word.result _ is_row refl c.if-is_word.true (sym c.count_parts-n.ensures ∙ c.if-n-ne3.false)
    _ _ lock letters (line_model c.row_line.result) c.row_line.ensures

pub op_line-requires : goal.op_line-requires
op_line-requires c = c.count_parts-n.ensures

pub returns-then-is_word-2 : goal.returns-then-is_word-2
returns-then-is_word-2 c =
    let l = c.args.l.now in
    let e = edition_model c.args.e in
    let head = part_bytes (lies c.args.l.ref_ptr c.args.l.now) (lies c.part-head.result.ref_ptr c.part-head.result.now) tab 1 c.part-head.ensures in
    let is_row = c.is_word.ensures ∙ ap (λ (x : List ℕ). same x row_word) head in
    let is-op = c.is_word-2.ensures ∙ ap (λ (x : List ℕ). same x op_word) head in
    line-op e (pieces tab l) c.is_word.result c.is_word-2.result is_row is-op c.if-is_word.false c.if-is_word-2.true (line_model c.op_line.result) c.op_line.ensures

pub returns : goal.returns
returns c =
    let l = c.args.l.now in
    let e = edition_model c.args.e in
    let head = part_bytes (lies c.args.l.ref_ptr c.args.l.now) (lies c.part-head.result.ref_ptr c.part-head.result.now) tab 1 c.part-head.ensures in
    let is_row = c.is_word.ensures ∙ ap (λ (x : List ℕ). same x row_word) head in
    let is-op = c.is_word-2.ensures ∙ ap (λ (x : List ℕ). same x op_word) head in
    line_other e (pieces tab l) c.is_word.result c.is_word-2.result is_row is-op c.if-is_word.false c.if-is_word-2.false
