-- `lines::line::op_line`, by the edition and the count of fields. Assumes nothing.
use mathlib.Core.Path.{sym, ◌∙◌}
use native.Mathlib.Omega.{arith}
use Rattle.grammar.specs.Words.{tab}
use Rattle.grammar.specs.Cut.{pieces}
use Rattle.letters.specs.Model.{edition_model}
use Rattle.lines.specs.Model.{lies}
use Rattle.lines.proofs.Editions.{older-count, third-count}
use Rattle.lines.proofs.Scans.{part_bytes}
use Rattle.lines.proofs.OpLines.{op-short, op-older, op-third}
use Rattle.lines.proofs.line.op_line.Goals as goal

pub returns-then-n-ne-RECORD_WORDS : goal.returns-then-n-ne-RECORD_WORDS
returns-then-n-ne-RECORD_WORDS c =
    let older = sym c.is_older.ensures ∙ c.if-is_older.true in
    op-short (edition_model c.args.e) (pieces tab c.args.l.now) (λ z. c.if-n-ne-RECORD_WORDS.true (omega (arith, c.requires, z, older-count c.args.e older)))

pub returns-then-is_older : goal.returns-then-is_older
returns-then-is_older c =
    let l = c.args.l in
    let name = part_bytes (lies l.ref_ptr l.now) (lies c.part-name.result.ref_ptr c.part-name.result.now) tab 2 c.part-name.ensures in
    let t = part_bytes (lies l.ref_ptr l.now) (lies c.part-t.result.ref_ptr c.part-t.result.now) tab 3 c.part-t.ensures in
    let a = part_bytes (lies l.ref_ptr l.now) (lies c.part-a.result.ref_ptr c.part-a.result.now) tab 4 c.part-a.ensures in
    let b = part_bytes (lies l.ref_ptr l.now) (lies c.part-b.result.ref_ptr c.part-b.result.now) tab 5 c.part-b.ensures in
    let p = part_bytes (lies l.ref_ptr l.now) (lies c.part-p.result.ref_ptr c.part-p.result.now) tab 6 c.part-p.ensures in
    let older = sym c.is_older.ensures ∙ c.if-is_older.true in
    op-older c.args.e (pieces tab l.now) _ _ _ _ _ name t a b p older (sym c.requires ∙ c.if-n-ne-RECORD_WORDS.false) _ c.older_record.ensures _ c.line_of.ensures

pub returns-then-n : goal.returns-then-n
returns-then-n c =
    let third = sym c.is_older.ensures ∙ c.if-is_older.false in
    op-short (edition_model c.args.e) (pieces tab c.args.l.now) (λ z. c.if-n.true (omega (arith, c.requires, z, third-count c.args.e third)))

pub returns : goal.returns
returns c =
    let l = c.args.l in
    let name = part_bytes (lies l.ref_ptr l.now) (lies c.part-name.result.ref_ptr c.part-name.result.now) tab 2 c.part-name.ensures in
    let t = part_bytes (lies l.ref_ptr l.now) (lies c.part-t.result.ref_ptr c.part-t.result.now) tab 3 c.part-t.ensures in
    let a = part_bytes (lies l.ref_ptr l.now) (lies c.part-a.result.ref_ptr c.part-a.result.now) tab 4 c.part-a.ensures in
    let b = part_bytes (lies l.ref_ptr l.now) (lies c.part-b.result.ref_ptr c.part-b.result.now) tab 5 c.part-b.ensures in
    let p = part_bytes (lies l.ref_ptr l.now) (lies c.part-p.result.ref_ptr c.part-p.result.now) tab 6 c.part-p.ensures in
    let x = part_bytes (lies l.ref_ptr l.now) (lies c.part-c.result.ref_ptr c.part-c.result.now) tab 7 c.part-c.ensures in
    let third = sym c.is_older.ensures ∙ c.if-is_older.false in
    op-third c.args.e (pieces tab l.now) _ _ _ _ _ name t a b p _ x third (sym c.requires ∙ c.if-n.false) _ c.third_record.ensures _ c.line_of-2.ensures
