-- `needs::need_before` meets its contract: the address and data of a store, or the row t and then the operands, word by word. Assumes nothing.
use mathlib.Core.Path.{◌∙◌}
use native.Mathlib.Omega.{arith}
use lib.ListN.{set, length-set}
use Rattle.needs.proofs.Marks.{still-in, span-length, set-bytes, span-bytes}
use Rattle.needs.proofs.RowWords.{writes-row, first_in, data-in, second_in, sixth_in, store-marked, row-marked}
use Rattle.needs.proofs.need_before.Goals as goal

pub bounds-need-address : goal.bounds-need-address
bounds-need-address c = first_in c.args.r c.requires.1

pub bounds-need-data : goal.bounds-need-data
bounds-need-data c =
    let d = data-in c.args.r c.requires.1 c.if-r-eq-STORE.true in
    let l = length-set c.args.need.now c.args.r.a 1 in
    omega arith

pub returns-then-r-eq-STORE : goal.returns-then-r-eq-STORE
returns-then-r-eq-STORE c =
    store-marked c.args.r c.requires.1.known c.args.need.now c.if-r-eq-STORE.true

pub bounds-need-t : goal.bounds-need-t
bounds-need-t c = c.requires.1.targets_in.row_in (writes-row c.args.r c.requires.1.known c.if-r-eq-STORE.false)

pub bounds-need-a : goal.bounds-need-a
bounds-need-a c =
    let f = first_in c.args.r c.requires.1 in
    let l = length-set c.args.need.now c.args.r.t 0 in
    omega arith

pub mark_span-requires : goal.mark_span-requires
mark_span-requires c =
    ((set-bytes (set c.args.need.now c.args.r.t 0) _ 1 (omega arith) (set-bytes c.args.need.now _ 0 (omega arith) c.requires.0)), still-in (length-set (set c.args.need.now c.args.r.t 0) c.args.r.a 1 ∙ length-set c.args.need.now c.args.r.t 0) (second_in c.args.r c.requires.1 _ c.second_rows.ensures))

pub sixth_rows-requires : goal.sixth_rows-requires
sixth_rows-requires c =
    (c.requires.1.known, writes-row c.args.r c.requires.1.known c.if-r-eq-STORE.false)

pub mark_span-requires-2 : goal.mark_span-requires-2
mark_span-requires-2 c = (
  span-bytes (set (set c.args.need.now c.args.r.t 0) c.args.r.a 1) _ _ _ c.mark_span.ensures (set-bytes (set c.args.need.now c.args.r.t 0) _ 1 (omega arith) (set-bytes c.args.need.now _ 0 (omega arith) c.requires.0)),
  still-in (span-length (set (set c.args.need.now c.args.r.t 0) c.args.r.a 1) _ _ _ c.mark_span.ensures ∙ (length-set (set c.args.need.now c.args.r.t 0) c.args.r.a 1 ∙ length-set c.args.need.now c.args.r.t 0)) (sixth_in c.args.r c.requires.1 _ c.sixth_rows.ensures),
)

pub returns : goal.returns
returns c =
    row-marked c.args.r c.requires.1.known c.args.need.now c.if-r-eq-STORE.false _ _
    c.second_rows.ensures c.sixth_rows.ensures _ _ c.mark_span.ensures c.mark_span-2.ensures
