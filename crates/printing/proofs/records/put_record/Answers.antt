-- `printing::records::put_record`: the parts of the line, one after another. Assumes nothing.
use mathlib.Core.List.{[], ◌∷◌, ◌++◌}
use Rattle.operations.specs.Kinds.{kind_of}
use Rattle.grammar.specs.Words.{lf, tab}
use Rattle.grammar.specs.Print.{decimal}
use Rattle.printing.proofs.Puts.{step, room, done}
use Rattle.printing.proofs.PutLines.{after_b, after_t, after_name, after_op, record-begin}
use Rattle.printing.proofs.records.put_record.Goals as goal

pub put_word-x-requires : goal.put_word-x-requires
put_word-x-requires c =
    let r = c.args.r in
    let w₀ = record-begin r c.args.out.now c.args.at in
    room (111 ∷ 112 ∷ tab ∷ []) (after_op r) c.requires.1 w₀

pub put_name-y-requires : goal.put_name-y-requires
put_name-y-requires c =
    let r = c.args.r in
    let w₀ = record-begin r c.args.out.now c.args.at in
    let w₁ = step (after_op r) w₀ c.put_word-x.ensures in
    (c.requires.0, room (kind_of r.kind).name (after_name r) c.requires.1 w₁)

pub put_next-z-requires : goal.put_next-z-requires
put_next-z-requires c =
    let r = c.args.r in
    let w₀ = record-begin r c.args.out.now c.args.at in
    let w₁ = step (after_op r) w₀ c.put_word-x.ensures in
    let w₂ = step (after_name r) w₁ c.put_name-y.ensures in
    room (tab ∷ decimal r.t) (after_t r) c.requires.1 w₂

pub put_two-u-requires : goal.put_two-u-requires
put_two-u-requires c =
    let r = c.args.r in
    let w₀ = record-begin r c.args.out.now c.args.at in
    let w₁ = step (after_op r) w₀ c.put_word-x.ensures in
    let w₂ = step (after_name r) w₁ c.put_name-y.ensures in
    let w₃ = step (after_t r) w₂ c.put_next-z.ensures in
    room (tab ∷ decimal r.a ++ tab ∷ decimal r.b) (after_b r) c.requires.1 w₃

pub put_two-v-requires : goal.put_two-v-requires
put_two-v-requires c =
    let r = c.args.r in
    let w₀ = record-begin r c.args.out.now c.args.at in
    let w₁ = step (after_op r) w₀ c.put_word-x.ensures in
    let w₂ = step (after_name r) w₁ c.put_name-y.ensures in
    let w₃ = step (after_t r) w₂ c.put_next-z.ensures in
    let w₄ = step (after_b r) w₃ c.put_two-u.ensures in
    room (tab ∷ decimal r.p ++ tab ∷ decimal r.c) (lf ∷ []) c.requires.1 w₄

pub put_byte-requires : goal.put_byte-requires
put_byte-requires c =
    let r = c.args.r in
    let w₀ = record-begin r c.args.out.now c.args.at in
    let w₁ = step (after_op r) w₀ c.put_word-x.ensures in
    let w₂ = step (after_name r) w₁ c.put_name-y.ensures in
    let w₃ = step (after_t r) w₂ c.put_next-z.ensures in
    let w₄ = step (after_b r) w₃ c.put_two-u.ensures in
    let w₅ = step (lf ∷ []) w₄ c.put_two-v.ensures in
    room (lf ∷ []) ([]) c.requires.1 w₅

pub returns : goal.returns
returns c =
    let r = c.args.r in
    let w₀ = record-begin r c.args.out.now c.args.at in
    let w₁ = step (after_op r) w₀ c.put_word-x.ensures in
    let w₂ = step (after_name r) w₁ c.put_name-y.ensures in
    let w₃ = step (after_t r) w₂ c.put_next-z.ensures in
    let w₄ = step (after_b r) w₃ c.put_two-u.ensures in
    let w₅ = step (lf ∷ []) w₄ c.put_two-v.ensures in
    let w₆ = step ([]) w₅ c.put_byte.ensures in
    done w₆
