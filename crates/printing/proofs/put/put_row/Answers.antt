-- `printing::put::put_row`: the parts of the line, one after another. Assumes nothing.
use mathlib.Core.List.{[], ◌∷◌}
use Rattle.grammar.specs.Words.{lf, tab, lock_word}
use Rattle.grammar.specs.Print.{letters_of}
use Rattle.printing.proofs.Puts.{step, room, done}
use Rattle.printing.proofs.PutLines.{after_tab, after_word, row-begin}
use Rattle.printing.proofs.put.put_row.Goals as goal

pub put_word-a-requires : goal.put_word-a-requires
put_word-a-requires c =
    let lock = c.args.lock in
    let w = c.args.w in
    let m = c.args.m in
    let v = c.args.v in
    let w₀ = row-begin lock w m v c.args.out.now c.args.at in
    room (114 ∷ 111 ∷ 119 ∷ tab ∷ []) (after_word lock w m v) c.requires.1 w₀

pub put_lock-b-requires : goal.put_lock-b-requires
put_lock-b-requires c =
    let lock = c.args.lock in
    let w = c.args.w in
    let m = c.args.m in
    let v = c.args.v in
    let w₀ = row-begin lock w m v c.args.out.now c.args.at in
    let w₁ = step (after_word lock w m v) w₀ c.put_word-a.ensures in
    room (lock_word lock) (tab ∷ after_tab lock w m v) c.requires.1 w₁

pub put_byte-c-requires : goal.put_byte-c-requires
put_byte-c-requires c =
    let lock = c.args.lock in
    let w = c.args.w in
    let m = c.args.m in
    let v = c.args.v in
    let w₀ = row-begin lock w m v c.args.out.now c.args.at in
    let w₁ = step (after_word lock w m v) w₀ c.put_word-a.ensures in
    let w₂ = step (tab ∷ after_tab lock w m v) w₁ c.put_lock-b.ensures in
    room (tab ∷ []) (after_tab lock w m v) c.requires.1 w₂

pub put_letters-d-requires : goal.put_letters-d-requires
put_letters-d-requires c =
    let lock = c.args.lock in
    let w = c.args.w in
    let m = c.args.m in
    let v = c.args.v in
    let w₀ = row-begin lock w m v c.args.out.now c.args.at in
    let w₁ = step (after_word lock w m v) w₀ c.put_word-a.ensures in
    let w₂ = step (tab ∷ after_tab lock w m v) w₁ c.put_lock-b.ensures in
    let w₃ = step (after_tab lock w m v) w₂ c.put_byte-c.ensures in
    (c.requires.0, room (letters_of w m v) (lf ∷ []) c.requires.1 w₃)

pub put_byte-requires : goal.put_byte-requires
put_byte-requires c =
    let lock = c.args.lock in
    let w = c.args.w in
    let m = c.args.m in
    let v = c.args.v in
    let w₀ = row-begin lock w m v c.args.out.now c.args.at in
    let w₁ = step (after_word lock w m v) w₀ c.put_word-a.ensures in
    let w₂ = step (tab ∷ after_tab lock w m v) w₁ c.put_lock-b.ensures in
    let w₃ = step (after_tab lock w m v) w₂ c.put_byte-c.ensures in
    let w₄ = step (lf ∷ []) w₃ c.put_letters-d.ensures in
    room (lf ∷ []) [] c.requires.1 w₄

pub returns : goal.returns
returns c =
    let lock = c.args.lock in
    let w = c.args.w in
    let m = c.args.m in
    let v = c.args.v in
    let w₀ = row-begin lock w m v c.args.out.now c.args.at in
    let w₁ = step (after_word lock w m v) w₀ c.put_word-a.ensures in
    let w₂ = step (tab ∷ after_tab lock w m v) w₁ c.put_lock-b.ensures in
    let w₃ = step (after_tab lock w m v) w₂ c.put_byte-c.ensures in
    let w₄ = step (lf ∷ []) w₃ c.put_letters-d.ensures in
    let w₅ = step ([]) w₄ c.put_byte.ensures in
    done w₅
