-- `evaluation::put_refusal` meets its contract: the line's parts, one after another. Assumes nothing.
use mathlib.Core.List.{[], ◌++◌}
use native.Mathlib.Omega.{arith}
use Rattle.grammar.specs.Print.{decimal}
use Rattle.printing.proofs.Puts.{begin, step, room, done}
use Rattle.evaluation.specs.Evaluate.{refused_line}
use Rattle.evaluation.proofs.Lines.{first_part, tab_part, end_part, line-parts, line-fits, printed-of-put}
use Rattle.evaluation.proofs.put_refusal.Goals as goal

pub put_number-after_number-requires : goal.put_number-after_number-requires
put_number-after_number-requires c =
    let a = c.args in
    let o = a.out.now in
    let whole = refused_line a.number a.place in
    let h = line-fits o a.number a.place (omega arith) (omega arith) c.requires in
    let w0 = begin o 0 whole (first_part ++ (decimal a.number ++ (tab_part ++ (decimal a.place ++ (end_part ++ []))))) (line-parts a.number a.place) in
    let w1 = step (decimal a.number ++ (tab_part ++ (decimal a.place ++ (end_part ++ [])))) w0 c.put_word-after_word.ensures in
    room (decimal a.number) (tab_part ++ (decimal a.place ++ (end_part ++ []))) h w1

pub put_word-after_tab-requires : goal.put_word-after_tab-requires
put_word-after_tab-requires c =
    let a = c.args in
    let o = a.out.now in
    let whole = refused_line a.number a.place in
    let h = line-fits o a.number a.place (omega arith) (omega arith) c.requires in
    let w0 = begin o 0 whole (first_part ++ (decimal a.number ++ (tab_part ++ (decimal a.place ++ (end_part ++ []))))) (line-parts a.number a.place) in
    let w1 = step (decimal a.number ++ (tab_part ++ (decimal a.place ++ (end_part ++ [])))) w0 c.put_word-after_word.ensures in
    let w2 = step (tab_part ++ (decimal a.place ++ (end_part ++ []))) w1 c.put_number-after_number.ensures in
    room tab_part (decimal a.place ++ (end_part ++ [])) h w2

pub put_number-after_place-requires : goal.put_number-after_place-requires
put_number-after_place-requires c =
    let a = c.args in
    let o = a.out.now in
    let whole = refused_line a.number a.place in
    let h = line-fits o a.number a.place (omega arith) (omega arith) c.requires in
    let w0 = begin o 0 whole (first_part ++ (decimal a.number ++ (tab_part ++ (decimal a.place ++ (end_part ++ []))))) (line-parts a.number a.place) in
    let w1 = step (decimal a.number ++ (tab_part ++ (decimal a.place ++ (end_part ++ [])))) w0 c.put_word-after_word.ensures in
    let w2 = step (tab_part ++ (decimal a.place ++ (end_part ++ []))) w1 c.put_number-after_number.ensures in
    let w3 = step (decimal a.place ++ (end_part ++ [])) w2 c.put_word-after_tab.ensures in
    room (decimal a.place) (end_part ++ []) h w3

pub put_word-requires : goal.put_word-requires
put_word-requires c =
    let a = c.args in
    let o = a.out.now in
    let whole = refused_line a.number a.place in
    let h = line-fits o a.number a.place (omega arith) (omega arith) c.requires in
    let w0 = begin o 0 whole (first_part ++ (decimal a.number ++ (tab_part ++ (decimal a.place ++ (end_part ++ []))))) (line-parts a.number a.place) in
    let w1 = step (decimal a.number ++ (tab_part ++ (decimal a.place ++ (end_part ++ [])))) w0 c.put_word-after_word.ensures in
    let w2 = step (tab_part ++ (decimal a.place ++ (end_part ++ []))) w1 c.put_number-after_number.ensures in
    let w3 = step (decimal a.place ++ (end_part ++ [])) w2 c.put_word-after_tab.ensures in
    let w4 = step (end_part ++ []) w3 c.put_number-after_place.ensures in
    room end_part [] h w4

pub returns : goal.returns
returns c =
    let a = c.args in
    let o = a.out.now in
    let whole = refused_line a.number a.place in
    let h = line-fits o a.number a.place (omega arith) (omega arith) c.requires in
    let w0 = begin o 0 whole (first_part ++ (decimal a.number ++ (tab_part ++ (decimal a.place ++ (end_part ++ []))))) (line-parts a.number a.place) in
    let w1 = step (decimal a.number ++ (tab_part ++ (decimal a.place ++ (end_part ++ [])))) w0 c.put_word-after_word.ensures in
    let w2 = step (tab_part ++ (decimal a.place ++ (end_part ++ []))) w1 c.put_number-after_number.ensures in
    let w3 = step (decimal a.place ++ (end_part ++ [])) w2 c.put_word-after_tab.ensures in
    let w4 = step (end_part ++ []) w3 c.put_number-after_place.ensures in
    let w5 = step [] w4 c.put_word.ensures in
    printed-of-put h (done w5)
