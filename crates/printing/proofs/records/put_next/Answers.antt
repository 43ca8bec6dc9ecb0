-- `printing::records::put_next`: the tab, then the number. Assumes nothing.
use mathlib.Core.Path.{ap}
use mathlib.Core.List.{List, [], ◌∷◌, ◌++◌, append-nil}
use Prim.Native.Nat.{ℕ}
use Rattle.grammar.specs.Words.{tab}
use Rattle.grammar.specs.Print.{decimal}
use Rattle.printing.proofs.Puts.{begin, step, done}
use Rattle.printing.proofs.records.put_next.Goals as goal

pub returns : goal.returns
returns c =
    let n = decimal c.args.n in
    done (step [] (step (n ++ []) (begin c.args.out.now c.args.at (tab ∷ n) (tab ∷ (n ++ [])) (ap {B = List ℕ} (λ (x : List ℕ). tab ∷ x) (append-nil n))) c.put_byte-a.ensures) c.put_number.ensures)
