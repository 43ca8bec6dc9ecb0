-- `printing::records::put_two`: one number, then the other. Assumes nothing.
use mathlib.Core.Path.{ap}
use mathlib.Core.List.{List, [], ◌∷◌, ◌++◌, append-nil}
use Prim.Native.Nat.{ℕ}
use Rattle.grammar.specs.Words.{tab}
use Rattle.grammar.specs.Print.{decimal}
use Rattle.printing.proofs.Puts.{Writing, begin, step, room, done}
use Rattle.printing.proofs.records.put_two.Goals as goal

-- both still to be put
starting : (old : List ℕ) (at m n : ℕ) → Writing old at (tab ∷ decimal m ++ tab ∷ decimal n) old at ((tab ∷ decimal m) ++ ((tab ∷ decimal n) ++ []))
starting old at m n =
    begin old at (tab ∷ decimal m ++ tab ∷ decimal n) ((tab ∷ decimal m) ++ ((tab ∷ decimal n) ++ [])) (ap (λ (x : List ℕ). (tab ∷ decimal m) ++ x) (append-nil (tab ∷ decimal n)))

pub put_next-a-requires : goal.put_next-a-requires
put_next-a-requires c =
    room (tab ∷ decimal c.args.m) ((tab ∷ decimal c.args.n) ++ []) c.requires (starting c.args.out.now c.args.at c.args.m c.args.n)

pub put_next-requires : goal.put_next-requires
put_next-requires c =
    room (tab ∷ decimal c.args.n) [] c.requires (step ((tab ∷ decimal c.args.n) ++ []) (starting c.args.out.now c.args.at c.args.m c.args.n) c.put_next-a.ensures)

pub returns : goal.returns
returns c =
    let w = step ((tab ∷ decimal c.args.n) ++ []) (starting c.args.out.now c.args.at c.args.m c.args.n) c.put_next-a.ensures in
    done (step [] w c.put_next.ensures)
