-- `letters::is_unknown`: the letters for X, by the edition. Assumes nothing.
use Rattle.letters.proofs.Among.{in-edition}
use Rattle.letters.proofs.is_unknown.Goals as goal

pub returns-in-First : goal.returns-in-First
returns-in-First c =
    let a = c.args in in-edition (λ l. l.unknowns) a.b a.e _ c.is_among.result c.in-First.is c.is_among.ensures

pub returns-in-Second : goal.returns-in-Second
returns-in-Second c =
    let a = c.args in in-edition (λ l. l.unknowns) a.b a.e _ c.is_among-in-Second.result c.in-Second.is c.is_among-in-Second.ensures

pub returns-in-Third : goal.returns-in-Third
returns-in-Third c =
    let a = c.args in in-edition (λ l. l.unknowns) a.b a.e _ c.is_among-in-Third.result c.in-Third.is c.is_among-in-Third.ensures
