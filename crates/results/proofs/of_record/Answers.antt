-- `results::of_record` meets its contract: the dispatch, or the entry of the table where one row is named twice. Assumes nothing.
use Rattle.std.proofs.Common.{◌≡◌, ℕ, Bool, true, T, [], ◌∷◌, Result, Ok, sym, ◌∙◌, subst}
use Rattle.std.proofs.lemmas.Result.{MatchResult-at_ok}
use lib.Dec.{eqb}
use Rattle.bits.proofs.Bools.{T-left}
use Rattle.vectors.specs.Row.{Row}
use Rattle.operations.specs.declared.Record.{Record}
use Rattle.operations.specs.declared.kind.Kind.{Kind as KindCase}
use Rattle.operations.specs.declared.kind.UnknownKind.{UnknownKind}
use Rattle.operations.specs.Kinds.{kind_of}
use Rattle.operations.specs.KindNumbers.{kind_number, Names}
use Rattle.operations.specs.Record.{words_of, operands, named_twice}
use Rattle.operations.specs.Result.{result_of, result_once, Ready}
use Rattle.kernels.proofs.Dispatch.{described, Given, given}
use Rattle.results.proofs.DoubledArms.{due-and, due-or, concat-ready, due-concat, shift-ready, due-add, due-eq, due-ite, due-zeros}
use Rattle.results.proofs.of_record.Goals as goal

-- the kind that a number names has that number
number-is : (n : ℕ) {x : Result KindCase UnknownKind} {k : KindCase} → Names n x → x ≡ Ok k → kind_number k ≡ n
number-is n {x} {k} h e = (MatchResult-at_ok _ _ k e h).1

-- what the record is given, its kind by name
abbrev named : (n : ℕ) (k : KindCase) → kind_number k ≡ n → {wt p : ℕ} (ra rb rc : Row) → Ready (kind_of n) wt p (operands (kind_of n) ra rb (rc ∷ [])) → Given
named n k e {wt} {p} ra rb rc ready = given k ra rb rc (subst (λ (m : ℕ). Ready (kind_of m) wt p (operands (kind_of m) ra rb (rc ∷ []))) (sym e) ready)

-- the result that the contract asks for, where it is known whether one row is named twice
asked : (g : Given) {n : ℕ} → kind_number g.kind ≡ n → {b t : Bool} → t ≡ b → {x : Row}
    → x ≡ result_once b (described g.kind) g.wt g.p (operands (described g.kind) g.ra g.rb (g.rc ∷ []))
    → x ≡ result_once t (kind_of n) g.wt g.p (operands (kind_of n) g.ra g.rb (g.rc ∷ []))
asked g e s f = let t = sym s in f ∙ (λ ι. result_once (t ι) (kind_of (e ι)) g.wt g.p (operands (kind_of (e ι)) g.ra g.rb (g.rc ∷ [])))

is-correlated : (r : Record) (k : KindCase) → kind_number k ≡ r.kind → named_twice (words_of r) ≡ true → T (described k).correlated
unfolding named_twice
is-correlated r k e t = subst (λ (n : ℕ). T (kind_of n).correlated) (sym e) (T-left (kind_of r.kind).correlated (eqb r.a r.b) (subst T (sym t) tt))

pub returns-then-not-named_twice : goal.returns-then-not-named_twice
unfolding result_of result_once named_twice
returns-then-not-named_twice c =
    let e = number-is c.args.r.kind c.try_from.ensures c.unwrap-kind.ensures in
    let g = named _ _ e _ _ _ c.requires.fact.4 in
    asked g e (sym c.named_twice.ensures ∙ c.if-not-named_twice.true) c.apply.ensures

pub concat-requires : goal.concat-requires
unfolding named_twice
concat-requires c =
    let e = number-is c.args.r.kind c.try_from.ensures c.unwrap-kind.ensures in
    let g = named _ _ e _ _ _ c.requires.fact.4 in
    let twice : named_twice (words_of c.args.r) ≡ true = sym c.named_twice.ensures ∙ c.if-not-named_twice.false in
    let same = c.requires.va_value (subst T (sym twice) tt) in
    (c.requires.fact.2, concat-ready g same c.in-Concat.is)

pub shl-requires : goal.shl-requires
unfolding named_twice
shl-requires c =
    let e = number-is c.args.r.kind c.try_from.ensures c.unwrap-kind.ensures in
    let g = named _ _ e _ _ _ c.requires.fact.4 in
    let twice : named_twice (words_of c.args.r) ≡ true = sym c.named_twice.ensures ∙ c.if-not-named_twice.false in
    let same = c.requires.va_value (subst T (sym twice) tt) in
    (c.requires.fact.2, shift-ready g same _ tt c.in-Add.is)

pub returns-in-And : goal.returns-in-And
unfolding named_twice
returns-in-And c =
    let e = number-is c.args.r.kind c.try_from.ensures c.unwrap-kind.ensures in
    let g = named _ _ e _ _ _ c.requires.fact.4 in
    let twice : named_twice (words_of c.args.r) ≡ true = sym c.named_twice.ensures ∙ c.if-not-named_twice.false in
    let same = c.requires.va_value (subst T (sym twice) tt) in
    asked g e twice (due-and g same c.in-And.is)

pub returns-in-Or : goal.returns-in-Or
unfolding named_twice
returns-in-Or c =
    let e = number-is c.args.r.kind c.try_from.ensures c.unwrap-kind.ensures in
    let g = named _ _ e _ _ _ c.requires.fact.4 in
    let twice : named_twice (words_of c.args.r) ≡ true = sym c.named_twice.ensures ∙ c.if-not-named_twice.false in
    let same = c.requires.va_value (subst T (sym twice) tt) in
    asked g e twice (due-or g same c.in-Or.is)

pub returns-in-Concat : goal.returns-in-Concat
unfolding named_twice
returns-in-Concat c =
    let e = number-is c.args.r.kind c.try_from.ensures c.unwrap-kind.ensures in
    let g = named _ _ e _ _ _ c.requires.fact.4 in
    let twice : named_twice (words_of c.args.r) ≡ true = sym c.named_twice.ensures ∙ c.if-not-named_twice.false in
    let same = c.requires.va_value (subst T (sym twice) tt) in
    asked g e twice (c.concat.ensures ∙ due-concat g same c.in-Concat.is)

pub returns-in-Add : goal.returns-in-Add
unfolding named_twice
returns-in-Add c =
    let e = number-is c.args.r.kind c.try_from.ensures c.unwrap-kind.ensures in
    let g = named _ _ e _ _ _ c.requires.fact.4 in
    let twice : named_twice (words_of c.args.r) ≡ true = sym c.named_twice.ensures ∙ c.if-not-named_twice.false in
    let same = c.requires.va_value (subst T (sym twice) tt) in
    asked g e twice (c.shl.ensures ∙ due-add g same c.in-Add.is)

pub returns-in-Eq : goal.returns-in-Eq
unfolding named_twice
returns-in-Eq c =
    let e = number-is c.args.r.kind c.try_from.ensures c.unwrap-kind.ensures in
    let g = named _ _ e _ _ _ c.requires.fact.4 in
    let twice : named_twice (words_of c.args.r) ≡ true = sym c.named_twice.ensures ∙ c.if-not-named_twice.false in
    let same = c.requires.va_value (subst T (sym twice) tt) in
    asked g e twice (due-eq g same c.in-Eq.is)

pub returns-in-Ite : goal.returns-in-Ite
unfolding named_twice
returns-in-Ite c =
    let e = number-is c.args.r.kind c.try_from.ensures c.unwrap-kind.ensures in
    let g = named _ _ e _ _ _ c.requires.fact.4 in
    let twice : named_twice (words_of c.args.r) ≡ true = sym c.named_twice.ensures ∙ c.if-not-named_twice.false in
    let same = c.requires.va_value (subst T (sym twice) tt) in
    asked g e twice (due-ite g same c.in-Ite.is)

pub returns-in_default : goal.returns-in_default
unfolding named_twice
returns-in_default c =
    let e = number-is c.args.r.kind c.try_from.ensures c.unwrap-kind.ensures in
    let g = named _ _ e _ _ _ c.requires.fact.4 in
    let twice : named_twice (words_of c.args.r) ≡ true = sym c.named_twice.ensures ∙ c.if-not-named_twice.false in
    let same = c.requires.va_value (subst T (sym twice) tt) in
    let d = c.in_default in
    asked g e twice (due-zeros g same (is-correlated c.args.r _ e twice) d.not-And d.not-Or d.not-Concat d.not-Add d.not-Eq d.not-Ite)
