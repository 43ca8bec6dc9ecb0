-- `pruning::passes::keep_back` meets its contract. The invariant: the records from i on have been visited, and those of them that stay stand at the end. Assumes nothing.
use mathlib.Core.Path.{◌≡◌, sym, ◌∙◌, subst}
use mathlib.Core.List.{List}
use Prim.Native.Nat.{ℕ, suc, ◌+◌, ◌-◌, ◌*◌, ◌≤◌, ◌<◌}
use native.Mathlib.Omega.{arith}
use lib.ListN.{length}
use Rattle.needs.specs.Needs.{stays}
use Rattle.pruning.proofs.BackTurns.{Back, back_start, in_words, rows_in, back-goes, back-stays, back_end}
use Rattle.pruning.proofs.passes.keep_back.Goals as goal

-- the record that is visited
turn : {words₀ need₀ words need : List ℕ} {i first : ℕ} → 0 < i → Back words₀ need₀ words need i first → Back words₀ need₀ words need (suc (i - 1)) first
turn {words₀} {need₀} {words} {need} {i} {first} h B =
    let e : i ≡ suc (i - 1) = omega arith in
    subst (λ (n : ℕ). Back words₀ need₀ words need n first) e B

-- a place is left for it
room : {words₀ need₀ words need : List ℕ} {i first : ℕ} → 0 < i → Back words₀ need₀ words need i first → (1 ≤ first) × (6 * (first - 1) + 6 ≤ length words)
room h B =
    let o = B.ordered in
    let n = B.counted in
    let w = B.words_length in
    (omega arith, omega arith)

pub loop-i-init : goal.loop-i-init
loop-i-init c = back_start c.args.words.now c.args.need.now c.requires.0 c.requires.1

pub record_at-r-requires : goal.record_at-r-requires
record_at-r-requires c =
    let l = c.loop-i in
    in_words c.args.words.now c.args.need.now c.requires.0 c.requires.1 l.words l.need (l.i - 1) l.first (turn c.loop-i-test.true l.invariant)

pub target_marked-requires : goal.target_marked-requires
target_marked-requires c =
    let l = c.loop-i in
    let R = rows_in c.args.words.now c.args.need.now c.requires.0 c.requires.1 l.words l.need (l.i - 1) l.first (turn c.loop-i-test.true l.invariant) c.record_at-r.result c.record_at-r.ensures in
    (R.known, R.targets_in)

pub need_before-requires : goal.need_before-requires
need_before-requires c =
    let l = c.loop-i in
    (l.invariant.bytes, rows_in c.args.words.now c.args.need.now c.requires.0 c.requires.1 l.words l.need (l.i - 1) l.first (turn c.loop-i-test.true l.invariant) c.record_at-r.result c.record_at-r.ensures)

pub overflow_sub-first : goal.overflow_sub-first
overflow_sub-first c = (room c.loop-i-test.true c.loop-i.invariant).0

pub put_record-requires : goal.put_record-requires
put_record-requires c = (room c.loop-i-test.true c.loop-i.invariant).1

pub loop-i-preserved-then-target_marked : goal.loop-i-preserved-then-target_marked
unfolding stays
loop-i-preserved-then-target_marked c =
    let l = c.loop-i in
    let e : l.first ≡ suc (l.first - 1) = let g = (room c.loop-i-test.true l.invariant).0 in omega arith in
    back-stays c.args.words.now c.args.need.now c.requires.0 c.requires.1 l.words l.need (l.i - 1) l.first (turn c.loop-i-test.true l.invariant) c.record_at-r.result c.record_at-r.ensures (l.first - 1) e
    (sym c.target_marked.ensures ∙ c.if-target_marked.true) _ _ c.put_record.ensures c.need_before.ensures

pub loop-i-preserved : goal.loop-i-preserved
unfolding stays
loop-i-preserved c =
    let l = c.loop-i in
    back-goes c.args.words.now c.args.need.now c.requires.0 c.requires.1 l.words l.need (l.i - 1) l.first (turn c.loop-i-test.true l.invariant) c.record_at-r.result c.record_at-r.ensures
    (sym c.target_marked.ensures ∙ c.if-target_marked.false)

pub returns : goal.returns
returns c =
    let l = c.loop-i in
    let e : l.i ≡ 0 = let h = c.loop-i-test.false in omega arith in
    back_end c.args.words.now c.args.need.now c.requires.0 c.requires.1 l.words l.need l.first
    (subst (λ (n : ℕ). Back c.args.words.now c.args.need.now l.words l.need n l.first) e l.invariant)
