-- Where a field found begins and ends. Assumes nothing.
use mathlib.Core.Path.{◌≡◌, ap, ◌∙◌}
use mathlib.Core.List.{List}
use Prim.Native.Nat.{ℕ, ◌+◌, ◌-◌, ◌≤◌}
use native.Mathlib.Omega.{arith}
use lib.ListN.{length, drop, length-drop}
use lib.Seq.{length-take-le}
use Rattle.grammar.specs.Words.{lf, tab}
use Rattle.grammar.specs.Cut.{Ends, between, part_ends, within, field_ends, Part, field_of}
use Rattle.grammar.proofs.Parts.{part-within}
use Rattle.rifflerleek.specs.Host.{host_result, ends_answer}

between-length : (bs : List ℕ) (e : Ends) → e.start ≤ e.end → e.end ≤ length bs → length (between bs e) ≡ e.end - e.start
between-length bs e h k = length-take-le (e.end - e.start) (drop e.start bs) (omega (arith, length-drop e.start bs))

-- a part of a part, both by their ends
module _ (text : List ℕ) (l f : Ends) (hl : l.start ≤ l.end) (hb : l.end ≤ length text) (hf : f.start ≤ f.end) (hi : f.end ≤ length (between text l)) where
  within_end : (within l f).end ≤ length text
  within_end = omega (arith, between-length text l hl hb)

  within-ends : (n : ℕ) → n ≡ length (between text (within l f)) → l.start + f.start + n ≡ (within l f).end
  within-ends n e = omega (arith, e, between-length text (within l f) (omega arith) within_end)

-- the line's bytes are l, the line and the field in it begin at s and t, and the field's bytes are found
module _ (text : List ℕ) (line field : ℕ) (l found : List ℕ) (s t : ℕ)
    (hl : l ≡ between text (part_ends lf line text)) (hs : s ≡ (part_ends lf line text).start)
    (ht : t ≡ (part_ends tab field l).start) (hf : found ≡ between text (field_ends text line field)) where
  abbrev line_ends : Ends
  line_ends = part_ends lf line text

  abbrev in_line : Ends
  in_line = part_ends tab field (between text line_ends)

  inner : t ≡ in_line.start
  inner = ht ∙ ap (λ (x : List ℕ). (part_ends tab field x).start) hl

  abbrev whole : Ends
  whole = within line_ends in_line

  end_is : s + t + length found ≡ whole.end
  unfolding field_ends
  end_is =
      let k = within-ends text line_ends in_line (part-within lf line text).0 (part-within lf line text).1 (part-within tab field (between text line_ends)).0
      (part-within tab field (between text line_ends)).1 (length found) (ap length hf) in
      omega (arith, k, hs, inner)

  pub end-inside : s + t + length found ≤ length text
  end-inside =
      let k = within_end text line_ends in_line (part-within lf line text).0 (part-within lf line text).1 (part-within tab field (between text line_ends)).0
      (part-within tab field (between text line_ends)).1 in
      omega (arith, k, end_is)

  pub ends_found : host_result (s + t) (s + t + length found) ≡ ends_answer (field_ends text line field)
  unfolding field_ends
  ends_found = let b : s + t ≡ whole.start = omega (arith, hs, inner) in λ ι. host_result (b ι) (end_is ι)

pub bytes-found : (text part : Part) (line field : ℕ) → part ≡ field_of text line field → part.bytes ≡ between text.bytes (field_ends text.bytes line field)
unfolding field_of
bytes-found text part line field e = ap (λ (p : Part). p.bytes) e
