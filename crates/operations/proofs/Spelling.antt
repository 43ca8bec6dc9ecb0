-- The code's table of names computes from the list of kinds: eight bytes to a name. Assumes nothing.
use mathlib.Core.Path.{◌≡◌}
use mathlib.Core.Bool.{Bool, ◌&&◌}
use mathlib.Core.List.{List, [], ◌∷◌, ◌++◌}
use Prim.Native.Nat.{ℕ, ◌+◌, ◌*◌, ◌≤◌, ◌<◌}
use lib.Dec.{T, leb, eqb, eqb→eq, leb→le}
use lib.ListN.{length, get_or, take}
use Rattle.bits.specs.Below.{all_below}
use Rattle.bits.proofs.Below.{all_below-elim}
use Rattle.bits.proofs.Bools.{T-left, T-right}
use Rattle.operations.specs.Kind.{Kind}
use Rattle.operations.specs.Kinds.{kinds, kind_count, is_kind, kind_of}
use Rattle.operations.proofs.Lookup.{kind-test}

-- eight bytes to a name, filled with spaces
abbrev pub spelled : List Kind → List ℕ
spelled [] = []
spelled (k ∷ ks) = take 8 (k.name ++ 32 ∷ 32 ∷ 32 ∷ 32 ∷ 32 ∷ 32 ∷ 32 ∷ 32 ∷ []) ++ spelled ks

byte-right : ℕ → ℕ → Bool
byte-right k i = eqb (get_or (spelled kinds) (k * 8 + i) 0) (get_or (kind_of k).name i 0)

right : ℕ → Bool
right k = leb (length (kind_of k).name) 8 && all_below (length (kind_of k).name) (byte-right k)

all_right : T (all_below kind_count right)
unfolding byte-right right all_below kind_count kind_of
all_right = tt

module _ (k : ℕ) (h : T (is_kind k)) where
  whole : T (leb (length (kind_of k).name) 8 && all_below (length (kind_of k).name) (byte-right k))
  unfolding right
  whole = kind-test right all_right k h

  pub name-short : length (kind_of k).name ≤ 8
  name-short = leb→le (length (kind_of k).name) 8 (T-left (leb (length (kind_of k).name) 8) (all_below (length (kind_of k).name) (byte-right k)) whole)

  pub name-byte-is : (i : ℕ) → i < length (kind_of k).name → get_or (spelled kinds) (k * 8 + i) 0 ≡ get_or (kind_of k).name i 0
  unfolding byte-right
  name-byte-is i l =
      eqb→eq (get_or (spelled kinds) (k * 8 + i) 0) (get_or (kind_of k).name i 0)
      (all_below-elim (length (kind_of k).name) (byte-right k) (T-right (leb (length (kind_of k).name) 8) (all_below (length (kind_of k).name) (byte-right k)) whole) i l)
