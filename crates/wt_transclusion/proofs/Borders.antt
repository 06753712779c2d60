-- Where a text may be cut near its start: after its first character at the latest.
use Rattle.std.proofs.Common.{◌≡◌, ℕ, ◌<◌, ◌≤◌, List, [], ◌∷◌, length, IsUtf8, sym, ap, arith}
use Rattle.std.specs.Str.{IsCharBoundary}
use Rattle.std.proofs.lemmas.Str.{IsCharBoundary-at_seam, IsUtf8-past_char, length-encode, len_utf8_bounds}
use lib.Utf8.{encode, encodes}

-- a border after the start, and no more than four bytes from it
pub record FirstBorder (bs : List ℕ) : Type 0 where
  pub place : ℕ
  pub behind : 0 < place
  pub near : place ≤ 4
  pub border : IsCharBoundary bs place

by_characters : (cs bs : List ℕ) → IsUtf8 bs → encodes cs ≡ bs → 0 < length bs → FirstBorder bs
by_characters [] bs u e l = let none : length bs ≡ 0 = ap length (sym e) in absurd (omega (arith, l, none))
by_characters (c ∷ cs) bs u e l =
    let wide = len_utf8_bounds c in
    let len = length-encode c in
    record {
      place = length (encode c);
      behind = omega (arith, wide, len);
      near = omega (arith, wide, len);
      border = IsCharBoundary-at_seam bs (encode c) (encodes cs) (sym e) (IsUtf8-past_char bs (encodes cs) c u (sym e));
    }

pub first_border : (bs : List ℕ) → IsUtf8 bs → 0 < length bs → FirstBorder bs
first_border bs u l = by_characters u.0 bs u u.1.1 l
