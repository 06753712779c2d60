-- A tag is the same whatever is read behind it.
use Rattle.std.proofs.Common.{arith, ◌≡◌, ℕ, ◌+◌, ◌-◌, ◌<◌, ◌≤◌, ◌==◌, Bool, true, false, Option, Some, None, List, [], ◌∷◌, ◌++◌, length, take, drop, refl, sym, ap, ap₂, ◌∙◌, subst, nat_lt}
use Rattle.std.specs.Prelude.{◌&&◌, codes, if◌then◌else◌}
use Rattle.std.specs.Option.{option_or}
use Rattle.std.proofs.lemmas.Bool.Decides.{Decides-eqb}
use Rattle.std.proofs.lemmas.List.{drop-append-le, take-append-le, length-drop}
use Rattle.wt_tiles.specs.declared.glyph.Glyph.{Glyph}
use Rattle.wt_tiles.specs.declared.glyph.Glyph.TheVariants as glyph
use Rattle.wt_tiles.specs.declared.glyph.GlyphClass.{GlyphClass}
use Rattle.wt_tiles.specs.declared.glyph.GlyphClass.TheVariants as class
use Rattle.wt_tiles.specs.declared.tag.Tag.{Tag}
use Rattle.wt_tiles.specs.declared.tag.TagShape.TheVariants.{Closing}
use Rattle.wt_tiles.specs.Glyphs.{in_class, is_in, first_is, run_len, begins}
use Rattle.wt_tiles.specs.Tags.{name_len, name_of, tag_of, is_inside, shape_of, tag_after, opening_tag, closing_tag, tag_at}
use Rattle.wt_beside_laws.proofs.LinkTiles.{first_stays}
use Rattle.wt_beside_laws.proofs.UrlTiles.{run_within}

pub if_tag : (v : Bool) (o : Option Tag) (t : Tag) → (if v then o else None) ≡ Some t → (v ≡ true) × (o ≡ Some t)
if_tag true o t e = (refl, e)
if_tag false o t e = cc

pub both_true : (u v : Bool) → (u && v) ≡ true → (u ≡ true) × (v ≡ true)
both_true true v e = (refl, e)
both_true false v e = cc

-- an item is there
some_left : (k : GlyphClass) (gs : List Glyph) → first_is k gs ≡ true → 1 ≤ length gs
some_left k [] e = cc
some_left k (g ∷ gs) e = omega arith

is_within : (k : GlyphClass) (n : ℕ) (gs : List Glyph) → first_is k (drop n gs) ≡ true → n < length gs
is_within k n gs e =
    let some : 1 ≤ length (drop n gs) = some_left k (drop n gs) e in
    let left : length (drop n gs) ≡ length gs - n = length-drop n gs in
    omega (arith, some, left)

pub name_stays : (gs rest : List Glyph) → name_len gs < length gs → name_len (gs ++ rest) ≡ name_len gs
name_stays gs rest lt =
    ap (λ (v : Bool). if v then run_len class.Name (gs ++ rest) else 0) (first_stays class.Letter gs rest (omega (arith, lt)))
    ∙ by (first_is class.Letter gs) lt
  where
    by : (v : Bool) → (if v then run_len class.Name gs else 0) < length gs → (if v then run_len class.Name (gs ++ rest) else 0) ≡ (if v then run_len class.Name gs else 0)
    by true l = run_within class.Name gs rest l
    by false l = refl

-- ---- an opening tag, by what follows its name

abbrev tag_inside : List Glyph → Bool → List Glyph → Option Tag
tag_inside name ends inside = if ends && is_inside inside then tag_of (shape_of inside) (2 + length name + length inside) (name_of name) else None

record After (name us rest : List Glyph) (t : Tag) : Type 0 where
  some : 1 ≤ length us
  is : tag_after name (us ++ rest) ≡ Some t

after_stays : (name us rest : List Glyph) (t : Tag) → tag_after name us ≡ Some t → After name us rest t
unfolding tag_after
after_stays name us rest t e =
    let r : ℕ = run_len class.Tag us in
    let m = if_tag (first_is (class.Only 62) (drop r us) && is_inside (take r us)) (tag_of (shape_of (take r us)) (2 + length name + length (take r us)) (name_of name)) t e in
    let ends = both_true (first_is (class.Only 62) (drop r us)) (is_inside (take r us)) m.0 in
    let lt : r < length us = is_within (class.Only 62) r us ends.0 in
    let left : length (drop r us) ≡ length us - r = length-drop r us in
    record {
      some = omega (arith, lt);
      is =
          ap (λ (i : ℕ). tag_inside name (first_is (class.Only 62) (drop i (us ++ rest))) (take i (us ++ rest))) (run_within class.Tag us rest lt)
          ∙ ap₂ (λ (v : Bool) (xs : List Glyph). tag_inside name v xs)
          (ap (first_is (class.Only 62)) (drop-append-le r us rest (omega (arith, lt))) ∙ first_stays (class.Only 62) (drop r us) rest (omega (arith, lt, left)))
          (take-append-le r us rest (omega (arith, lt)))
          ∙ e;
    }

opening_stays : (gs rest : List Glyph) (t : Tag) → opening_tag gs ≡ Some t → opening_tag (gs ++ rest) ≡ Some t
unfolding opening_tag
opening_stays [] rest t e = cc
opening_stays (g ∷ hs) rest t e =
    let n : ℕ = name_len hs in
    let us : List Glyph = drop (1 + n) (g ∷ hs) in
    let m = if_tag (first_is (class.Only 60) (g ∷ hs) && nat_lt 0 n) (tag_after (take n hs) us) t e in
    let a = after_stays (take n hs) us rest t m.1 in
    let left : length us ≡ length (g ∷ hs) - (1 + n) = length-drop (1 + n) (g ∷ hs) in
    let some : 1 ≤ length us = a.some in
    let lt : n < length hs = omega (arith, some, left) in
    let whole : 1 + n ≤ length (g ∷ hs) = omega (arith, lt) in
    ap (λ (i : ℕ). if first_is (class.Only 60) (g ∷ hs) && nat_lt 0 i then tag_after (take i (hs ++ rest)) (drop (1 + i) (g ∷ (hs ++ rest))) else None) (name_stays hs rest lt)
    ∙ ap (λ (v : Bool). if v then tag_after (take n (hs ++ rest)) (drop (1 + n) (g ∷ (hs ++ rest))) else None) m.0
    ∙ ap₂ (λ (xs ys : List Glyph). tag_after xs ys) (take-append-le n hs rest (omega (arith, lt))) (drop-append-le (1 + n) (g ∷ hs) rest whole)
    ∙ a.is

-- ---- a closing tag

abbrev closing_by : Bool → ℕ → ℕ → List Glyph → List Glyph → Option Tag
closing_by first n k name behind = if first && (nat_lt 0 n && first_is (class.Only 62) behind) then tag_of Closing (3 + n + k) (name_of name) else None

closing_stays : (a b : Glyph) (hs rest : List Glyph) (t : Tag) → closing_tag (a ∷ b ∷ hs) ≡ Some t → closing_tag (a ∷ b ∷ (hs ++ rest)) ≡ Some t
unfolding closing_tag
closing_stays a b hs rest t e =
    let gs : List Glyph = a ∷ b ∷ hs in
    let n : ℕ = name_len hs in
    let k : ℕ = run_len class.Blank (drop (2 + n) gs) in
    let m = if_tag (begins (codes "</") gs && (nat_lt 0 n && first_is (class.Only 62) (drop (2 + n + k) gs))) (tag_of Closing (3 + n + k) (name_of (take n hs))) t e in
    let c = both_true (begins (codes "</") gs) (nat_lt 0 n && first_is (class.Only 62) (drop (2 + n + k) gs)) m.0 in
    let d = both_true (nat_lt 0 n) (first_is (class.Only 62) (drop (2 + n + k) gs)) c.1 in
    let lt : 2 + n + k < length gs = is_within (class.Only 62) (2 + n + k) gs d.1 in
    let own : n < length hs = omega (arith, lt) in
    let left : length (drop (2 + n) gs) ≡ length gs - (2 + n) = length-drop (2 + n) gs in
    let end : length (drop (2 + n + k) gs) ≡ length gs - (2 + n + k) = length-drop (2 + n + k) gs in
    let first : Bool = begins (codes "</") gs in
    let all : List Glyph = a ∷ b ∷ (hs ++ rest) in
    let blanks : run_len class.Blank (drop (2 + n) all) ≡ k =
    ap (run_len class.Blank) (drop-append-le (2 + n) gs rest (omega (arith, lt))) ∙ run_within class.Blank (drop (2 + n) gs) rest (omega (arith, lt, left)) in
    ap (λ (i : ℕ). closing_by first i (run_len class.Blank (drop (2 + i) all)) (take i (hs ++ rest)) (drop (2 + i + run_len class.Blank (drop (2 + i) all)) all))
    (name_stays hs rest own)
    ∙ ap (λ (j : ℕ). closing_by first n j (take n (hs ++ rest)) (drop (2 + n + j) all)) blanks
    ∙ ap (λ xs. closing_by first n k xs (drop (2 + n + k) all)) (take-append-le n hs rest (omega (arith, own)))
    ∙ ap (λ (v : Bool). if first && (nat_lt 0 n && v) then tag_of Closing (3 + n + k) (name_of (take n hs)) else None)
    (ap (first_is (class.Only 62)) (drop-append-le (2 + n + k) gs rest (omega (arith, lt)))
    ∙ first_stays (class.Only 62) (drop (2 + n + k) gs) rest (omega (arith, lt, end)))
    ∙ e

and_none : (b : Bool) → (b && false) ≡ false
and_none true = refl
and_none false = refl

slash : (g : Glyph) → is_in (λ (x : ℕ). x == 47) g ≡ true → in_class class.Letter g ≡ false
slash (glyph.Byte b) e = subst (λ (x : ℕ). in_class class.Letter (glyph.Byte x) ≡ false) (sym ((Decides-eqb b 47).0 e)) refl
slash (glyph.Entity c) e = refl
slash glyph.Atom e = refl
slash glyph.Mark e = refl

-- a closing tag is no opening one
pub closing_alone : (a b : Glyph) (hs : List Glyph) (t : Tag) → closing_tag (a ∷ b ∷ hs) ≡ Some t → in_class class.Letter b ≡ false
unfolding closing_tag
closing_alone a b hs t e =
    let n : ℕ = name_len hs in
    let k : ℕ = run_len class.Blank (drop (2 + n) (a ∷ b ∷ hs)) in
    let m = if_tag (begins (codes "</") (a ∷ b ∷ hs) && (nat_lt 0 n && first_is (class.Only 62) (drop (2 + n + k) (a ∷ b ∷ hs)))) (tag_of Closing (3 + n + k) (name_of (take n hs))) t e in
    let c = both_true (begins (codes "</") (a ∷ b ∷ hs)) (nat_lt 0 n && first_is (class.Only 62) (drop (2 + n + k) (a ∷ b ∷ hs))) m.0 in
    let d = both_true (is_in (λ (x : ℕ). x == 60) a) (is_in (λ (x : ℕ). x == 47) b && true) c.0 in
    slash b (both_true (is_in (λ (x : ℕ). x == 47) b) true d.1).0

pub no_opening : (a b : Glyph) (hs : List Glyph) → in_class class.Letter b ≡ false → opening_tag (a ∷ b ∷ hs) ≡ None
unfolding opening_tag
no_opening a b hs e = rw (e, and_none (first_is (class.Only 60) (a ∷ b ∷ hs))) refl

lone_closing : (g : Glyph) → closing_tag (g ∷ []) ≡ None
unfolding closing_tag
lone_closing g = rw (and_none (is_in (λ (x : ℕ). x == 60) g)) refl

no_closing : closing_tag [] ≡ None
unfolding closing_tag
no_closing = refl

tag_by : (o : Option Tag) (gs rest : List Glyph) (t : Tag) → opening_tag gs ≡ o → option_or o (closing_tag gs) ≡ Some t → tag_at (gs ++ rest) ≡ Some t
unfolding tag_at
tag_by (Some u) gs rest t e is = rw (opening_stays gs rest u e) is
tag_by None [] rest t e is = let no : None ≡ Some t = sym no_closing ∙ is in cc
tag_by None (g ∷ []) rest t e is = let no : None ≡ Some t = sym (lone_closing g) ∙ is in cc
tag_by None (g ∷ h ∷ gs) rest t e is =
    rw (no_opening g h (gs ++ rest) (closing_alone g h gs t is)) (closing_stays g h gs rest t is)

pub tag_stays : (gs rest : List Glyph) (t : Tag) → tag_at gs ≡ Some t → tag_at (gs ++ rest) ≡ Some t
unfolding tag_at
tag_stays gs rest t e = tag_by (opening_tag gs) gs rest t refl e
