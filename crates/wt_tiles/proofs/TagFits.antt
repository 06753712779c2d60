-- What each tag has: it lies within the items, begins with `<` and ends with `>`.
use Rattle.std.proofs.Common.{◌≡◌, ℕ, ◌+◌, ◌-◌, ◌<◌, ◌≤◌, Bool, true, false, Option, Some, None, List, length, take, drop, nat_lt, refl, sym, ap, ◌∙◌, arith, codes, length-drop, length-take}
use Rattle.std.specs.Prelude.{◌&&◌, if◌then◌else◌}
use Rattle.std.specs.Option.{option_or}
use Rattle.std.proofs.lemmas.List.Sums.{prefix_len-le-length}
use Rattle.wt_tiles.specs.declared.glyph.Glyph.{Glyph}
use Rattle.wt_tiles.specs.declared.glyph.GlyphClass.{GlyphClass}
use Rattle.wt_tiles.specs.declared.glyph.GlyphClass.TheVariants as class
use Rattle.wt_tiles.specs.declared.tag.Name.{Name}
use Rattle.wt_tiles.specs.declared.tag.TagShape.{TagShape}
use Rattle.wt_tiles.specs.declared.tag.TagShape.TheVariants.{Closing}
use Rattle.wt_tiles.specs.declared.tag.Tag.{Tag}
use Rattle.wt_tiles.specs.Glyphs.{in_class, first_is, run_len, begins}
use Rattle.wt_tiles.specs.Tags.{tag_of, name_of, name_len, is_inside, shape_of, tag_after, opening_tag, closing_tag, tag_at}
use Rattle.wt_tiles.specs.Edges.{low_at}
use Rattle.wt_tiles.proofs.Words.{and_left, and_right, lt_is, first_low, first_some, low_drop, begins_low}

pub record TagFits (gs : List Glyph) (t : Tag) : Type 0 where
  pub some : 2 < t.len
  pub within : t.len ≤ length gs
  pub first : low_at gs 0 ≡ true
  pub last : low_at gs (t.len - 1) ≡ true

abbrev pub OptTag : List Glyph → Option Tag → Type 0
OptTag gs None = Unit {0}
OptTag gs (Some t) = TagFits gs t

or_tag : (gs : List Glyph) (a b : Option Tag) → OptTag gs a → OptTag gs b → OptTag gs (option_or a b)
or_tag gs None b f g = g
or_tag gs (Some t) b f g = f

if_tag : (gs : List Glyph) (t : Bool) (o : Option Tag) → (t ≡ true → OptTag gs o) → OptTag gs (if t then o else None)
if_tag gs true o f = f refl
if_tag gs false o f = tt

pub run_le : (k : GlyphClass) (gs : List Glyph) → run_len k gs ≤ length gs
run_le k gs = prefix_len-le-length (in_class k) gs

pub name_le : (gs : List Glyph) → name_len gs ≤ length gs
name_le gs = by (first_is class.Letter gs)
  where
    by : (t : Bool) → (if t then run_len class.Name gs else 0) ≤ length gs
    by true = run_le class.Name gs
    by false = omega arith

-- a tag of n items
sized : (gs : List Glyph) (shape : TagShape) (n : ℕ) (o : Option Name) → 2 < n → n ≤ length gs → low_at gs 0 ≡ true
    → low_at gs (n - 1) ≡ true → OptTag gs (tag_of shape n o)
sized gs shape n None some within first last = tt
sized gs shape n (Some m) some within first last = record { some = some; within = within; first = first; last = last }

-- by what follows the name, of which so many items stand before the `>`
abbrev pub OptAfter : List Glyph → List Glyph → Option Tag → Type 0
OptAfter name gs None = Unit {0}
OptAfter name gs (Some t) = (k : ℕ) × (t.len ≡ 2 + length name + k) × (k < length gs) × (low_at gs k ≡ true)

after_of : (name gs : List Glyph) (shape : TagShape) (n k : ℕ) (o : Option Name) → n ≡ 2 + length name + k → k < length gs
    → low_at gs k ≡ true → OptAfter name gs (tag_of shape n o)
after_of name gs shape n k None e there low = tt
after_of name gs shape n k (Some m) e there low = (k, e, there, low)

if_after : (name gs : List Glyph) (t : Bool) (o : Option Tag) → (t ≡ true → OptAfter name gs o) → OptAfter name gs (if t then o else None)
if_after name gs true o f = f refl
if_after name gs false o f = tt

after_fits : (name gs : List Glyph) → OptAfter name gs (tag_after name gs)
unfolding tag_after
after_fits name gs =
    let k = run_len class.Tag gs in
    let inside = take k gs in
    if_after name gs (first_is (class.Only 62) (drop k gs) && is_inside inside) (tag_of (shape_of inside) (2 + length name + length inside) (name_of name))
    (λ e.
    let last = and_left (first_is (class.Only 62) (drop k gs)) _ e in
    let low : low_at gs (k + 0) ≡ true = sym (low_drop k 0 gs) ∙ first_low (class.Only 62) (drop k gs) (omega arith) last in
    let there = first_some (class.Only 62) (drop k gs) last in
    let z : k + 0 ≡ k = omega arith in
    after_of name gs (shape_of inside) (2 + length name + length inside) k (name_of name)
    (omega (arith, length-take k gs, run_le class.Tag gs)) (omega (arith, length-drop k gs)) (ap (low_at gs) (sym z) ∙ low))

opened : (gs : List Glyph) (n : ℕ) (o : Option Tag) → low_at gs 0 ≡ true → 0 < n → n ≤ length (drop 1 gs)
    → OptAfter (take n (drop 1 gs)) (drop (1 + n) gs) o → OptTag gs o
opened gs n None first pos le a = tt
opened gs n (Some t) first pos le (k, size, there, low) =
    let named : length (take n (drop 1 gs)) ≡ n = omega (arith, length-take n (drop 1 gs)) in
    let end : t.len - 1 ≡ 1 + n + k = omega arith in
    record { some = omega arith; within = omega (arith, length-drop (1 + n) gs); first = first; last = ap (low_at gs) end ∙ sym (low_drop (1 + n) k gs) ∙ low }

pub opening_fits : (gs : List Glyph) → OptTag gs (opening_tag gs)
unfolding opening_tag
opening_fits gs =
    let n = name_len (drop 1 gs) in
    if_tag gs (first_is (class.Only 60) gs && nat_lt 0 n) (tag_after (take n (drop 1 gs)) (drop (1 + n) gs))
    (λ e.
    let first = first_low (class.Only 60) gs (omega arith) (and_left (first_is (class.Only 60) gs) _ e) in
    let pos = lt_is 0 n (and_right (first_is (class.Only 60) gs) _ e) in
    opened gs n (tag_after (take n (drop 1 gs)) (drop (1 + n) gs)) first pos (name_le (drop 1 gs)) (after_fits (take n (drop 1 gs)) (drop (1 + n) gs)))

pub closing_fits : (gs : List Glyph) → OptTag gs (closing_tag gs)
unfolding closing_tag
closing_fits gs =
    let n = name_len (drop 2 gs) in
    let k = run_len class.Blank (drop (2 + n) gs) in
    if_tag gs (begins (codes "</") gs && (nat_lt 0 n && first_is (class.Only 62) (drop (2 + n + k) gs)))
    (tag_of Closing (3 + n + k) (name_of (take n (drop 2 gs))))
    (λ e.
    let starts = and_left (begins (codes "</") gs) _ e in
    let more = and_right (begins (codes "</") gs) _ e in
    let pos = lt_is 0 n (and_left (nat_lt 0 n) _ more) in
    let last = and_right (nat_lt 0 n) _ more in
    let there = first_some (class.Only 62) (drop (2 + n + k) gs) last in
    let low = sym (low_drop (2 + n + k) 0 gs) ∙ first_low (class.Only 62) (drop (2 + n + k) gs) (omega arith) last in
    let end : 3 + n + k - 1 ≡ 2 + n + k + 0 = omega arith in
    sized gs Closing (3 + n + k) (name_of (take n (drop 2 gs))) (omega arith) (omega (arith, length-drop (2 + n + k) gs))
    (begins_low (codes "</") gs 0 refl starts (omega arith)) (ap (low_at gs) end ∙ low))

pub tag_fits : (gs : List Glyph) → OptTag gs (tag_at gs)
unfolding tag_at
tag_fits gs = or_tag gs (opening_tag gs) (closing_tag gs) (opening_fits gs) (closing_fits gs)
