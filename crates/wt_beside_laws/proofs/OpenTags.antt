-- Where a node is a tag that opens a pair, nothing behind it closes it: so of any other node, at the end of a line, and of a tag that is read as an island.
use Rattle.std.proofs.Common.{arith, ◌≡◌, ℕ, ◌<◌, Bool, false, Option, Some, None, List, [], ◌∷◌, ◌++◌, length, drop, refl, sym, ap, ◌∙◌, subst}
use Rattle.std.proofs.Math.Seq.{drop-append_seam}
use Rattle.wt_span.specs.declared.tag_name.TagName.{TagName}
use Rattle.wt_guards.specs.Content.{ContentSign, letter, thing}
use Rattle.wt_guards.specs.Guards.{Setting}
use Rattle.wt_tiles.specs.declared.glyph.Glyph.{Glyph}
use Rattle.wt_tiles.specs.declared.glyph.Glyph.TheVariants as glyph
use Rattle.wt_tiles.specs.declared.glyph.GlyphClass.TheVariants as class
use Rattle.wt_tiles.specs.declared.shape.Shape.{Shape}
use Rattle.wt_tiles.specs.declared.tag.Name.{Name}
use Rattle.wt_tiles.specs.declared.tag.Name.TheVariants.{Paired, Break, Island}
use Rattle.wt_tiles.specs.declared.tag.TagShape.{TagShape}
use Rattle.wt_tiles.specs.declared.tag.TagShape.TheVariants.{Opening, Alone, Closing}
use Rattle.wt_tiles.specs.declared.tag.Tag.{Tag}
use Rattle.wt_tiles.specs.Contexts.{in_line}
use Rattle.wt_tiles.specs.Glyphs.{first_is}
use Rattle.wt_tiles.specs.Partners.{number, partner}
use Rattle.wt_tiles.specs.Reading.{tile_at}
use Rattle.wt_tiles.specs.Tags.{tag_at}
use Rattle.wt_tiles.specs.Tiles.{size, len_of, pair_or_island, shape_of_tag, form_at}
use Rattle.wt_tiles.proofs.TagInsides.{no_tag}
use Rattle.wt_beside_laws.specs.Cuts.{own_glyphs, form_before}
use Rattle.wt_beside_laws.specs.Nodes.{ClosesNone, IsOpenBy, IsOpenBefore, AllStayOpen, KeepsOpen, IsLone, IsClosedBy, OpensNoPair, NoneOpensPair}
use Rattle.wt_beside_laws.proofs.NodesStand.{nothing_closes, by_less}
use Rattle.wt_beside_laws.proofs.PairTiles.{HasTag, partner_tag, less_begins}
use Rattle.wt_beside_laws.proofs.TagFronts.{byte_is, tag_some}
use Rattle.wt_beside_laws.proofs.TagTiles.{tag_stays}
use Rattle.wt_beside_laws.specs.Glyphs.{line_glyphs}

-- ---- of nodes that are no such tag

pub untagged_open : (gs behind : List Glyph) → first_is (class.Only 60) gs ≡ false → IsOpenBefore gs behind
untagged_open gs behind e = subst (λ (o : Option Tag). IsOpenBy o (length gs) behind) (sym (no_tag gs e)) tt

pub untagged_closed : (gs : List Glyph) → first_is (class.Only 60) gs ≡ false → OpensNoPair gs
untagged_closed gs e = subst (λ (o : Option Tag). IsClosedBy o (length gs)) (sym (no_tag gs e)) tt

lone_closes : (m : Name) (h : TagShape) (behind : List Glyph) → IsLone m h → ClosesNone m h behind
lone_closes (Paired m) Opening behind l = absurd l
lone_closes (Paired m) Alone behind l = tt
lone_closes (Paired m) Closing behind l = tt
lone_closes Break h behind l = tt
lone_closes Island h behind l = tt

closed_by : (o : Option Tag) (n : ℕ) (behind : List Glyph) → IsClosedBy o n → IsOpenBy o n behind
closed_by None n behind c = tt
closed_by (Some t) n behind c = λ e. lone_closes t.name t.shape behind (c e)

pub closed_open : (own behind : List Glyph) → OpensNoPair own → IsOpenBefore own behind
closed_open own behind c = closed_by (tag_at own) (length own) behind c

all_closed : (s : Setting) (before signs : List ContentSign) → NoneOpensPair signs → AllStayOpen s before signs
all_closed s before [] c = tt
all_closed s before (letter d ∷ after) c = (tt, all_closed s (letter d ∷ before) after c)
all_closed s before (thing t ∷ after) c =
    (closed_open (own_glyphs t) (line_glyphs s (thing t ∷ before) after) c.0, all_closed s (thing t ∷ before) after c.1)

-- so a content without such tags
pub closed_keeps : (signs : List ContentSign) → NoneOpensPair signs → KeepsOpen signs
closed_keeps signs c = λ s. all_closed s [] signs c

-- ---- at the end

pub open_end : (own : List Glyph) → IsOpenBefore own []
open_end own = by (tag_at own)
  where
    by : (o : Option Tag) → IsOpenBy o (length own) []
    by None = tt
    by (Some t) = λ e. nothing_closes t.name t.shape

-- ---- of a tag that is read as an island

found_tag : (o : Option Tag) → HasTag o → (c : Tag) × (o ≡ Some c)
found_tag None h = absurd h
found_tag (Some c) h = (c, refl)

-- what takes no more than the tag is no pair
no_pair : (m : TagName) (n : ℕ) (all : List Glyph) (o : Option (List Glyph)) → partner (number m) 0 (drop n all) ≡ o → size (pair_or_island n o all) ≡ n → o ≡ None
no_pair m n all None e whole = refl
no_pair m n all (Some us) e whole =
    let c = found_tag (tag_at us) (partner_tag (number m) 0 (drop n all) us e) in
    let some : 0 < c.0.len = tag_some us c.0 c.1 in
    let end : len_of (tag_at us) ≡ c.0.len = ap len_of c.1 in
    absurd (omega (arith, whole, some, end))

closes_by : (m : Name) (h : TagShape) (n : ℕ) (all behind : List Glyph) → drop n all ≡ behind → size (shape_of_tag 0 m h n all) ≡ n → ClosesNone m h behind
closes_by (Paired m) Opening n all behind i whole =
    ap (partner (number m) 0) (sym i) ∙ no_pair m n all (partner (number m) 0 (drop n all)) refl whole
closes_by (Paired m) Alone n all behind i whole = tt
closes_by (Paired m) Closing n all behind i whole = tt
closes_by Break h n all behind i whole = tt
closes_by Island h n all behind i whole = tt

same_shape : (v w : Shape) → Some v ≡ Some w → v ≡ w
same_shape v w e = cc

less_first : (b : ℕ) (gs : List Glyph) (t : Tag) → tag_at (glyph.Byte b ∷ gs) ≡ Some t → glyph.Byte b ≡ glyph.Byte 60
less_first b gs t e = byte_is 60 (glyph.Byte b) (less_begins (glyph.Byte b) gs t e)

tag_form : (a : Bool) (g : Glyph) (gs : List Glyph) (t : Tag) → g ≡ glyph.Byte 60 → tag_at (g ∷ gs) ≡ Some t
    → form_at in_line a (g ∷ gs) ≡ Some (shape_of_tag 0 t.name t.shape t.len (g ∷ gs))
tag_form a g gs t i e =
    subst (λ (x : Glyph). tag_at (x ∷ gs) ≡ Some t → form_at in_line a (x ∷ gs) ≡ Some (shape_of_tag 0 t.name t.shape t.len (x ∷ gs))) (sym i)
    (λ f. by_less a gs t f) e

-- where no form begins
pub untiled : (a : Bool) (b : ℕ) (gs : List Glyph) → tile_at in_line a (glyph.Byte b ∷ gs) ≡ None → tag_at (glyph.Byte b ∷ gs) ≡ None
untiled a b gs none = by (tag_at (glyph.Byte b ∷ gs)) refl
  where
    by : (o : Option Tag) → tag_at (glyph.Byte b ∷ gs) ≡ o → tag_at (glyph.Byte b ∷ gs) ≡ None
    by None e = e
    by (Some t) e = absurd (let form = sym (tag_form a (glyph.Byte b) gs t (less_first b gs t e) e) ∙ none in cc)

open_so : (a : Bool) (b : ℕ) (gs behind : List Glyph) (w : Shape) (o : Option Tag) → tag_at (glyph.Byte b ∷ gs) ≡ o
    → form_at in_line a (glyph.Byte b ∷ (gs ++ behind)) ≡ Some w → size w ≡ length (glyph.Byte b ∷ gs) → IsOpenBy o (length (glyph.Byte b ∷ gs)) behind
open_so a b gs behind w None e f whole = tt
open_so a b gs behind w (Some t) e f whole = λ len.
    let own : List Glyph = glyph.Byte b ∷ gs in
    let all : List Glyph = own ++ behind in
    let tagged : tag_at all ≡ Some t = tag_stays own behind t e in
    let is : shape_of_tag 0 t.name t.shape t.len all ≡ w =
    same_shape (shape_of_tag 0 t.name t.shape t.len all) w (sym (tag_form a (glyph.Byte b) (gs ++ behind) t (less_first b gs t e) tagged) ∙ f) in
    let past : drop t.len all ≡ behind = ap (λ (n : ℕ). drop n all) len ∙ drop-append_seam own behind in
    closes_by t.name t.shape t.len all behind past (ap size is ∙ whole ∙ sym len)

pub read_open : (a : Bool) (own behind : List Glyph) (w : Shape) → form_before in_line a own behind ≡ Some w → size w ≡ length own → IsOpenBefore own behind
read_open a [] behind w e whole = cc
read_open a (glyph.Byte b ∷ gs) behind w e whole = open_so a b gs behind w (tag_at (glyph.Byte b ∷ gs)) refl e whole
read_open a (glyph.Entity c ∷ gs) behind w e whole = untagged_open (glyph.Entity c ∷ gs) behind refl
read_open a (glyph.Atom ∷ gs) behind w e whole = untagged_open (glyph.Atom ∷ gs) behind refl
read_open a (glyph.Mark ∷ gs) behind w e whole = untagged_open (glyph.Mark ∷ gs) behind refl
