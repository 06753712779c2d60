-- Nodes that stay are the same tiles beside text that is typed and beside each other.
use Rattle.std.proofs.Common.{arith, ◌≡◌, ℕ, ◌+◌, ◌-◌, ◌≤◌, ◌==◌, Bool, true, false, Option, Some, None, List, [], ◌∷◌, ◌++◌, length, drop, refl, sym, ap, ap₂, ◌∙◌, subst, inl, inr, ◌⊎◌, All}
use Rattle.std.specs.Prelude.{◌&&◌, codes}
use Rattle.std.proofs.lemmas.Bool.Decides.{nat_tests}
use Rattle.std.proofs.lemmas.List.{drop_all, drop-append-le, length-append, length-drop}
use Rattle.std.proofs.lemmas.List.Elements.{All-nil, All-cons, All-contains}
use Rattle.std.proofs.Math.Seq.{drop-append_seam}
use Rattle.wt_span.specs.declared.tag_name.TagName.{TagName}
use Rattle.wt_guards.specs.declared.role.Role.{Role}
use Rattle.wt_guards.specs.declared.role.Role.TheVariants.{Link, External, Bare, Switch, Toggle, Mark, Group, Function, Node}
use Rattle.wt_tiles.specs.declared.glyph.Glyph.{Glyph}
use Rattle.wt_tiles.specs.declared.glyph.Glyph.TheVariants as glyph
use Rattle.wt_tiles.specs.declared.glyph.GlyphClass.TheVariants as class
use Rattle.wt_tiles.specs.declared.shape.Shape.{Shape}
use Rattle.wt_tiles.specs.declared.shape.TileKind.TheVariants as kind
use Rattle.wt_tiles.specs.declared.tag.Name.{Name}
use Rattle.wt_tiles.specs.declared.tag.Name.TheVariants.{Paired, Break, Island}
use Rattle.wt_tiles.specs.declared.tag.TagShape.{TagShape}
use Rattle.wt_tiles.specs.declared.tag.TagShape.TheVariants.{Opening, Alone, Closing}
use Rattle.wt_tiles.specs.declared.tag.Tag.{Tag}
use Rattle.wt_tiles.specs.Contexts.{in_line}
use Rattle.wt_tiles.specs.Glyphs.{first_is, begins, byte_glyphs}
use Rattle.wt_tiles.specs.Links.{leaf, link_at}
use Rattle.wt_tiles.specs.Tags.{opening_tag, closing_tag, tag_at}
use Rattle.wt_tiles.specs.Partners.{number, partner}
use Rattle.wt_tiles.specs.Tiles.{size, len_of, pair_or_island, shape_of_tag, link_or_url, tag_tile, switch_names, switch_at, form_at}
use Rattle.wt_tiles.specs.Urls.{scheme_len, ext_link_at, bare_url_at}
use Rattle.wt_beside_laws.specs.Cuts.{own_form, form_before, StandsAs, Stands}
use Rattle.wt_beside_laws.specs.Nodes.{IsLinkNode, IsExternalNode, IsBareNode, IsSwitchNode, IsDelimiter, IsOneLexeme, IsNode, MayFollow, MayLead, ClosesNone, IsOpenBy, IsOpenBefore, IsLone, IsPair, IsTagNode, IsCategoryNode, IsMediaNode}
use Rattle.wt_beside_laws.proofs.LinkTiles.{link_stays, category_stays}
use Rattle.wt_beside_laws.proofs.MediaTiles.{media_stays}
use Rattle.wt_beside_laws.proofs.PairTiles.{closing_stays, partner_short, partner_stays, partner_tag}
use Rattle.wt_beside_laws.proofs.TagTiles.{tag_stays}
use Rattle.wt_beside_laws.proofs.UrlTiles.{ext_stays, bare_stays, bare_unquoted}
use Rattle.wt_tiles.proofs.TagInsides.{no_form}

-- ---- the form that is first of several

as_link : (a : Bool) (gs : List Glyph) (w : Shape) → link_at gs ≡ Some w → form_at in_line a gs ≡ Some w
unfolding form_at link_or_url
as_link a gs w e = rw e refl

as_external : (a : Bool) (gs : List Glyph) (w : Shape) → link_at gs ≡ None → ext_link_at gs ≡ Some w → form_at in_line a gs ≡ Some w
unfolding form_at link_or_url
as_external a gs w l e = rw (l, e) refl

pub as_bare : (a : Bool) (gs : List Glyph) (w : Shape) → link_at gs ≡ None → ext_link_at gs ≡ None → bare_url_at a gs ≡ Some w → form_at in_line a gs ≡ Some w
unfolding form_at link_or_url
as_bare a gs w l x e = rw (l, x, e) refl

as_switch : (a : Bool) (gs : List Glyph) (w : Shape) → link_at gs ≡ None → ext_link_at gs ≡ None → bare_url_at a gs ≡ None → tag_at gs ≡ None
    → switch_at gs ≡ Some w → form_at in_line a gs ≡ Some w
unfolding form_at link_or_url tag_tile
as_switch a gs w l x b t e = rw (l, x, b, t, e) refl

-- ---- each kind of node, before what follows it

-- its form, by itself and before these items
record Holds (word : Bool) (own behind : List Glyph) : Type 0 where
  shape : Shape
  alone : own_form in_line own ≡ Some shape
  whole : size shape ≡ length own
  before : (a : Bool) → (a ≡ true → word ≡ true) → form_before in_line a own behind ≡ Some shape

holding : (word : Bool) (own behind : List Glyph) → Holds word own behind → Stands in_line word own behind
holding word own behind h = subst (λ o. StandsAs o in_line word own behind) (sym h.alone) (h.whole, h.before)

-- an apostrophe is no letter
quote_no_trail : (g : Glyph) (gs : List Glyph) → begins (codes "''") (g ∷ gs) ≡ true → first_is class.Trail (g ∷ gs) ≡ false
quote_no_trail (glyph.Byte b) gs q = by (b == 39) refl q
  where
    by : (v : Bool) → (b == 39) ≡ v → (v && begins (codes "'") gs) ≡ true → first_is class.Trail (glyph.Byte b ∷ gs) ≡ false
    by true e z = let is : b ≡ 39 = grind (arith, nat_tests, e) in subst (λ (c : ℕ). first_is class.Trail (glyph.Byte c ∷ gs) ≡ false) (sym is) refl
    by false e z = cc
quote_no_trail (glyph.Entity c) gs q = cc
quote_no_trail glyph.Atom gs q = cc
quote_no_trail glyph.Mark gs q = cc

past_trail : (own gs : List Glyph) → MayFollow Link own gs → first_is class.Trail gs ≡ false
past_trail own [] h = refl
past_trail own (g ∷ gs) h = elim h [ inl e ↦ e | inr q ↦ quote_no_trail g gs q.quotes ]

bare_before : (ends : Bool) (own gs : List Glyph) (w : Shape) → MayFollow (Bare ends) own gs → bare_url_at false own ≡ Some w → bare_url_at false (own ++ gs) ≡ Some w
bare_before ends own [] w f e = bare_stays own [] w tt e
bare_before ends own (g ∷ gs) w f e = elim f [
  | inl p ↦ bare_stays own (g ∷ gs) w p e
  | inr q ↦ bare_unquoted own (g ∷ gs) w q.unquoted q.quotes e
]

two_fit : (w : Shape) (own inside : List Glyph) → own ≡ glyph.Byte 91 ∷ glyph.Byte 91 ∷ inside → size w ≡ length own → size w ≤ 2 + length inside
two_fit w own inside i e = let l : length own ≡ length (glyph.Byte 91 ∷ glyph.Byte 91 ∷ inside) = ap length i in omega (arith, l, e)

one_fits : (w : Shape) (own inside : List Glyph) → own ≡ glyph.Byte 91 ∷ inside → size w ≡ length own → size w ≤ 1 + length inside
one_fits w own inside i e = let l : length own ≡ length (glyph.Byte 91 ∷ inside) = ap length i in omega (arith, l, e)

link_stands : (word : Bool) (own behind : List Glyph) → IsLinkNode own → MayFollow Link own behind → Holds word own behind
link_stands word own behind n f =
    let two : List Glyph = glyph.Byte 91 ∷ glyph.Byte 91 ∷ n.inside in
    subst (λ gs. Holds word gs behind) (sym n.is)
    (record {
      shape = n.shape;
      alone = as_link false two n.shape n.link;
      whole = n.whole ∙ ap length n.is;
      before = λ a h.
          as_link a (two ++ behind) n.shape
          (link_stays (glyph.Byte 91) (glyph.Byte 91) n.inside behind n.shape n.plain (past_trail own behind f) (two_fit n.shape own n.inside n.is n.whole) n.link);
    })

-- a single `[` is no link to a page
single_none : (gs : List Glyph) → first_is (class.Only 91) gs ≡ false → link_at (glyph.Byte 91 ∷ gs) ≡ None
unfolding link_at
single_none [] e = refl
single_none (g ∷ gs) e = rw e refl

lone_bracket : (w : Shape) → ext_link_at (glyph.Byte 91 ∷ []) ≡ Some w → (gs : List Glyph) → first_is (class.Only 91) gs ≡ false
unfolding ext_link_at scheme_len
lone_bracket w e gs = cc

single_behind : (inside behind : List Glyph) (w : Shape) → ext_link_at (glyph.Byte 91 ∷ inside) ≡ Some w → first_is (class.Only 91) inside ≡ false
    → first_is (class.Only 91) (inside ++ behind) ≡ false
single_behind [] behind w e s = lone_bracket w e behind
single_behind (g ∷ gs) behind w e s = s

external_stands : (word : Bool) (own behind : List Glyph) → IsExternalNode own → Holds word own behind
external_stands word own behind n =
    let one : List Glyph = glyph.Byte 91 ∷ n.inside in
    subst (λ gs. Holds word gs behind) (sym n.is)
    (record {
      shape = n.shape;
      alone = as_external false one n.shape (single_none n.inside n.single) n.link;
      whole = n.whole ∙ ap length n.is;
      before = λ a h.
          as_external a (one ++ behind) n.shape (single_none (n.inside ++ behind) (single_behind n.inside behind n.shape n.link n.single))
          (ext_stays (glyph.Byte 91) n.inside behind n.shape (one_fits n.shape own n.inside n.is n.whole) n.link);
    })

pub no_link : (b : ℕ) (gs : List Glyph) → (b == 91) ≡ false → link_at (glyph.Byte b ∷ gs) ≡ None
unfolding link_at
no_link b gs e = rw e refl

pub no_external : (b : ℕ) (gs : List Glyph) → (b == 91) ≡ false → ext_link_at (glyph.Byte b ∷ gs) ≡ None
unfolding ext_link_at
no_external b gs e = rw e refl

bare_by : (a word : Bool) (gs : List Glyph) (w : Shape) → word ≡ false → (a ≡ true → word ≡ true) → bare_url_at false gs ≡ Some w → bare_url_at a gs ≡ Some w
bare_by true word gs w e h is = let no : false ≡ true = sym e ∙ h refl in cc
bare_by false word gs w e h is = is

bare_stands : (ends word : Bool) (own behind : List Glyph) → IsBareNode own → MayFollow (Bare ends) own behind → word ≡ false → Holds word own behind
bare_stands ends word own behind n f e =
    let us : List Glyph = glyph.Byte n.first ∷ n.others in
    subst (λ gs. Holds word gs behind) (sym n.is)
    (record {
      shape = n.shape;
      alone = as_bare false us n.shape (no_link n.first n.others n.unbracketed) (no_external n.first n.others n.unbracketed) n.url;
      whole = n.whole ∙ ap length n.is;
      before = λ a h.
          as_bare a (us ++ behind) n.shape (no_link n.first (n.others ++ behind) n.unbracketed) (no_external n.first (n.others ++ behind) n.unbracketed)
          (bare_by a word (us ++ behind) n.shape e h (bare_before ends us behind n.shape (subst (λ (gs : List Glyph). MayFollow (Bare ends) gs behind) n.is f) n.url));
    })

-- ---- switches

record IsReadAsSwitch (word : List ℕ) : Type 0 where
  behind : (rest : List Glyph) → switch_at (byte_glyphs (95 ∷ 95 ∷ word) ++ rest) ≡ Some (leaf kind.Switch (2 + length word))
  alone : switch_at (byte_glyphs (95 ∷ 95 ∷ word)) ≡ Some (leaf kind.Switch (2 + length word))
  whole : size (leaf kind.Switch (2 + length word)) ≡ length (byte_glyphs (95 ∷ 95 ∷ word))

abbrev pub EachIs : (List ℕ → Type 0) → List (List ℕ) → Type 0
EachIs P [] = Unit {0}
EachIs P (x ∷ xs) = P x × EachIs P xs

pub all_by : (P : List ℕ → Type 0) (xs : List (List ℕ)) → EachIs P xs → All P xs
all_by P [] h = All-nil P
all_by P (x ∷ xs) h = All-cons P x xs h.0 (all_by P xs h.1)

each_switch : EachIs IsReadAsSwitch switch_names
unfolding switch_at switch_names
each_switch = (
  record { behind = λ rest. refl; alone = refl; whole = refl },
  (
    record { behind = λ rest. refl; alone = refl; whole = refl },
    (
      record { behind = λ rest. refl; alone = refl; whole = refl },
      (
        record { behind = λ rest. refl; alone = refl; whole = refl },
        (
          record { behind = λ rest. refl; alone = refl; whole = refl },
          (
            record { behind = λ rest. refl; alone = refl; whole = refl },
            (
              record { behind = λ rest. refl; alone = refl; whole = refl },
              (
                record { behind = λ rest. refl; alone = refl; whole = refl },
                (
                  record { behind = λ rest. refl; alone = refl; whole = refl },
                  tt,
                ),
              ),
            ),
          ),
        ),
      ),
    ),
  ),
)

switches_read : All IsReadAsSwitch switch_names
switches_read = all_by IsReadAsSwitch switch_names each_switch

no_tag : (gs : List Glyph) → tag_at (glyph.Byte 95 ∷ gs) ≡ None
unfolding tag_at opening_tag closing_tag
no_tag gs = refl

no_bare : (a : Bool) (gs : List Glyph) → bare_url_at a (glyph.Byte 95 ∷ gs) ≡ None
unfolding bare_url_at scheme_len
no_bare true gs = refl
no_bare false gs = refl

by_underscore : (a : Bool) (gs : List Glyph) (w : Shape) → switch_at (glyph.Byte 95 ∷ gs) ≡ Some w → form_at in_line a (glyph.Byte 95 ∷ gs) ≡ Some w
by_underscore a gs w e = as_switch a (glyph.Byte 95 ∷ gs) w (no_link 95 gs refl) (no_external 95 gs refl) (no_bare a gs) (no_tag gs) e

switch_stands : (word : Bool) (own behind : List Glyph) → IsSwitchNode own → Holds word own behind
switch_stands word own behind n =
    let r : IsReadAsSwitch n.word = All-contains IsReadAsSwitch switch_names n.word switches_read n.named in
    let w : Shape = leaf kind.Switch (2 + length n.word) in
    subst (λ gs. Holds word gs behind) (sym n.is)
    (record {
      shape = w;
      alone = by_underscore false (byte_glyphs (95 ∷ n.word)) w r.alone;
      whole = r.whole;
      before = λ a h. by_underscore a (byte_glyphs (95 ∷ n.word) ++ behind) w (r.behind behind);
    })

one_stands : (word : Bool) (own behind : List Glyph) → IsOneLexeme own → Holds word own behind
one_stands word own behind n = elim n [
  | inl i ↦ subst (λ gs. Holds word gs behind) (sym i) (record { shape = leaf kind.Atom 1; alone = refl; whole = refl; before = λ a h. refl })
  | inr i ↦ subst (λ gs. Holds word gs behind) (sym i.1) (record { shape = leaf kind.Atom 1; alone = refl; whole = refl; before = λ a h. refl })
]

-- ---- marks

mark_stands : (word : Bool) (own behind : List Glyph) → own ≡ glyph.Mark ∷ [] → Holds word own behind
mark_stands word own behind i =
    subst (λ gs. Holds word gs behind) (sym i) (record { shape = leaf kind.Mark 1; alone = refl; whole = refl; before = λ a h. refl })

-- ---- tags

as_tag : (a : Bool) (gs : List Glyph) (t : Tag) → link_at gs ≡ None → ext_link_at gs ≡ None → bare_url_at a gs ≡ None → tag_at gs ≡ Some t
    → form_at in_line a gs ≡ Some (shape_of_tag 0 t.name t.shape t.len gs)
unfolding form_at link_or_url tag_tile
as_tag a gs t l x b e = rw (l, x, b, e) refl

-- by itself, or before what closes none
abbrev tag_leaf : Name → TagShape → ℕ → Shape
tag_leaf (Paired m) h n = leaf kind.TagIsland n
tag_leaf Break Opening n = leaf kind.Br n
tag_leaf Break Alone n = leaf kind.Br n
tag_leaf Break Closing n = leaf kind.TagIsland n
tag_leaf Island h n = leaf kind.TagIsland n

leaf_size : (m : Name) (h : TagShape) (n : ℕ) → size (tag_leaf m h n) ≡ n
leaf_size (Paired m) h n = omega arith
leaf_size Break Opening n = omega arith
leaf_size Break Alone n = omega arith
leaf_size Break Closing n = omega arith
leaf_size Island h n = omega arith

leaf_shape : (m : Name) (h : TagShape) (n : ℕ) (gs behind : List Glyph) → drop n gs ≡ behind → ClosesNone m h behind → shape_of_tag 0 m h n gs ≡ tag_leaf m h n
leaf_shape (Paired m) Opening n gs behind i c = ap (λ (o : Option (List Glyph)). pair_or_island n o gs) (ap (partner (number m) 0) i ∙ c)
leaf_shape (Paired m) Alone n gs behind i c = refl
leaf_shape (Paired m) Closing n gs behind i c = refl
leaf_shape Break Opening n gs behind i c = refl
leaf_shape Break Alone n gs behind i c = refl
leaf_shape Break Closing n gs behind i c = refl
leaf_shape Island h n gs behind i c = refl

pub nothing_closes : (m : Name) (h : TagShape) → ClosesNone m h []
nothing_closes (Paired m) Opening = refl
nothing_closes (Paired m) Alone = tt
nothing_closes (Paired m) Closing = tt
nothing_closes Break h = tt
nothing_closes Island h = tt

pub lone_size : (m : Name) (h : TagShape) (n : ℕ) (gs : List Glyph) → IsLone m h → size (shape_of_tag 0 m h n gs) ≡ n
lone_size (Paired m) Opening n gs l = absurd l
lone_size (Paired m) Alone n gs l = omega arith
lone_size (Paired m) Closing n gs l = omega arith
lone_size Break Opening n gs l = omega arith
lone_size Break Alone n gs l = omega arith
lone_size Break Closing n gs l = omega arith
lone_size Island h n gs l = omega arith

no_bare_tag : (a : Bool) (gs : List Glyph) → bare_url_at a (glyph.Byte 60 ∷ gs) ≡ None
unfolding bare_url_at scheme_len
no_bare_tag true gs = refl
no_bare_tag false gs = refl

pub by_less : (a : Bool) (gs : List Glyph) (t : Tag) → tag_at (glyph.Byte 60 ∷ gs) ≡ Some t
    → form_at in_line a (glyph.Byte 60 ∷ gs) ≡ Some (shape_of_tag 0 t.name t.shape t.len (glyph.Byte 60 ∷ gs))
by_less a gs t e = as_tag a (glyph.Byte 60 ∷ gs) t (no_link 60 gs refl) (no_external 60 gs refl) (no_bare_tag a gs) e

whole_stands : (word : Bool) (t : Tag) (others behind : List Glyph) → tag_at (glyph.Byte 60 ∷ others) ≡ Some t → t.len ≡ length (glyph.Byte 60 ∷ others)
    → ClosesNone t.name t.shape behind → Holds word (glyph.Byte 60 ∷ others) behind
whole_stands word t others behind tagged whole closes =
    let less : List Glyph = glyph.Byte 60 ∷ others in
    let none : drop t.len less ≡ [] = drop_all t.len less (omega (arith, whole)) in
    let past : drop t.len (less ++ behind) ≡ behind = ap (λ (n : ℕ). drop n (less ++ behind)) whole ∙ drop-append_seam less behind in
    record {
      shape = tag_leaf t.name t.shape t.len;
      alone = by_less false others t tagged
          ∙ ap (λ (w : Shape). Some w) (leaf_shape t.name t.shape t.len less [] none (nothing_closes t.name t.shape));
      whole = leaf_size t.name t.shape t.len ∙ whole;
      before = λ a h.
          by_less a (others ++ behind) t (tag_stays less behind t tagged)
          ∙ ap (λ (w : Shape). Some w) (leaf_shape t.name t.shape t.len (less ++ behind) behind past closes);
    }

-- the shape of a pair, by what is found of its closing tag
pub opened_shape : (t : Tag) (m : TagName) (gs us : List Glyph) → t.name ≡ Paired m → t.shape ≡ Opening → partner (number m) 0 (drop t.len gs) ≡ Some us
    → shape_of_tag 0 t.name t.shape t.len gs ≡ pair_or_island t.len (Some us) gs
opened_shape t m gs us name opens found =
    ap (λ (k : Name). shape_of_tag 0 k t.shape t.len gs) name
    ∙ ap (λ (h : TagShape). shape_of_tag 0 (Paired m) h t.len gs) opens
    ∙ ap (λ (o : Option (List Glyph)). pair_or_island t.len o gs) found

pair_stands : (word : Bool) (t : Tag) (others behind : List Glyph) → tag_at (glyph.Byte 60 ∷ others) ≡ Some t → IsPair t (glyph.Byte 60 ∷ others)
    → Holds word (glyph.Byte 60 ∷ others) behind
pair_stands word t others behind tagged p =
    let less : List Glyph = glyph.Byte 60 ∷ others in
    let all : List Glyph = less ++ behind in
    let left : length (drop t.len less) ≡ length less - t.len = length-drop t.len less in
    let cut : drop t.len all ≡ drop t.len less ++ behind = drop-append-le t.len less behind p.within in
    let long : length (drop t.len less ++ behind) ≡ length (drop t.len less) + length behind = length-append (drop t.len less) behind in
    let last : length (p.last ++ behind) ≡ length p.last + length behind = length-append p.last behind in
    let short : length p.last ≤ length (drop t.len less) = partner_short (number p.name) 0 (drop t.len less) p.last p.closing in
    let size_of : length (drop t.len less ++ behind) - length (p.last ++ behind) ≡ length (drop t.len less) - length p.last = omega (arith, long, last, short) in
    let found : partner (number p.name) 0 (drop t.len all) ≡ Some (p.last ++ behind) =
    ap (partner (number p.name) 0) cut ∙ partner_stays (number p.name) 0 (drop t.len less) behind p.last p.closing in
    let tag : tag_at (p.last ++ behind) ≡ tag_at p.last = closing_stays (tag_at p.last) p.last behind refl (partner_tag (number p.name) 0 (drop t.len less) p.last p.closing) in
    let fits : t.len ≤ length less = p.within in
    let end : len_of (tag_at p.last) ≡ length p.last = p.ends in
    record {
      shape = pair_or_island t.len (Some p.last) less;
      alone = by_less false others t tagged ∙ ap (λ (w : Shape). Some w) (opened_shape t p.name less p.last p.paired p.opens p.closing);
      whole = omega (arith, left, short, fits, end);
      before = λ a h.
          by_less a (others ++ behind) t (tag_stays less behind t tagged)
          ∙ ap (λ (w : Shape). Some w) (opened_shape t p.name all (p.last ++ behind) p.paired p.opens found)
          ∙ ap (λ (gs : List Glyph). Some (record { kind = kind.Pair; opening = t.len; inside = length gs - length (p.last ++ behind); closing = len_of (tag_at (p.last ++ behind)); trail = 0 })) cut
          ∙ ap₂ (λ (n m : ℕ). Some (record { kind = kind.Pair; opening = t.len; inside = n; closing = m; trail = 0 })) size_of (ap len_of tag);
    }

tag_stands : (word : Bool) (own behind : List Glyph) → IsTagNode own → IsOpenBefore own behind → Holds word own behind
tag_stands word own behind n unclosed = subst (λ gs. Holds word gs behind) (sym n.is) (elim n.ends [
  | inl whole ↦
      let less : List Glyph = glyph.Byte 60 ∷ n.others in
      let all : IsOpenBy (tag_at less) (length less) behind = subst (λ gs. IsOpenBefore gs behind) n.is unclosed in
      whole_stands word n.named n.others behind n.tagged whole (subst (λ (o : Option Tag). IsOpenBy o (length less) behind) n.tagged all whole)
  | inr pair ↦ pair_stands word n.named n.others behind n.tagged pair
])

category_stands : (word : Bool) (own behind : List Glyph) → IsCategoryNode own → Holds word own behind
category_stands word own behind n =
    let two : List Glyph = glyph.Byte 91 ∷ glyph.Byte 91 ∷ n.inside in
    subst (λ gs. Holds word gs behind) (sym n.is)
    (record {
      shape = n.shape;
      alone = as_link false two n.shape n.link;
      whole = n.whole ∙ ap length n.is;
      before = λ a h.
          as_link a (two ++ behind) n.shape
          (category_stays (glyph.Byte 91) (glyph.Byte 91) n.inside behind n.shape n.category (two_fit n.shape own n.inside n.is n.whole) n.link);
    })

media_stands : (word : Bool) (own behind : List Glyph) → IsMediaNode own → Holds word own behind
media_stands word own behind n =
    let two : List Glyph = glyph.Byte 91 ∷ glyph.Byte 91 ∷ n.inside in
    subst (λ gs. Holds word gs behind) (sym n.is)
    (record {
      shape = n.shape;
      alone = as_link false two n.shape n.link;
      whole = n.whole ∙ ap length n.is;
      before = λ a h.
          as_link a (two ++ behind) n.shape
          (media_stays (glyph.Byte 91) (glyph.Byte 91) n.name_len n.inside behind n.shape n.media (two_fit n.shape own n.inside n.is n.whole) n.link);
    })

other_stands : (word : Bool) (own behind : List Glyph) → IsOneLexeme own ⊎ (IsTagNode own ⊎ (IsCategoryNode own ⊎ IsMediaNode own)) → IsOpenBefore own behind
    → Holds word own behind
other_stands word own behind n unclosed = elim n [
  | inl one ↦ one_stands word own behind one
  | inr other ↦ elim other [
    | inl tag ↦ tag_stands word own behind tag unclosed
    | inr link ↦ elim link [
      | inl category ↦ category_stands word own behind category
      | inr media ↦ media_stands word own behind media
    ]
  ]
]

-- ---- style delimiters

apostrophe : (gs : List Glyph) → form_at in_line false (glyph.Byte 39 ∷ gs) ≡ None
apostrophe gs = no_form in_line false 39 gs refl

delimiter_stands : (word : Bool) (own behind : List Glyph) → IsDelimiter own → Stands in_line word own behind
delimiter_stands word own behind n = elim n [
  | inl i ↦ subst (λ o. StandsAs o in_line word own behind) (sym (ap (own_form in_line) i ∙ apostrophe (glyph.Byte 39 ∷ []))) (inl i)
  | inr i ↦ subst (λ o. StandsAs o in_line word own behind) (sym (ap (own_form in_line) i ∙ apostrophe (glyph.Byte 39 ∷ glyph.Byte 39 ∷ []))) (inr i)
]

pub node_stands : (r : Role) (word : Bool) (own behind : List Glyph) → IsNode r own → MayFollow r own behind → MayLead r word → IsOpenBefore own behind
    → Stands in_line word own behind
node_stands Link word own behind n f l unclosed = holding word own behind (link_stands word own behind n f)
node_stands External word own behind n f l unclosed = holding word own behind (external_stands word own behind n)
node_stands (Bare ends) word own behind n f l unclosed = holding word own behind (bare_stands ends word own behind n f l)
node_stands Switch word own behind n f l unclosed = holding word own behind (switch_stands word own behind n)
node_stands Toggle word own behind n f l unclosed = delimiter_stands word own behind n
node_stands (Mark ends began) word own behind n f l unclosed = holding word own behind (mark_stands word own behind n)
node_stands (Group g) word own behind n f l unclosed = absurd n
node_stands Function word own behind n f l unclosed = holding word own behind (one_stands word own behind n)
node_stands Node word own behind n f l unclosed = holding word own behind (other_stands word own behind n unclosed)
