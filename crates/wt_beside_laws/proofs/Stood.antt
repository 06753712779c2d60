-- A node that is read in the page as a form which takes all of its items is a node that stays.
use Rattle.std.proofs.Common.{arith, ◌≡◌, ℕ, suc, ◌+◌, ◌<◌, ◌-◌, ◌≤◌, ◌==◌, Bool, true, false, Option, Some, None, List, [], ◌∷◌, ◌++◌, length, take, drop, refl, sym, ap, ◌∙◌, subst, inl, inr, ◌⊎◌}
use Rattle.std.specs.Prelude.{◌&&◌, codes, option_map}
use Rattle.std.specs.Option.{option_or}
use Rattle.std.proofs.lemmas.Bool.Decides.{nat_tests}
use Rattle.std.proofs.lemmas.List.{append_assoc, drop-append-le, length-append, length-drop, length-take, take-append-drop}
use Rattle.wt_span.specs.declared.tag_name.TagName.{TagName}
use Rattle.wt_guards.specs.declared.role.Role.{Role}
use Rattle.wt_guards.specs.declared.role.Role.TheVariants.{Link, External, Bare, Switch, Toggle, Mark, Group, Function, Node}
use Rattle.wt_tiles.specs.declared.glyph.Glyph.{Glyph}
use Rattle.wt_tiles.specs.declared.glyph.Glyph.TheVariants as glyph
use Rattle.wt_tiles.specs.declared.glyph.GlyphClass.TheVariants as class
use Rattle.wt_tiles.specs.declared.shape.Shape.{Shape}
use Rattle.wt_tiles.specs.declared.shape.TileKind.{TileKind}
use Rattle.wt_tiles.specs.declared.shape.TileKind.TheVariants as kind
use Rattle.wt_tiles.specs.declared.tag.Name.{Name}
use Rattle.wt_tiles.specs.declared.tag.Name.TheVariants.{Paired, Break, Island}
use Rattle.wt_tiles.specs.declared.tag.TagShape.{TagShape}
use Rattle.wt_tiles.specs.declared.tag.TagShape.TheVariants.{Opening, Alone, Closing}
use Rattle.wt_tiles.specs.declared.tag.Tag.{Tag}
use Rattle.wt_tiles.specs.declared.target.LinkKind.{LinkKind}
use Rattle.wt_tiles.specs.declared.target.LinkKind.TheVariants.{Page, Category, Media}
use Rattle.wt_tiles.specs.declared.target.Target.{Target}
use Rattle.wt_tiles.specs.Contexts.{in_line}
use Rattle.wt_tiles.specs.Glyphs.{in_class, is_in, first_is, begins}
use Rattle.wt_tiles.specs.Links.{leaf, target_of, kind_of, target_len, inner_len, has_pipe, head_len, link_shape, link_with, link_to, link_by, link_in, link_at}
use Rattle.wt_tiles.specs.Tags.{tag_at}
use Rattle.wt_tiles.specs.Partners.{number, partner}
use Rattle.wt_tiles.specs.Tiles.{size, len_of, closing_for, pair_or_island, shape_of_tag, tag_tile, switch_at, link_or_url, form_at}
use Rattle.wt_tiles.specs.Urls.{scheme_len, ext_link_at, bare_url_at}
use Rattle.wt_tiles.proofs.TagInsides.{no_tag}
use Rattle.wt_beside_laws.specs.Cuts.{form_before}
use Rattle.wt_beside_laws.specs.Nodes.{is_quote_last, IsLinkNode, IsCategoryNode, IsMediaNode, IsExternalNode, IsBareNode, IsSwitchNode, IsOneLexeme, IsTagNode, IsAllOf, IsLone, IsNode, MayLead}
use Rattle.wt_beside_laws.specs.Stood.{EndsUrl, IsTileOf, IsRead, HasBehind}
use Rattle.wt_beside_laws.specs.StyledNodes.{EndsUnquoted}
use Rattle.wt_beside_laws.specs.Tiles.{IsPlainKind, IsCategoryKind, IsMediaKind, LeadsBy, AimsBy, IsPlainLink, IsCategoryLink}
use Rattle.wt_beside_laws.proofs.LinkFronts.{link_tile, JoinsNone, LinkFront, in_front}
use Rattle.wt_beside_laws.proofs.LinkTiles.{if_some, with_made, same_shape}
use Rattle.wt_beside_laws.proofs.NodesStand.{lone_size}
use Rattle.wt_beside_laws.proofs.PairTiles.{HasTag, partner_short, partner_front, partner_tag}
use Rattle.wt_beside_laws.proofs.TagFronts.{byte_is, tag_front, tag_some, switch_front}
use Rattle.wt_beside_laws.proofs.TagTiles.{both_true, tag_stays}
use Rattle.wt_beside_laws.proofs.UrlFronts.{ExtFront, ext_front, external_tile, bare_front, bare_tile}

-- ---- the form that is the first of several

data FormOf (a : Bool) (gs : List Glyph) (w : Shape) : Type 0 where
  of_link : link_at gs ≡ Some w → FormOf a gs w
  of_external : ext_link_at gs ≡ Some w → FormOf a gs w
  of_bare : bare_url_at a gs ≡ Some w → FormOf a gs w
  of_tag : (t : Tag) → tag_at gs ≡ Some t → shape_of_tag 0 t.name t.shape t.len gs ≡ w → FormOf a gs w
  of_switch : switch_at gs ≡ Some w → FormOf a gs w

tag_or_switch : (a : Bool) (gs : List Glyph) (w : Shape) (o : Option Tag) → tag_at gs ≡ o
    → option_or (option_map (λ (t : Tag). shape_of_tag 0 t.name t.shape t.len gs) o) (switch_at gs) ≡ Some w → FormOf a gs w
tag_or_switch a gs w (Some t) e is = of_tag t e (same_shape (shape_of_tag 0 t.name t.shape t.len gs) w is)
tag_or_switch a gs w None e is = of_switch is

after_urls : (a : Bool) (gs : List Glyph) (w : Shape) (o : Option Shape) → bare_url_at a gs ≡ o
    → option_or o (option_or (tag_tile 0 gs) (switch_at gs)) ≡ Some w → FormOf a gs w
unfolding tag_tile
after_urls a gs w (Some u) e is = of_bare (e ∙ is)
after_urls a gs w None e is = tag_or_switch a gs w (tag_at gs) refl is

after_external : (a : Bool) (gs : List Glyph) (w : Shape) (o : Option Shape) → ext_link_at gs ≡ o
    → option_or (option_or o (bare_url_at a gs)) (option_or (tag_tile 0 gs) (switch_at gs)) ≡ Some w → FormOf a gs w
after_external a gs w (Some u) e is = of_external (e ∙ is)
after_external a gs w None e is = after_urls a gs w (bare_url_at a gs) refl is

after_link : (a : Bool) (gs : List Glyph) (w : Shape) (o : Option Shape) → link_at gs ≡ o
    → option_or (option_or o (option_or (ext_link_at gs) (bare_url_at a gs))) (option_or (tag_tile 0 gs) (switch_at gs)) ≡ Some w → FormOf a gs w
after_link a gs w (Some u) e is = of_link (e ∙ is)
after_link a gs w None e is = after_external a gs w (ext_link_at gs) refl is

form_of : (a : Bool) (gs : List Glyph) (w : Shape) → form_at in_line a gs ≡ Some w → FormOf a gs w
unfolding form_at link_or_url
form_of a gs w e = after_link a gs w (link_at gs) refl e

-- ---- what is shown

pub record Stays (a : Bool) (r : Role) (own behind : List Glyph) : Type 0 where
  pub node : IsNode r own
  pub lead : MayLead r a
  pub has : HasBehind r behind
  pub unquoted : first_is (class.Only 39) behind ≡ true → EndsUnquoted r own

-- ---- links

shape_long : (k : LinkKind) (head i : ℕ) (gs : List Glyph) → 4 ≤ size (link_shape k head i gs)
shape_long Page head i gs = omega arith
shape_long Category head i gs = omega arith
shape_long Media head i gs = omega arith

with_long : (t : Target) (n : ℕ) (o : Option ℕ) (gs : List Glyph) (w : Shape) → link_with t n o gs ≡ Some w → 4 ≤ size w
with_long t n None gs w e = cc
with_long t n (Some i) gs w e =
    let m = with_made (has_pipe n gs && i == n + 1) (link_shape (kind_of t) (head_len t.colon n gs) i gs) w e in
    let is : size (link_shape (kind_of t) (head_len t.colon n gs) i gs) ≡ size w = ap size m.1 in
    let le : 4 ≤ size (link_shape (kind_of t) (head_len t.colon n gs) i gs) = shape_long (kind_of t) (head_len t.colon n gs) i gs in
    omega (arith, is, le)

to_long : (o : Option Target) (n : ℕ) (gs : List Glyph) (w : Shape) → link_to o n gs ≡ Some w → 4 ≤ size w
to_long None n gs w e = cc
to_long (Some t) n gs w e = with_long t n (inner_len (kind_of t) n gs) gs w e

by_long : (o : Option ℕ) (gs : List Glyph) (w : Shape) → link_by o gs ≡ Some w → 4 ≤ size w
by_long None gs w e = cc
by_long (Some n) gs w e = to_long (target_of (take n gs)) n gs w e

link_long : (gs : List Glyph) (w : Shape) → link_in gs ≡ Some w → 4 ≤ size w
unfolding link_in
link_long gs w e = by_long (target_len gs) gs w e

abbrev two_brackets : List Glyph → List Glyph
two_brackets gs = glyph.Byte 91 ∷ glyph.Byte 91 ∷ gs

aims : (P : LinkKind → Type 0) (inside rest : List Glyph) (w : Shape) (f : LinkFront inside rest w) → P (kind_of f.t) → AimsBy P (target_len inside) inside
aims P inside rest w f h =
    subst (λ (o : Option ℕ). AimsBy P o inside) (sym f.target) (subst (λ (o : Option Target). LeadsBy P o) (sym f.is) h)

leads : (P : LinkKind → Type 0) (inside rest : List Glyph) (w : Shape) (f : LinkFront inside rest w) → P (kind_of f.t) → LeadsBy P (target_of (take f.n inside))
leads P inside rest w f h = subst (λ (o : Option Target). LeadsBy P o) (sym f.is) h

-- it begins with its two brackets
begun : (inside : List Glyph) (w : Shape) → link_in inside ≡ Some w → link_at (two_brackets inside) ≡ Some w
unfolding link_at
begun inside w e = e

page_node : (inside behind : List Glyph) (w : Shape) → LinkFront inside behind w → IsPlainLink inside → size w ≡ 2 + length inside → IsLinkNode (two_brackets inside)
page_node inside behind w f plain whole = record { shape = w; inside = inside; is = refl; plain = plain; link = begun inside w f.link; whole = omega (arith, whole) }

category_node : (inside behind : List Glyph) (w : Shape) → LinkFront inside behind w → IsCategoryLink inside → size w ≡ 2 + length inside → IsCategoryNode (two_brackets inside)
category_node inside behind w f category whole =
    record { shape = w; inside = inside; is = refl; category = category; link = begun inside w f.link; whole = omega (arith, whole) }

media_node : (inside behind : List Glyph) (w : Shape) (f : LinkFront inside behind w) → IsMediaKind (kind_of f.t) → size w ≡ 2 + length inside → IsMediaNode (two_brackets inside)
media_node inside behind w f media whole =
    record {
      shape = w;
      inside = inside;
      is = refl;
      name_len = f.n;
      media = record { target = f.target; kind = leads IsMediaKind inside behind w f media; fits = f.fits };
      link = begun inside w f.link;
      whole = omega (arith, whole);
    }

abbrev LinkStays : Bool → Role → List Glyph → List Glyph → LinkKind → Type 0
LinkStays a r inside behind k = IsTileOf r (link_tile k) → JoinsNone k behind → Stays a r (two_brackets inside) behind

page_stays : (a : Bool) (r : Role) (inside behind : List Glyph) → IsLinkNode (two_brackets inside) → LinkStays a r inside behind Page
page_stays a Link inside behind n tile alone = record { node = n; lead = tt; has = alone; unquoted = λ q. tt }
page_stays a External inside behind n tile alone = cc
page_stays a (Bare ends) inside behind n tile alone = cc
page_stays a Switch inside behind n tile alone = cc
page_stays a Toggle inside behind n tile alone = absurd tile
page_stays a (Mark ends began) inside behind n tile alone = cc
page_stays a (Group g) inside behind n tile alone = absurd tile
page_stays a Function inside behind n tile alone = cc
page_stays a Node inside behind n tile alone = absurd tile

category_stays : (a : Bool) (r : Role) (inside behind : List Glyph) → IsCategoryNode (two_brackets inside) → LinkStays a r inside behind Category
category_stays a Link inside behind n tile alone = cc
category_stays a External inside behind n tile alone = cc
category_stays a (Bare ends) inside behind n tile alone = cc
category_stays a Switch inside behind n tile alone = cc
category_stays a Toggle inside behind n tile alone = absurd tile
category_stays a (Mark ends began) inside behind n tile alone = cc
category_stays a (Group g) inside behind n tile alone = absurd tile
category_stays a Function inside behind n tile alone = cc
category_stays a Node inside behind n tile alone = record { node = inr (inr (inl n)); lead = tt; has = tt; unquoted = λ q. tt }

media_stays : (a : Bool) (r : Role) (inside behind : List Glyph) → IsMediaNode (two_brackets inside) → LinkStays a r inside behind Media
media_stays a Link inside behind n tile alone = cc
media_stays a External inside behind n tile alone = cc
media_stays a (Bare ends) inside behind n tile alone = cc
media_stays a Switch inside behind n tile alone = cc
media_stays a Toggle inside behind n tile alone = absurd tile
media_stays a (Mark ends began) inside behind n tile alone = cc
media_stays a (Group g) inside behind n tile alone = absurd tile
media_stays a Function inside behind n tile alone = cc
media_stays a Node inside behind n tile alone = record { node = inr (inr (inr n)); lead = tt; has = tt; unquoted = λ q. tt }

by_kind : (k : LinkKind) (a : Bool) (r : Role) (inside behind : List Glyph) (w : Shape) (f : LinkFront inside behind w) → kind_of f.t ≡ k → size w ≡ 2 + length inside
    → LinkStays a r inside behind k
by_kind Page a r inside behind w f e whole =
    page_stays a r inside behind (page_node inside behind w f (aims IsPlainKind inside behind w f (subst IsPlainKind (sym e) tt)) whole)
by_kind Category a r inside behind w f e whole =
    category_stays a r inside behind (category_node inside behind w f (aims IsCategoryKind inside behind w f (subst IsCategoryKind (sym e) tt)) whole)
by_kind Media a r inside behind w f e whole =
    media_stays a r inside behind (media_node inside behind w f (subst IsMediaKind (sym e) tt) whole)

in_stays : (a : Bool) (r : Role) (inside behind : List Glyph) (w : Shape) → link_in (inside ++ behind) ≡ Some w → size w ≡ 2 + length inside → IsTileOf r w.kind
    → Stays a r (two_brackets inside) behind
in_stays a r inside behind w e whole tile =
    let f = in_front inside behind w e whole in
    by_kind (kind_of f.t) a r inside behind w f refl whole (subst (IsTileOf r) f.tile tile) f.alone

link_stays : (a : Bool) (r : Role) (own behind : List Glyph) (w : Shape) → link_at (own ++ behind) ≡ Some w → size w ≡ length own → 1 ≤ length own → IsTileOf r w.kind
    → Stays a r own behind
unfolding link_at
link_stays a r [] behind w e whole some tile = absurd (omega (arith, some))
link_stays a r (g ∷ []) behind w e whole some tile =
    let s = if_some (begins (codes "[[") (g ∷ behind)) (link_in (drop 1 behind)) w e in
    let long : 4 ≤ size w = link_long (drop 1 behind) w s.1 in
    absurd (omega (arith, long, whole))
link_stays a r (g ∷ h ∷ inside) behind w e whole some tile =
    let s = if_some (begins (codes "[[") (g ∷ h ∷ inside)) (link_in (inside ++ behind)) w e in
    let c = both_true (is_in (λ (b : ℕ). b == 91) g) (is_in (λ (b : ℕ). b == 91) h && true) s.0 in
    let d = both_true (is_in (λ (b : ℕ). b == 91) h) true c.1 in
    let own : glyph.Byte 91 ∷ glyph.Byte 91 ∷ inside ≡ g ∷ h ∷ inside =
    sym (ap (λ (x : Glyph). x ∷ h ∷ inside) (byte_is 91 g c.0) ∙ ap (λ (x : Glyph). glyph.Byte 91 ∷ x ∷ inside) (byte_is 91 h d.0)) in
    subst (λ gs. Stays a r gs behind) own (in_stays a r inside behind w s.1 (omega (arith, whole)) tile)

-- ---- external links

no_scheme : (gs : List Glyph) → scheme_len (glyph.Byte 91 ∷ gs) ≡ 0
unfolding scheme_len
no_scheme gs = refl

url_begun : (hs : List Glyph) → 1 ≤ scheme_len hs → first_is (class.Only 91) hs ≡ false
url_begun [] le = refl
url_begun (g ∷ gs) le = begun_by (in_class (class.Only 91) g) refl
  where
    begun_by : (v : Bool) → in_class (class.Only 91) g ≡ v → in_class (class.Only 91) g ≡ false
    begun_by true e =
        let is : g ≡ glyph.Byte 91 = byte_is 91 g e in
        let none : scheme_len (g ∷ gs) ≡ 0 = ap (λ (x : Glyph). scheme_len (x ∷ gs)) is ∙ no_scheme gs in
        absurd (omega (arith, le, none))
    begun_by false e = e

external_node : (g : Glyph) (inside : List Glyph) (w : Shape) → ExtFront g inside w → size w ≡ 1 + length inside → IsExternalNode (g ∷ inside)
external_node g inside w f whole =
    let is : g ≡ glyph.Byte 91 = byte_is 91 g f.bracket in
    record {
      shape = w;
      inside = inside;
      is = ap (λ (x : Glyph). x ∷ inside) is;
      single = url_begun inside f.begun;
      link = ap (λ (x : Glyph). ext_link_at (x ∷ inside)) (sym is) ∙ f.link;
      whole = omega (arith, whole);
    }

external_kind : (a : Bool) (r : Role) (own behind : List Glyph) → IsExternalNode own → IsTileOf r kind.ExtLink → Stays a r own behind
external_kind a Link own behind n tile = cc
external_kind a External own behind n tile = record { node = n; lead = tt; has = tt; unquoted = λ q. tt }
external_kind a (Bare ends) own behind n tile = cc
external_kind a Switch own behind n tile = cc
external_kind a Toggle own behind n tile = absurd tile
external_kind a (Mark ends began) own behind n tile = cc
external_kind a (Group g) own behind n tile = absurd tile
external_kind a Function own behind n tile = cc
external_kind a Node own behind n tile = absurd tile

external_stays : (a : Bool) (r : Role) (own behind : List Glyph) (w : Shape) → ext_link_at (own ++ behind) ≡ Some w → size w ≡ length own → 1 ≤ length own → IsTileOf r w.kind
    → Stays a r own behind
external_stays a r [] behind w e whole some tile = absurd (omega (arith, some))
external_stays a r (g ∷ inside) behind w e whole some tile =
    let long : size w ≡ 1 + length inside = omega (arith, whole) in
    external_kind a r (g ∷ inside) behind (external_node g inside w (ext_front g inside behind w long e) long)
    (subst (IsTileOf r) (external_tile (g ∷ (inside ++ behind)) w e) tile)

-- ---- bare URLs

no_bracket_url : (gs : List Glyph) → bare_url_at false (glyph.Byte 91 ∷ gs) ≡ None
unfolding bare_url_at scheme_len
no_bracket_url gs = refl

unbracketed : (b : ℕ) (gs : List Glyph) (w : Shape) → bare_url_at false (glyph.Byte b ∷ gs) ≡ Some w → (b == 91) ≡ false
unbracketed b gs w e = by (b == 91) refl
  where
    by : (v : Bool) → (b == 91) ≡ v → (b == 91) ≡ false
    by true i =
        let is : b ≡ 91 = grind (arith, nat_tests, i) in
        let none : None ≡ Some w = sym (no_bracket_url gs) ∙ ap (λ (c : ℕ). bare_url_at false (glyph.Byte c ∷ gs)) (sym is) ∙ e in cc
    by false i = i

bare_kinds : (a : Bool) (r : Role) (own behind : List Glyph) → IsBareNode own → a ≡ false → EndsUrl behind
    → (first_is (class.Only 39) behind ≡ true → is_quote_last own ≡ false) → IsTileOf r kind.BareUrl → Stays a r own behind
bare_kinds a Link own behind n e ends q tile = cc
bare_kinds a External own behind n e ends q tile = cc
bare_kinds a (Bare last) own behind n e ends q tile = record { node = n; lead = e; has = ends; unquoted = q }
bare_kinds a Switch own behind n e ends q tile = cc
bare_kinds a Toggle own behind n e ends q tile = absurd tile
bare_kinds a (Mark last began) own behind n e ends q tile = cc
bare_kinds a (Group g) own behind n e ends q tile = absurd tile
bare_kinds a Function own behind n e ends q tile = cc
bare_kinds a Node own behind n e ends q tile = absurd tile

bare_stays : (a : Bool) (r : Role) (b : ℕ) (gs behind : List Glyph) (w : Shape) → bare_url_at a (glyph.Byte b ∷ (gs ++ behind)) ≡ Some w → size w ≡ suc (length gs)
    → IsTileOf r w.kind → Stays a r (glyph.Byte b ∷ gs) behind
bare_stays a r b gs behind w e whole tile =
    let f = bare_front a (glyph.Byte b ∷ gs) behind w (omega (arith, whole)) e in
    let url : bare_url_at false (glyph.Byte b ∷ gs) ≡ Some w = f.1.url in
    bare_kinds a r (glyph.Byte b ∷ gs) behind
    (record { shape = w; first = b; others = gs; is = refl; unbracketed = unbracketed b gs w url; url = url; whole = omega (arith, whole) })
    f.0 f.1.ends f.1.unquoted (subst (IsTileOf r) (bare_tile a (glyph.Byte b ∷ (gs ++ behind)) w e) tile)

-- ---- tags

-- of the tiles that tags make
abbrev IsTagTile : TileKind → Type 0
IsTagTile kind.Chars = ⊥
IsTagTile kind.Mark = ⊥
IsTagTile kind.Atom = ⊥
IsTagTile kind.Link = ⊥
IsTagTile kind.Category = ⊥
IsTagTile kind.Media = ⊥
IsTagTile kind.ExtLink = ⊥
IsTagTile kind.BareUrl = ⊥
IsTagTile kind.Br = Unit {0}
IsTagTile kind.Pair = Unit {0}
IsTagTile kind.TagIsland = Unit {0}
IsTagTile kind.Switch = ⊥

tag_kinds : (a : Bool) (r : Role) (own behind : List Glyph) (k : TileKind) → IsTagNode own → IsTagTile k → IsTileOf r k → Stays a r own behind
tag_kinds a Link own behind k n is tile = absurd (subst IsTagTile tile is)
tag_kinds a External own behind k n is tile = absurd (subst IsTagTile tile is)
tag_kinds a (Bare ends) own behind k n is tile = absurd (subst IsTagTile tile is)
tag_kinds a Switch own behind k n is tile = absurd (subst IsTagTile tile is)
tag_kinds a Toggle own behind k n is tile = absurd tile
tag_kinds a (Mark ends began) own behind k n is tile = absurd (subst IsTagTile tile is)
tag_kinds a (Group g) own behind k n is tile = absurd tile
tag_kinds a Function own behind k n is tile = absurd (subst IsTagTile tile is)
tag_kinds a Node own behind k n is tile = record { node = inr (inl n); lead = tt; has = tt; unquoted = λ q. tt }

lone_tile : (m : Name) (h : TagShape) (n : ℕ) (gs : List Glyph) → IsLone m h → IsTagTile ((shape_of_tag 0 m h n gs).kind)
lone_tile (Paired m) Opening n gs l = absurd l
lone_tile (Paired m) Alone n gs l = tt
lone_tile (Paired m) Closing n gs l = tt
lone_tile Break Opening n gs l = tt
lone_tile Break Alone n gs l = tt
lone_tile Break Closing n gs l = tt
lone_tile Island h n gs l = tt

-- a lone tag, or what begins a pair, or would
abbrev Opens : Name → TagShape → Type 0
Opens (Paired m) Opening = Unit {0}
Opens (Paired m) Alone = ⊥
Opens (Paired m) Closing = ⊥
Opens Break h = ⊥
Opens Island h = ⊥

lone_or_opens : (m : Name) (h : TagShape) → IsLone m h ⊎ Opens m h
lone_or_opens (Paired m) Opening = inr tt
lone_or_opens (Paired m) Alone = inl tt
lone_or_opens (Paired m) Closing = inl tt
lone_or_opens Break h = inl tt
lone_or_opens Island h = inl tt

-- of a tag that opens a pair: the pair, or the tag as an island
record IsOpened (t : Tag) (gs : List Glyph) : Type 0 where
  name : TagName
  paired : t.name ≡ Paired name
  opens : t.shape ≡ Opening
  shape : (o : Option (List Glyph)) → closing_for 0 name t.len gs ≡ o → shape_of_tag 0 t.name t.shape t.len gs ≡ pair_or_island t.len o gs

opened_by : (t : Tag) (m : Name) (h : TagShape) (gs : List Glyph) → t.name ≡ m → t.shape ≡ h → Opens m h → IsOpened t gs
opened_by t (Paired k) Opening gs e f o = record {
  name = k;
  paired = e;
  opens = f;
  shape = λ c i.
      ap (λ (m : Name). shape_of_tag 0 m t.shape t.len gs) e
      ∙ ap (λ (h : TagShape). shape_of_tag 0 (Paired k) h t.len gs) f
      ∙ ap (λ (c : Option (List Glyph)). pair_or_island t.len c gs) i;
}
opened_by t (Paired k) Alone gs e f o = absurd o
opened_by t (Paired k) Closing gs e f o = absurd o
opened_by t Break h gs e f o = absurd o
opened_by t Island h gs e f o = absurd o

less_first : (b : ℕ) (gs : List Glyph) (t : Tag) → tag_at (glyph.Byte b ∷ gs) ≡ Some t → b ≡ 60
less_first b gs t e = by (b == 60) refl
  where
    by : (v : Bool) → (b == 60) ≡ v → b ≡ 60
    by true i = grind (arith, nat_tests, i)
    by false i = let none : None ≡ Some t = sym (no_tag (glyph.Byte b ∷ gs) i) ∙ e in cc

tag_node : (b : ℕ) (gs : List Glyph) (t : Tag) → tag_at (glyph.Byte b ∷ gs) ≡ Some t → IsAllOf t (glyph.Byte b ∷ gs) → IsTagNode (glyph.Byte b ∷ gs)
tag_node b gs t e all =
    let is : b ≡ 60 = less_first b gs t e in
    record {
      named = t;
      others = gs;
      is = ap (λ (c : ℕ). glyph.Byte c ∷ gs) is;
      tagged = ap (λ (c : ℕ). tag_at (glyph.Byte c ∷ gs)) (sym is) ∙ e;
      ends = subst (λ (c : ℕ). IsAllOf t (glyph.Byte c ∷ gs)) is all;
    }

-- a tag that ends in the front is one of the front
tag_within : (own behind : List Glyph) (t : Tag) → tag_at (own ++ behind) ≡ Some t → t.len ≤ length own → tag_at own ≡ Some t
tag_within own behind t e le =
    let front : List Glyph = take t.len own in
    let back : List Glyph = drop t.len own in
    let all : front ++ back ≡ own = take-append-drop t.len own in
    let split : front ++ (back ++ behind) ≡ own ++ behind = sym (append_assoc front back behind) ∙ ap (λ (gs : List Glyph). gs ++ behind) all in
    let cut = length-take t.len own in
    let long : t.len ≡ length front = omega (arith, cut, le) in
    sym (ap tag_at all) ∙ tag_stays front back t (tag_front front (back ++ behind) t long (ap tag_at split ∙ e))

-- a pair that takes all of them, by the closing tag that is found
record PairFront (t : Tag) (m : TagName) (own : List Glyph) : Type 0 where
  last : List Glyph
  closing : partner (number m) 0 (drop t.len own) ≡ Some last
  ends : len_of (tag_at last) ≡ length last

found_tag : (o : Option Tag) → HasTag o → (c : Tag) × (o ≡ Some c)
found_tag None h = absurd h
found_tag (Some c) h = (c, refl)

pair_front : (t : Tag) (m : TagName) (own behind us : List Glyph) → t.len ≤ length own → partner (number m) 0 (drop t.len (own ++ behind)) ≡ Some us
    → t.len + (length (drop t.len (own ++ behind)) - length us) + len_of (tag_at us) ≡ length own → PairFront t m own
pair_front t m own behind us le e whole =
    let cut : drop t.len (own ++ behind) ≡ drop t.len own ++ behind = drop-append-le t.len own behind le in
    let found : partner (number m) 0 (drop t.len own ++ behind) ≡ Some us = ap (partner (number m) 0) (sym cut) ∙ e in
    let c = found_tag (tag_at us) (partner_tag (number m) 0 (drop t.len own ++ behind) us found) in
    let size_of : len_of (tag_at us) ≡ c.0.len = ap len_of c.1 in
    let short : length us ≤ length (drop t.len own ++ behind) = partner_short (number m) 0 (drop t.len own ++ behind) us found in
    let sum : length (drop t.len own ++ behind) ≡ length (drop t.len own) + length behind = length-append (drop t.len own) behind in
    let left : length (drop t.len own) ≡ length own - t.len = length-drop t.len own in
    let same : length (drop t.len (own ++ behind)) ≡ length (drop t.len own ++ behind) = ap length cut in
    let fits : c.0.len + length behind ≡ length us = omega (arith, whole, size_of, short, sum, left, same, le) in
    let some : 0 < c.0.len = tag_some us c.0 c.1 in
    let f = partner_front (number m) 0 (drop t.len own) behind us c.0 c.1 some fits found in
    let last : length us ≡ length f.0 + length behind = ap length f.2 ∙ length-append f.0 behind in
    let own_tag : tag_at f.0 ≡ Some c.0 = tag_front f.0 behind c.0 (omega (arith, fits, last)) (ap tag_at (sym f.2) ∙ c.1) in
    record { last = f.0; closing = f.1; ends = ap len_of own_tag ∙ omega (arith, fits, last) }

-- where the pair is looked for
for_partner : (m : TagName) (n : ℕ) (gs us : List Glyph) → closing_for 0 m n gs ≡ Some us → partner (number m) 0 (drop n gs) ≡ Some us
for_partner m n gs us e = e

-- the tag that opens a pair takes all of the items, or is an island
opened_stays : (a : Bool) (r : Role) (b : ℕ) (gs behind : List Glyph) (t : Tag) (w : Shape) (o : Option (List Glyph)) → tag_at (glyph.Byte b ∷ (gs ++ behind)) ≡ Some t
    → (p : IsOpened t (glyph.Byte b ∷ (gs ++ behind))) → closing_for 0 p.name t.len (glyph.Byte b ∷ (gs ++ behind)) ≡ o
    → pair_or_island t.len o (glyph.Byte b ∷ (gs ++ behind)) ≡ w → size w ≡ suc (length gs) → IsTileOf r w.kind → Stays a r (glyph.Byte b ∷ gs) behind
opened_stays a r b gs behind t w None e p c is whole tile =
    let own : List Glyph = glyph.Byte b ∷ gs in
    let large : size (leaf kind.TagIsland t.len) ≡ size w = ap size is in
    let len : t.len ≡ length own = omega (arith, large, whole) in
    tag_kinds a r own behind w.kind (tag_node b gs t (tag_front own behind t len e) (inl len)) (subst (λ (u : Shape). IsTagTile u.kind) is tt) tile
opened_stays a r b gs behind t w (Some us) e p c is whole tile =
    let own : List Glyph = glyph.Byte b ∷ gs in
    let all : List Glyph = glyph.Byte b ∷ (gs ++ behind) in
    let large : size (pair_or_island t.len (Some us) all) ≡ size w = ap size is in
    let sum : t.len + (length (drop t.len all) - length us) + len_of (tag_at us) ≡ length own = omega (arith, large, whole) in
    let le : t.len ≤ length own = omega (arith, sum) in
    let f = pair_front t p.name own behind us le (for_partner p.name t.len all us c) sum in
    tag_kinds a r own behind w.kind
    (tag_node b gs t (tag_within own behind t e le)
    (inr (record { name = p.name; paired = p.paired; opens = p.opens; last = f.last; closing = f.closing; ends = f.ends; within = le })))
    (subst (λ (u : Shape). IsTagTile u.kind) is tt) tile

tag_stays_so : (a : Bool) (r : Role) (b : ℕ) (gs behind : List Glyph) (t : Tag) (w : Shape) → tag_at (glyph.Byte b ∷ (gs ++ behind)) ≡ Some t
    → shape_of_tag 0 t.name t.shape t.len (glyph.Byte b ∷ (gs ++ behind)) ≡ w → size w ≡ suc (length gs) → IsTileOf r w.kind → Stays a r (glyph.Byte b ∷ gs) behind
tag_stays_so a r b gs behind t w e is whole tile =
    let own : List Glyph = glyph.Byte b ∷ gs in
    let all : List Glyph = glyph.Byte b ∷ (gs ++ behind) in
    elim (lone_or_opens t.name t.shape) [
      | inl l ↦ (
          let len : t.len ≡ length own = sym (lone_size t.name t.shape t.len all l) ∙ ap size is ∙ whole in
          tag_kinds a r own behind w.kind (tag_node b gs t (tag_front own behind t len e) (inl len))
          (subst (λ (u : Shape). IsTagTile u.kind) is (lone_tile t.name t.shape t.len all l)) tile
          )
      | inr o ↦ (
          let p : IsOpened t all = opened_by t t.name t.shape all refl refl o in
          opened_stays a r b gs behind t w (closing_for 0 p.name t.len all) e p refl (sym (p.shape (closing_for 0 p.name t.len all) refl) ∙ is) whole tile
          )
    ]

-- ---- switches

switch_kinds : (a : Bool) (r : Role) (own behind : List Glyph) → IsSwitchNode own → IsTileOf r kind.Switch → Stays a r own behind
switch_kinds a Link own behind n tile = cc
switch_kinds a External own behind n tile = cc
switch_kinds a (Bare ends) own behind n tile = cc
switch_kinds a Switch own behind n tile = record { node = n; lead = tt; has = tt; unquoted = λ q. tt }
switch_kinds a Toggle own behind n tile = absurd tile
switch_kinds a (Mark ends began) own behind n tile = cc
switch_kinds a (Group g) own behind n tile = absurd tile
switch_kinds a Function own behind n tile = cc
switch_kinds a Node own behind n tile = absurd tile

switch_stays : (a : Bool) (r : Role) (own behind : List Glyph) (w : Shape) → switch_at (own ++ behind) ≡ Some w → size w ≡ length own → IsTileOf r w.kind → Stays a r own behind
switch_stays a r own behind w e whole tile =
    let s = switch_front own behind w whole e in
    switch_kinds a r own behind s.0 (subst (IsTileOf r) s.1 tile)

-- ---- one lexeme

atom_kinds : (a : Bool) (r : Role) (own behind : List Glyph) → IsOneLexeme own → IsTileOf r kind.Atom → Stays a r own behind
atom_kinds a Link own behind n tile = cc
atom_kinds a External own behind n tile = cc
atom_kinds a (Bare ends) own behind n tile = cc
atom_kinds a Switch own behind n tile = cc
atom_kinds a Toggle own behind n tile = absurd tile
atom_kinds a (Mark ends began) own behind n tile = cc
atom_kinds a (Group g) own behind n tile = absurd tile
atom_kinds a Function own behind n tile = record { node = n; lead = tt; has = tt; unquoted = λ q. tt }
atom_kinds a Node own behind n tile = record { node = inl n; lead = tt; has = tt; unquoted = λ q. tt }

mark_kinds : (a : Bool) (r : Role) (own behind : List Glyph) → own ≡ glyph.Mark ∷ [] → IsTileOf r kind.Mark → Stays a r own behind
mark_kinds a Link own behind is tile = cc
mark_kinds a External own behind is tile = cc
mark_kinds a (Bare ends) own behind is tile = cc
mark_kinds a Switch own behind is tile = cc
mark_kinds a Toggle own behind is tile = absurd tile
mark_kinds a (Mark ends began) own behind is tile = record { node = is; lead = tt; has = tt; unquoted = λ q. tt }
mark_kinds a (Group g) own behind is tile = absurd tile
mark_kinds a Function own behind is tile = cc
mark_kinds a Node own behind is tile = absurd tile

-- a tile of one item is all of them
one_item : (k : TileKind) (g : Glyph) (gs : List Glyph) (w : Shape) → leaf k 1 ≡ w → size w ≡ suc (length gs) → g ∷ gs ≡ g ∷ []
one_item k g [] w e whole = refl
one_item k g (h ∷ gs) w e whole = let one : size (leaf k 1) ≡ size w = ap size e in absurd (omega (arith, one, whole))

-- ---- all of them

by_form : (a : Bool) (r : Role) (b : ℕ) (gs behind : List Glyph) (w : Shape) → FormOf a (glyph.Byte b ∷ (gs ++ behind)) w → size w ≡ suc (length gs) → IsTileOf r w.kind
    → Stays a r (glyph.Byte b ∷ gs) behind
by_form a r b gs behind w (of_link e) whole tile = link_stays a r (glyph.Byte b ∷ gs) behind w e whole (omega arith) tile
by_form a r b gs behind w (of_external e) whole tile = external_stays a r (glyph.Byte b ∷ gs) behind w e whole (omega arith) tile
by_form a r b gs behind w (of_bare e) whole tile = bare_stays a r b gs behind w e whole tile
by_form a r b gs behind w (of_tag t e is) whole tile = tag_stays_so a r b gs behind t w e is whole tile
by_form a r b gs behind w (of_switch e) whole tile = switch_stays a r (glyph.Byte b ∷ gs) behind w e whole tile

read_so : (a : Bool) (r : Role) (own behind : List Glyph) (w : Shape) → form_before in_line a own behind ≡ Some w → size w ≡ length own → IsTileOf r w.kind
    → Stays a r own behind
read_so a r [] behind w e whole tile = cc
read_so a r (glyph.Byte b ∷ gs) behind w e whole tile = by_form a r b gs behind w (form_of a (glyph.Byte b ∷ (gs ++ behind)) w e) whole tile
read_so a r (glyph.Entity c ∷ gs) behind w e whole tile =
    let is : leaf kind.Atom 1 ≡ w = same_shape (leaf kind.Atom 1) w e in
    atom_kinds a r (glyph.Entity c ∷ gs) behind (inr (c, one_item kind.Atom (glyph.Entity c) gs w is whole))
    (subst (λ (u : Shape). IsTileOf r u.kind) (sym is) tile)
read_so a r (glyph.Atom ∷ gs) behind w e whole tile =
    let is : leaf kind.Atom 1 ≡ w = same_shape (leaf kind.Atom 1) w e in
    atom_kinds a r (glyph.Atom ∷ gs) behind (inl (one_item kind.Atom glyph.Atom gs w is whole))
    (subst (λ (u : Shape). IsTileOf r u.kind) (sym is) tile)
read_so a r (glyph.Mark ∷ gs) behind w e whole tile =
    let is : leaf kind.Mark 1 ≡ w = same_shape (leaf kind.Mark 1) w e in
    mark_kinds a r (glyph.Mark ∷ gs) behind (one_item kind.Mark glyph.Mark gs w is whole) (subst (λ (u : Shape). IsTileOf r u.kind) (sym is) tile)

pub stood : (a : Bool) (r : Role) (own behind : List Glyph) → IsRead a r own behind → Stays a r own behind
stood a r own behind h = read_so a r own behind h.shape h.form h.whole h.tile
