-- The name that the element of a switch tells is one of a switch.
use Rattle.std.proofs.Common.{◌≡◌, ℕ, ◌+◌, ◌==◌, Bool, true, false, Option, Some, None, List, [], ◌∷◌, ◌++◌, length, map, take, drop, codes, IsUtf8, refl, sym, ap, ap₂, ◌∙◌, subst, arith, inl}
use Rattle.std.specs.Prelude.{◌&&◌, if◌then◌else◌, option_map}
use Rattle.std.specs.Option.{option_or}
use Rattle.std.specs.List.{list_all}
use Rattle.std.proofs.Math.Seq.{take-add}
use Rattle.std.proofs.lemmas.Bool.{eqb-true}
use Rattle.std.proofs.lemmas.List.{drop-map}
use Rattle.json.proofs.Printed.Utf8.{are_ascii, IsUtf8-are_ascii}
use Rattle.wt_span.specs.declared.form.ItemForm.{ItemForm}
use Rattle.wt_span.specs.declared.form.ItemForm.TheVariants as form
use Rattle.wt_span.specs.Items.{Item, char, whole, sources}
use Rattle.wt_tree.specs.declared.kind.Kind.TheVariants as node_kind
use Rattle.wt_tree.specs.declared.kind.AttrName.TheVariants as attr
use Rattle.wt_tree.specs.Kinds.{spelling}
use Rattle.wt_tree.specs.Values.{switch_prefix, is_switch, is_switch_name}
use Rattle.wt_tiles.specs.declared.context.Context.{Context}
use Rattle.wt_tiles.specs.declared.glyph.Glyph.{Glyph}
use Rattle.wt_tiles.specs.declared.glyph.Glyph.TheVariants as glyph
use Rattle.wt_tiles.specs.declared.shape.Shape.{Shape}
use Rattle.wt_tiles.specs.declared.shape.TileKind.{TileKind}
use Rattle.wt_tiles.specs.declared.shape.TileKind.TheVariants as kind
use Rattle.wt_tiles.specs.declared.tag.Name.{Name}
use Rattle.wt_tiles.specs.declared.tag.Name.TheVariants.{Paired, Break, Island}
use Rattle.wt_tiles.specs.declared.tag.Tag.{Tag}
use Rattle.wt_tiles.specs.declared.tag.TagShape.{TagShape}
use Rattle.wt_tiles.specs.declared.tag.TagShape.TheVariants.{Opening, Alone, Closing}
use Rattle.wt_tiles.specs.declared.target.LinkKind.{LinkKind}
use Rattle.wt_tiles.specs.declared.target.LinkKind.TheVariants as link_kind
use Rattle.wt_tiles.specs.declared.target.Target.{Target}
use Rattle.wt_tiles.specs.declared.glyph.GlyphClass.TheVariants as class
use Rattle.wt_tiles.specs.Glyphs.{glyph_of, glyph_of_form, is_in, begins, first_is, run_len}
use Rattle.wt_tiles.specs.Tags.{tag_at}
use Rattle.wt_tiles.specs.Links.{leaf, target_of, target_len, kind_of, has_pipe, inner_len, head_len, link_shape, link_with, link_to, link_by, link_in, link_at}
use Rattle.wt_tiles.specs.Urls.{scheme_len, url_items, kept_len, text_len, ext_shape, ext_link_after, ext_link_of, ext_link_at, bare_shape, bare_url_of, bare_url_at}
use Rattle.wt_tiles.specs.Tiles.{size, pair_or_island, closing_for, shape_of_tag, tag_tile, switch_names, switch_len, switch_at, outside, link_or_url, form_at}
use Rattle.wt_tiles.specs.Reading.{tile_at}
use Rattle.wt_tiles.proofs.Words.{and_left, and_right, false_true}
use Rattle.wt_attributes.proofs.Fronts.{some_same}
use Rattle.wt_schema.specs.Written.{HasAttributes}
use Rattle.wt_inline.proofs.HeldLaws.{sources_append}
use Rattle.wt_context.specs.Heads.{switch_names as told_names, switch_property}

-- ---- other forms are none

abbrev is_switch_kind : TileKind → Bool
is_switch_kind kind.Link = false
is_switch_kind kind.Category = false
is_switch_kind kind.Media = false
is_switch_kind kind.ExtLink = false
is_switch_kind kind.BareUrl = false
is_switch_kind kind.Br = false
is_switch_kind kind.Pair = false
is_switch_kind kind.TagIsland = false
is_switch_kind kind.Switch = true
is_switch_kind kind.Atom = false
is_switch_kind kind.Mark = false
is_switch_kind kind.Chars = false

abbrev IsOther : Option Shape → Type 0
IsOther None = Unit {0}
IsOther (Some w) = is_switch_kind w.kind ≡ false

then_other : (t : Bool) (o : Option Shape) → IsOther o → IsOther (if t then o else None)
then_other true o h = h
then_other false o h = tt

else_other : (t : Bool) (o : Option Shape) → IsOther o → IsOther (if t then None else o)
else_other true o h = tt
else_other false o h = h

or_other : (a b : Option Shape) → IsOther a → IsOther b → IsOther (option_or a b)
or_other None b h i = i
or_other (Some w) b h i = h

shape_other : (k : LinkKind) (head n : ℕ) (gs : List Glyph) → is_switch_kind (link_shape k head n gs).kind ≡ false
shape_other link_kind.Page head n gs = refl
shape_other link_kind.Category head n gs = refl
shape_other link_kind.Media head n gs = refl

with_other : (t : Target) (n : ℕ) (o : Option ℕ) (gs : List Glyph) → IsOther (link_with t n o gs)
with_other t n None gs = tt
with_other t n (Some k) gs = else_other (has_pipe n gs && (k == n + 1)) (Some (link_shape (kind_of t) (head_len t.colon n gs) k gs))
    (shape_other (kind_of t) (head_len t.colon n gs) k gs)

to_other : (o : Option Target) (n : ℕ) (gs : List Glyph) → IsOther (link_to o n gs)
to_other None n gs = tt
to_other (Some t) n gs = with_other t n (inner_len (kind_of t) n gs) gs

by_other : (o : Option ℕ) (gs : List Glyph) → IsOther (link_by o gs)
by_other None gs = tt
by_other (Some n) gs = to_other (target_of (take n gs)) n gs

in_other : (gs : List Glyph) → IsOther (link_in gs)
unfolding link_in
in_other gs = by_other (target_len gs) gs

link_other : (gs : List Glyph) → IsOther (link_at gs)
unfolding link_at
link_other gs = then_other (begins (codes "[[") gs) (link_in (drop 2 gs)) (in_other (drop 2 gs))

ext_map_other : (m : ℕ) (o : Option ℕ) → IsOther (option_map (ext_shape m) o)
ext_map_other m None = tt
ext_map_other m (Some k) = refl

ext_after_other : (n : ℕ) (gs : List Glyph) → IsOther (ext_link_after n gs)
ext_after_other n gs = let m : ℕ = n + run_len class.Blank (drop n gs) in ext_map_other m (text_len (drop m gs))

ext_of_other : (t : Bool) (scheme m : ℕ) (gs : List Glyph) → IsOther (if t then ext_link_after (1 + scheme + m) gs else None)
ext_of_other t scheme m gs = then_other t (ext_link_after (1 + scheme + m) gs) (ext_after_other (1 + scheme + m) gs)

ext_other : (gs : List Glyph) → IsOther (ext_link_at gs)
unfolding ext_link_at
ext_other gs = then_other (first_is (class.Only 91) gs) (ext_link_of (scheme_len (drop 1 gs)) (length (url_items (drop 1 gs))) gs)
    (ext_of_other _ (scheme_len (drop 1 gs)) (length (url_items (drop 1 gs))) gs)

bare_other : (after : Bool) (gs : List Glyph) → IsOther (bare_url_at after gs)
unfolding bare_url_at
bare_other after gs = else_other after (bare_url_of (scheme_len gs) (kept_len (url_items gs)))
    (then_other _ (Some (bare_shape (scheme_len gs + kept_len (url_items gs)))) refl)

pair_other : (n : ℕ) (o : Option (List Glyph)) (gs : List Glyph) → is_switch_kind (pair_or_island n o gs).kind ≡ false
pair_other n None gs = refl
pair_other n (Some rest) gs = refl

named_other : (pairs : ℕ) (m : Name) (s : TagShape) (n : ℕ) (gs : List Glyph) → is_switch_kind (shape_of_tag pairs m s n gs).kind ≡ false
named_other pairs (Paired m) Opening n gs = pair_other n (closing_for pairs m n gs) gs
named_other pairs (Paired m) Alone n gs = refl
named_other pairs (Paired m) Closing n gs = refl
named_other pairs Break Opening n gs = refl
named_other pairs Break Alone n gs = refl
named_other pairs Break Closing n gs = refl
named_other pairs Island s n gs = refl

tag_map_other : (pairs : ℕ) (gs : List Glyph) (o : Option Tag) → IsOther (option_map (λ t. shape_of_tag pairs t.name t.shape t.len gs) o)
tag_map_other pairs gs None = tt
tag_map_other pairs gs (Some t) = named_other pairs t.name t.shape t.len gs

tag_other : (pairs : ℕ) (gs : List Glyph) → IsOther (tag_tile pairs gs)
unfolding tag_tile
tag_other pairs gs = tag_map_other pairs gs (tag_at gs)

url_other : (after : Bool) (gs : List Glyph) → IsOther (link_or_url after gs)
unfolding link_or_url
url_other after gs = or_other (link_at gs) _ (link_other gs) (or_other (ext_link_at gs) (bare_url_at after gs) (ext_other gs) (bare_other after gs))

outside_other : (t : Bool) (o : Option Shape) → IsOther o → IsOther (outside t o)
outside_other true o h = tt
outside_other false o h = h

-- ---- a switch is a switch

past_other : (a b : Option Shape) (w : Shape) → IsOther a → is_switch_kind w.kind ≡ true → option_or a b ≡ Some w → b ≡ Some w
past_other None b w h k e = e
past_other (Some v) b w h k e = absurd (let f : v ≡ w = some_same v w e in let g : false ≡ true = sym h ∙ ap (λ (s : Shape). is_switch_kind s.kind) f ∙ k in cc)

none_switch : (k : TileKind) (w : Shape) → is_switch_kind k ≡ false → is_switch_kind w.kind ≡ true → Some (leaf k 1) ≡ Some w → ⊥
none_switch k w h i e = let f : leaf k 1 ≡ w = some_same (leaf k 1) w e in let g : false ≡ true = sym h ∙ ap (λ (s : Shape). is_switch_kind s.kind) f ∙ i in cc

form_switch : (cx : Context) (after : Bool) (gs : List Glyph) (w : Shape) → is_switch_kind w.kind ≡ true → form_at cx after gs ≡ Some w → switch_at gs ≡ Some w
unfolding form_at
form_switch cx after gs w k e =
    past_other (tag_tile cx.pairs gs) (switch_at gs) w (tag_other cx.pairs gs) k
    (past_other (outside cx.in_link (link_or_url after gs)) _ w (outside_other cx.in_link (link_or_url after gs) (url_other after gs)) k e)

tile_switch : (cx : Context) (after : Bool) (gs : List Glyph) (w : Shape) → is_switch_kind w.kind ≡ true → tile_at cx after gs ≡ Some w → switch_at gs ≡ Some w
tile_switch cx after [] w k e = cc
tile_switch cx after (glyph.Byte b ∷ gs) w k e = form_switch cx after (glyph.Byte b ∷ gs) w k e
tile_switch cx after (glyph.Entity c ∷ gs) w k e = absurd (none_switch kind.Atom w refl k e)
tile_switch cx after (glyph.Atom ∷ gs) w k e = absurd (none_switch kind.Atom w refl k e)
tile_switch cx after (glyph.Mark ∷ gs) w k e = absurd (none_switch kind.Mark w refl k e)

-- ---- its source

form_none : (p : ℕ → Bool) (f : ItemForm) → is_in p (glyph_of_form f) ≡ false
form_none p form.Chars = refl
form_none p (form.Entity c) = refl
form_none p form.Nowiki = refl
form_none p form.Extension = refl
form_none p form.Function = refl
form_none p form.Comment = refl
form_none p form.Include = refl
form_none p form.Hidden = refl
form_none p form.EmptyCall = refl

begins_source : (word : List ℕ) (xs : List Item) → begins word (map glyph_of xs) ≡ true → sources (take (length word) xs) ≡ word
begins_source [] xs e = refl
begins_source (b ∷ word) [] e = false_true e
begins_source (b ∷ word) (char o c ∷ xs) e =
    let f : c ≡ b = eqb-true c b (and_left (c == b) _ e) in
    ap₂ (λ x ys. x ∷ ys) f (begins_source word xs (and_right (c == b) _ e))
begins_source (b ∷ word) (whole f o bs ∷ xs) e = false_true (sym (form_none (λ c. c == b) f) ∙ and_left (is_in (λ c. c == b) (glyph_of_form f)) _ e)

abbrev is_told : List ℕ → Bool
is_told word = is_switch_name (switch_property (codes "__" ++ word)) && are_ascii (switch_property (codes "__" ++ word))

names_told : list_all is_told switch_names ≡ true
unfolding switch_names told_names switch_property switch_prefix is_switch
names_told = refl

-- so many items are one of the words
record IsWord (gs : List Glyph) (n : ℕ) : Type 0 where
  word : List ℕ
  told : is_told word ≡ true
  here : begins word gs ≡ true
  size : n ≡ length word

abbrev OptWord : List Glyph → Option ℕ → Type 0
OptWord gs None = Unit {0}
OptWord gs (Some n) = IsWord gs n

word_found : (words : List (List ℕ)) (gs : List Glyph) → list_all is_told words ≡ true → OptWord gs (switch_len words gs)
word_found [] gs h = tt
word_found (word ∷ words) gs h = by_test (begins word gs) refl (word_found words gs (and_right (is_told word) _ h))
  where
    by_test : (t : Bool) → begins word gs ≡ t → OptWord gs (switch_len words gs) → OptWord gs (if t then Some (length word) else switch_len words gs)
    by_test true e i = record { word = word; told = and_left (is_told word) _ h; here = e; size = refl }
    by_test false e i = i

record IsToldSwitch (xs : List Item) (w : Shape) : Type 0 where
  word : List ℕ
  told : is_told word ≡ true
  source : sources (take (size w) xs) ≡ codes "__" ++ word

leaf_told : (xs : List Item) (n : ℕ) → begins (codes "__") (map glyph_of xs) ≡ true → IsWord (drop 2 (map glyph_of xs)) n
    → IsToldSwitch xs (leaf kind.Switch (2 + n))
leaf_told xs n e h =
    let z : 2 + n + 0 + 0 + 0 ≡ 2 + length h.word = omega (arith, h.size) in
    let f : sources (take 2 xs) ≡ codes "__" = begins_source (codes "__") xs e in
    let g : sources (take (length h.word) (drop 2 xs)) ≡ h.word =
    begins_source h.word (drop 2 xs) (ap (begins h.word) (sym (drop-map glyph_of 2 xs)) ∙ h.here) in
    record {
      word = h.word;
      told = h.told;
      source = ap (λ m. sources (take m xs)) z ∙ ap sources (take-add 2 (length h.word) xs)
          ∙ sources_append (take 2 xs) (take (length h.word) (drop 2 xs)) ∙ ap₂ (λ bs cs. bs ++ cs) f g;
    }

map_told : (xs : List Item) (o : Option ℕ) (w : Shape) → begins (codes "__") (map glyph_of xs) ≡ true → OptWord (drop 2 (map glyph_of xs)) o
    → option_map (λ n. leaf kind.Switch (2 + n)) o ≡ Some w → IsToldSwitch xs w
map_told xs None w e h i = cc
map_told xs (Some n) w e h i = subst (IsToldSwitch xs) (some_same (leaf kind.Switch (2 + n)) w i) (leaf_told xs n e h)

switch_told : (xs : List Item) (w : Shape) → switch_at (map glyph_of xs) ≡ Some w → IsToldSwitch xs w
unfolding switch_at
switch_told xs w i = by_test (begins (codes "__") (map glyph_of xs)) refl i
  where
    by_test : (t : Bool) → begins (codes "__") (map glyph_of xs) ≡ t
        → (if t then option_map (λ n. leaf kind.Switch (2 + n)) (switch_len switch_names (drop 2 (map glyph_of xs))) else None) ≡ Some w → IsToldSwitch xs w
    by_test true e j = map_told xs (switch_len switch_names (drop 2 (map glyph_of xs))) w e (word_found switch_names (drop 2 (map glyph_of xs)) names_told) j
    by_test false e j = cc

told_has : (bs word : List ℕ) → bs ≡ codes "__" ++ word → is_told word ≡ true → HasAttributes node_kind.Switch ((attr.Property, switch_property bs) ∷ [])
unfolding spelling
told_has bs word e h =
    let v : List ℕ = switch_property bs in
    let f : switch_property (codes "__" ++ word) ≡ v = ap switch_property (sym e) in
    inl (
      v,
      [],
      refl,
      ap is_switch_name (sym f) ∙ and_left (is_switch_name (switch_property (codes "__" ++ word))) _ h,
      refl,
      subst IsUtf8 f (IsUtf8-are_ascii (switch_property (codes "__" ++ word)) (and_right (is_switch_name (switch_property (codes "__" ++ word))) _ h)),
      refl,
    )

-- the switch that begins some items has the attributes of its row
pub switch_has : (cx : Context) (after : Bool) (xs : List Item) (w : Shape) → w.kind ≡ kind.Switch → tile_at cx after (map glyph_of xs) ≡ Some w
    → HasAttributes node_kind.Switch ((attr.Property, switch_property (sources (take (size w) xs))) ∷ [])
switch_has cx after xs w k e =
    let s : IsToldSwitch xs w = switch_told xs w (tile_switch cx after (map glyph_of xs) w (ap is_switch_kind k) e) in
    told_has (sources (take (size w) xs)) s.word s.source s.told
