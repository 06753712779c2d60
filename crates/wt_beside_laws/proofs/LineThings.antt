-- The nodes of lines of the page, by their tiles.
use Rattle.std.proofs.Common.{arith, ◌≡◌, ℕ, zero, suc, ◌+◌, ◌-◌, ◌<◌, ◌≤◌, ◌==◌, Bool, true, false, Option, Some, None, List, [], ◌∷◌, ◌++◌, length, map, take, drop, refl, sym, ap, ◌∙◌, subst, append-nil}
use Rattle.std.specs.Prelude.{nat_eq}
use Rattle.std.specs.List.{ends_with, flat_map, AllByRecursion}
use Rattle.std.specs.Str.{chars}
use Rattle.std.proofs.lemmas.Bool.Decides.{nat_tests}
use Rattle.std.proofs.lemmas.List.{length-append, take-append-drop}
use Rattle.std.proofs.lemmas.Grind.{flat_map-append}
use Rattle.wt_span.specs.declared.form.ItemForm.{ItemForm}
use Rattle.wt_span.specs.declared.form.ItemForm.TheVariants as form
use Rattle.wt_span.specs.Items.{Item, char, whole, source, sources}
use Rattle.wt_tree.specs.declared.kind.Kind.TheVariants as node_kind
use Rattle.wt_guards.specs.declared.role.Role.{Role}
use Rattle.wt_guards.specs.declared.role.Role.TheVariants as role
use Rattle.wt_guards.specs.Content.{ContentSign, Thing, letter, thing}
use Rattle.wt_inline.specs.declared.loose.Loose.TheVariants.{Text}
use Rattle.wt_inline.specs.Inside.{opened_all}
use Rattle.wt_inline.specs.ItemTree.{plain, ItemTree, tree_items}
use Rattle.wt_inline.specs.Parts.{Part, loose, node, whole_tree, parts}
use Rattle.wt_inline.proofs.HeldLaws.{held_of_parts, sources_opened}
use Rattle.wt_tiles.specs.declared.glyph.Glyph.{Glyph}
use Rattle.wt_tiles.specs.declared.glyph.Glyph.TheVariants as glyph
use Rattle.wt_tiles.specs.declared.shape.Shape.{Shape}
use Rattle.wt_tiles.specs.declared.shape.TileKind.{TileKind}
use Rattle.wt_tiles.specs.declared.shape.TileKind.TheVariants as kind
use Rattle.wt_tiles.specs.Firsts.{may_begin}
use Rattle.wt_tiles.specs.Contexts.{in_line, in_text, in_pair}
use Rattle.wt_tiles.specs.Glyphs.{glyph_of, glyph_of_form}
use Rattle.wt_tiles.specs.Links.{text_of, leaf}
use Rattle.wt_tiles.specs.Reading.{tile_at, is_word_at, StandsBy, AreTiles}
use Rattle.wt_tiles.specs.Tiles.{size, shapes, tile_with, parts as tile_parts, tiles}
use Rattle.wt_tiles.specs.Urls.{bare_shape}
use Rattle.wt_tiles.proofs.Readings.{shapes_are}
use Rattle.wt_tiles.proofs.TagInsides.{no_form}
use Rattle.wt_context.specs.Line.{context_parts, line_parts}
use Rattle.wt_context.specs.Nodes.{inside_of, leaf_tree, nested_tree, bare_url, tile_tree, tile_segments, segments}
use Rattle.wt_context.specs.Segments.{Segment, segment_parts}
use Rattle.wt_context.specs.declared.node.Leaf.TheVariants as as_leaf
use Rattle.wt_context.specs.RunCuts.{has_run}
use Rattle.wt_context.specs.Unstyled.{tile_parts as tile_parts_of, tile_part}
use Rattle.wt_context.specs.declared.node.Nested.TheVariants as nested
use Rattle.wt_context.proofs.LineHolding.{context_holds}
use Rattle.wt_context.proofs.NestedContexts.{contexts_are}
use Rattle.wt_context.proofs.TileHolding.{OptHolds, tile_holds}
use Rattle.wt_context.proofs.TilePlaces.{MayStand, IsPlaced, tiles_placed}
use Rattle.wt_beside_laws.specs.Nodes.{IsBareNode, IsNode, AreNodes}
use Rattle.wt_beside_laws.specs.PageBlocks.{AreUnstyled}
use Rattle.wt_text_edit_laws.specs.ParagraphParts.{joined_parts}
use Rattle.wt_beside_laws.specs.PageSigns.{ends_break, form_role, tile_role, form_sign, tile_signs, signs_of_tiles, line_signs, signs_of_lines, IsFlatForm, IsFlatTile, AreFlatTiles, AreFlatLines}
use Rattle.wt_beside_laws.specs.Stood.{things}
use Rattle.wt_beside_laws.proofs.FormKinds.{IsNodeKind, form_is_node}
use Rattle.wt_beside_laws.proofs.FormsAlone.{by_parts, form_alone}
use Rattle.wt_beside_laws.proofs.FormOpenings.{OpensAs, opens_so}
use Rattle.wt_beside_laws.proofs.LineSegments.{unstyled}
use Rattle.wt_beside_laws.proofs.PageLexemes.{IsPageForm, AreOfPage, node_of_page, no_brace}
use Rattle.wt_beside_laws.proofs.PageSigns.{AreChars, are_chars, IsFlatKind, flat_nodes}
use Rattle.wt_beside_laws.proofs.PartThings.{IsThing, thing_at, tree_source, IsAlone, HaveThings, parts_width, things_both}
use Rattle.wt_beside_laws.proofs.SentNodes.{things_append, no_things}
use Rattle.wt_beside_laws.proofs.TileRoles.{NoBraces, link_thing, category_thing, switch_thing, break_thing, placeholder_thing, pair_thing, external_thing, bare_thing, IsLexemeForm, lexeme_thing, IsMarkForm, mark_thing}
use Rattle.wt_beside_laws.proofs.UrlShown.{AreTextual, all_textual, url_shows}
use Rattle.wt_beside_laws.specs.NodeItems.{node_items}

-- ---- what begins a form

-- the first item is no brace, and the form is a node
record Begins (w : Shape) (ys : List Item) : Type 0 where
  node_kind : IsNodeKind w.kind
  opens : OpensAs w.kind w
  unbraced : NoBraces (sources ys)
  some : (m : ℕ) → 1 ≤ m → 0 < length (sources (take m ys))

first_unbraced : (b : ℕ) (bs : List ℕ) → (b == 123) ≡ false → NoBraces (b ∷ bs)
first_unbraced b bs e = let flip : (123 == b) ≡ false = grind (arith, nat_tests, e) in rw flip refl

byte_unbraced : (a : Bool) (b : ℕ) (gs : List Glyph) (w : Shape) → tile_with in_line a (glyph_of (char None b)) (glyph_of (char None b) ∷ gs) ≡ Some w → (b == 123) ≡ false
byte_unbraced a b gs w e = by (b == 123) refl
  where
    by : (v : Bool) → (b == 123) ≡ v → v ≡ false
    by true i =
        let is : b ≡ 123 = grind (arith, nat_tests, i) in
        let no = sym (no_form in_line a b gs (subst (λ (k : ℕ). may_begin k ≡ false) (sym is) refl)) ∙ e in
        cc
    by false i = refl

begins_byte : (a : Bool) (o : Option ℕ) (b : ℕ) (ys zs : List Item) (w : Shape) → tile_at in_line a (map glyph_of (char o b ∷ (ys ++ zs))) ≡ Some w → Begins w (char o b ∷ ys)
begins_byte a o b ys zs w e = record {
  node_kind = form_is_node in_line a (map glyph_of (char o b ∷ (ys ++ zs))) w e;
  opens = opens_so in_line a (map glyph_of (char o b ∷ (ys ++ zs))) w e;
  unbraced = first_unbraced b (sources ys) (byte_unbraced a b (map glyph_of (ys ++ zs)) w e);
  some = λ m le. some_by m le;
}
  where
    some_by : (m : ℕ) → 1 ≤ m → 0 < length (sources (take m (char o b ∷ ys)))
    some_by zero le = absurd (omega (arith, le))
    some_by (suc m) le = omega arith

-- an item that is no character
abbrev IsWhole : TileKind → Type 0
IsWhole kind.Link = ⊥
IsWhole kind.Category = ⊥
IsWhole kind.Media = ⊥
IsWhole kind.ExtLink = ⊥
IsWhole kind.BareUrl = ⊥
IsWhole kind.Br = ⊥
IsWhole kind.Pair = ⊥
IsWhole kind.TagIsland = ⊥
IsWhole kind.Switch = ⊥
IsWhole kind.Atom = Unit {0}
IsWhole kind.Mark = Unit {0}
IsWhole kind.Chars = ⊥

atom_kind : (v w : Shape) → IsWhole v.kind → size v ≡ 1 → Some v ≡ Some w → IsWhole w.kind × (size w ≡ 1)
atom_kind v w h l e = let is : v ≡ w = same_shape v w e in (subst (λ (u : Shape). IsWhole u.kind) is h, ap size (sym is) ∙ l)
  where
    same_shape : (u t : Shape) → Some u ≡ Some t → u ≡ t
    same_shape u t i = cc

whole_kind : (a : Bool) (f : ItemForm) (gs : List Glyph) (w : Shape) → tile_with in_line a (glyph_of_form f) (glyph_of_form f ∷ gs) ≡ Some w → IsWhole w.kind × (size w ≡ 1)
whole_kind a form.Chars gs w e = atom_kind (leaf kind.Atom 1) w tt refl e
whole_kind a (form.Entity c) gs w e = atom_kind (leaf kind.Atom 1) w tt refl e
whole_kind a form.Nowiki gs w e = atom_kind (leaf kind.Atom 1) w tt refl e
whole_kind a form.Extension gs w e = atom_kind (leaf kind.Atom 1) w tt refl e
whole_kind a form.Function gs w e = atom_kind (leaf kind.Atom 1) w tt refl e
whole_kind a form.Comment gs w e = atom_kind (leaf kind.Mark 1) w tt refl e
whole_kind a form.Include gs w e = atom_kind (leaf kind.Mark 1) w tt refl e
whole_kind a form.Hidden gs w e = atom_kind (leaf kind.Mark 1) w tt refl e
whole_kind a form.EmptyCall gs w e = atom_kind (leaf kind.Mark 1) w tt refl e

no_whole : (k : TileKind) → IsWhole k → IsNodeKind k → ⊥
no_whole kind.Link h n = h
no_whole kind.Category h n = h
no_whole kind.Media h n = h
no_whole kind.ExtLink h n = h
no_whole kind.BareUrl h n = h
no_whole kind.Br h n = h
no_whole kind.Pair h n = h
no_whole kind.TagIsland h n = h
no_whole kind.Switch h n = h
no_whole kind.Atom h n = n
no_whole kind.Mark h n = n
no_whole kind.Chars h n = h

begins : (k : TileKind) (a : Bool) (w : Shape) (ys zs : List Item) → w.kind ≡ k → IsNodeKind k → 0 < length ys
    → tile_at in_line a (map glyph_of (ys ++ zs)) ≡ Some w → Begins w ys
begins k a w [] zs i n some e = absurd (omega (arith, some))
begins k a w (char o b ∷ ys) zs i n some e = begins_byte a o b ys zs w e
begins k a w (whole f o bs ∷ ys) zs i n some e = absurd (no_whole k (subst IsWhole i (whole_kind a f (map glyph_of (ys ++ zs)) w e).0) n)

-- ---- the node of a tile

-- parts with these nodes, and so many bytes
pub record Told (at : ℕ) (ps : List Part) (ts : List Thing) (n : ℕ) : Type 0 where
  pub have : HaveThings at ps ts
  pub wide : parts_width ps ≡ n

-- the node of these items, which are read so by themselves
pub record IsNodeOf (u : ItemTree) (ys : List Item) : Type 0 where
  pub source : tree_source u ≡ sources ys
  pub read : node_items (sources ys) ≡ ys
  pub alone : line_parts ys ≡ node u ∷ []

node_told : (at : ℕ) (u : ItemTree) (r : Role) (ys : List Item) → IsNodeOf u ys → IsThing u r → Told at (node u ∷ []) (thing_at r (sources ys) at ∷ []) (length (sources ys))
node_told at u r ys o i =
    let long : length (tree_source u) ≡ length (sources ys) = ap length o.source in
    let alone : IsAlone u = ap (λ (bs : List ℕ). line_parts (node_items bs)) o.source ∙ ap line_parts o.read ∙ o.alone in
    record { have = (r, [], ap (λ (cs : List ℕ). thing_at r cs at ∷ []) (sym o.source), i, alone, refl); wide = omega (arith, long) }

chars_told : (at : ℕ) (ys : List Item) → AreChars ys → Told at (parts Text ys) [] (length (sources ys))
chars_told at [] h = record { have = refl; wide = refl }
chars_told at (char o b ∷ ys) h = let r = chars_told (at + 1) ys h in let w = r.wide in record { have = (tt, r.have); wide = omega (arith, w) }
chars_told at (whole f o bs ∷ ys) h = absurd h

-- its source is that of its items
held_source : (u : ItemTree) (ys : List Item) → opened_all (tree_items u) ≡ opened_all ys → tree_source u ≡ sources ys
held_source u ys h = sym (sources_opened (tree_items u)) ∙ ap sources h ∙ sources_opened ys

tile_source : (k : TileKind) (w : Shape) (ys : List Item) → w.kind ≡ k → IsPlaced in_line (w, ys) → OptHolds (tile_tree context_parts in_line k w ys) ys
tile_source k w ys i p = tile_holds context_parts context_holds in_line k w ys p.0 (subst (λ (j : TileKind). MayStand in_line j w.trail) i p.1)

mark_apart : (w : Shape) → Some (leaf kind.Mark 1) ≡ Some w → w.kind ≡ kind.Atom → ⊥
mark_apart w e i = cc

-- a reference, a nowiki or an extension
lexeme_form : (a : Bool) (f : ItemForm) (gs : List Glyph) (w : Shape) → IsPageForm f → tile_with in_line a (glyph_of_form f) (glyph_of_form f ∷ gs) ≡ Some w
    → w.kind ≡ kind.Atom → IsLexemeForm f
lexeme_form a form.Chars gs w p e i = absurd p
lexeme_form a (form.Entity c) gs w p e i = tt
lexeme_form a form.Nowiki gs w p e i = tt
lexeme_form a form.Extension gs w p e i = tt
lexeme_form a form.Function gs w p e i = absurd p
lexeme_form a form.Comment gs w p e i = absurd (mark_apart w e i)
lexeme_form a form.Include gs w p e i = absurd (mark_apart w e i)
lexeme_form a form.Hidden gs w p e i = absurd (mark_apart w e i)
lexeme_form a form.EmptyCall gs w p e i = absurd p

whole_unbraced : (f : ItemForm) (o : Option ℕ) (bs : List ℕ) → node_items (sources (whole f o bs ∷ [])) ≡ whole f o bs ∷ [] → NoBraces (sources (whole f o bs ∷ []))
whole_unbraced f o [] e = refl
whole_unbraced f o (b ∷ bs) e = first_unbraced b (bs ++ []) (no_brace b (bs ++ []) f o (b ∷ bs) e)

lexeme_told : (began : Bool) (at : ℕ) (f : ItemForm) (o : Option ℕ) (bs : List ℕ) → IsLexemeForm f → node_items (sources (whole f o bs ∷ [])) ≡ whole f o bs ∷ []
    → line_parts (whole f o bs ∷ []) ≡ parts Text (whole f o bs ∷ [])
    → Told at (parts Text (whole f o bs ∷ [])) (things (form_sign kind.Atom began at (whole f o bs ∷ []))) (length (sources (whole f o bs ∷ [])))
lexeme_told began at f o bs l e apart =
    let u : ItemTree = whole_tree f o bs in
    let own : tree_source u ≡ sources (whole f o bs ∷ []) =
    ap sources (sym (append-nil (tree_items u)) ∙ held_of_parts Text (whole f o bs ∷ [])) ∙ sources_opened (whole f o bs ∷ []) in
    node_told at u (form_role f) (whole f o bs ∷ []) (record { source = own; read = e; alone = apart })
    (lexeme_thing f o bs l (subst NoBraces (sym own) (whole_unbraced f o bs e)))

atom_told : (a began : Bool) (at : ℕ) (w : Shape) (ys zs : List Item) → w.kind ≡ kind.Atom → 0 < length ys → length ys ≡ size w → node_items (sources ys) ≡ ys
    → tile_at in_line a (map glyph_of (ys ++ zs)) ≡ Some w → line_parts ys ≡ parts Text ys
    → Told at (parts Text ys) (things (form_sign kind.Atom began at ys)) (length (sources ys))
atom_told a began at w [] zs i some l alone e apart = absurd (omega (arith, some))
atom_told a began at w (char o b ∷ ys) zs i some l alone e apart = absurd (subst IsNodeKind i (form_is_node in_line a (map glyph_of (char o b ∷ (ys ++ zs))) w e))
atom_told a began at w (whole f o bs ∷ []) zs i some l alone e apart =
    let p : AreOfPage (whole f o bs ∷ []) = subst AreOfPage alone (node_of_page (sources (whole f o bs ∷ []))) in
    lexeme_told began at f o bs (lexeme_form a f (map glyph_of zs) w p.0 e i) alone apart
atom_told a began at w (whole f o bs ∷ y ∷ ys) zs i some l alone e apart =
    let one : size w ≡ 1 = (whole_kind a f (map glyph_of (y ∷ (ys ++ zs))) w e).1 in
    absurd (omega (arith, one, l))

-- an include tag
atom_apart : (w : Shape) → Some (leaf kind.Atom 1) ≡ Some w → w.kind ≡ kind.Mark → ⊥
atom_apart w e i = cc

mark_form : (a : Bool) (f : ItemForm) (gs : List Glyph) (w : Shape) → IsPageForm f → tile_with in_line a (glyph_of_form f) (glyph_of_form f ∷ gs) ≡ Some w
    → w.kind ≡ kind.Mark → IsMarkForm f
mark_form a form.Chars gs w p e i = absurd p
mark_form a (form.Entity c) gs w p e i = absurd (atom_apart w e i)
mark_form a form.Nowiki gs w p e i = absurd (atom_apart w e i)
mark_form a form.Extension gs w p e i = absurd (atom_apart w e i)
mark_form a form.Function gs w p e i = absurd p
mark_form a form.Comment gs w p e i = tt
mark_form a form.Include gs w p e i = tt
mark_form a form.Hidden gs w p e i = tt
mark_form a form.EmptyCall gs w p e i = absurd p

mark_told : (a began : Bool) (at : ℕ) (w : Shape) (ys zs : List Item) → w.kind ≡ kind.Mark → 0 < length ys → length ys ≡ size w → node_items (sources ys) ≡ ys
    → tile_at in_line a (map glyph_of (ys ++ zs)) ≡ Some w → line_parts ys ≡ parts Text ys
    → Told at (parts Text ys) (things (form_sign kind.Mark began at ys)) (length (sources ys))
mark_told a began at w [] zs i some l alone e apart = absurd (omega (arith, some))
mark_told a began at w (char o b ∷ ys) zs i some l alone e apart = absurd (subst IsNodeKind i (form_is_node in_line a (map glyph_of (char o b ∷ (ys ++ zs))) w e))
mark_told a began at w (whole f o bs ∷ []) zs i some l alone e apart =
    let p : AreOfPage (whole f o bs ∷ []) = subst AreOfPage alone (node_of_page (sources (whole f o bs ∷ []))) in
    let u : ItemTree = whole_tree f o bs in
    let own : tree_source u ≡ sources (whole f o bs ∷ []) =
    ap sources (sym (append-nil (tree_items u)) ∙ held_of_parts Text (whole f o bs ∷ [])) ∙ sources_opened (whole f o bs ∷ []) in
    let ends : Bool = ends_break (sources (whole f o bs ∷ [])) in
    node_told at u (role.Mark ends began) (whole f o bs ∷ []) (record { source = own; read = alone; alone = apart })
    (mark_thing ends began f o bs (mark_form a f (map glyph_of zs) w p.0 e i))
mark_told a began at w (whole f o bs ∷ y ∷ ys) zs i some l alone e apart =
    let one : size w ≡ 1 = (whole_kind a f (map glyph_of (y ∷ (ys ++ zs))) w e).1 in
    absurd (omega (arith, one, l))

-- a URL by itself
bare_textual : (own : List Glyph) → IsBareNode own → AreTextual own
bare_textual own n = subst AreTextual (sym n.is) (all_textual (glyph.Byte n.first ∷ n.others) n.shape n.url (n.whole ∙ ap length n.is))

url_told : (began : Bool) (at : ℕ) (w : Shape) (ys : List Item) → w ≡ bare_shape (size w) → length ys ≡ size w → IsNodeOf (bare_url w ys) ys
    → AreTextual (map glyph_of ys) → Told at (node (bare_url w ys) ∷ []) (things (form_sign kind.BareUrl began at ys)) (length (sources ys))
url_told began at w ys is l own t =
    let m : ℕ = size w in
    let text : List ℕ = flat_map text_of (map glyph_of ys) in
    let u : IsThing (bare_url (bare_shape m) ys) (role.Bare (ends_with nat_eq text (61 ∷ []))) =
    bare_thing m ys text (λ n before. url_shows m n before ys (omega (arith, l)) t) in
    node_told at (bare_url w ys) (role.Bare (ends_with nat_eq text (61 ∷ []))) ys own
    (subst (λ (v : Shape). IsThing (bare_url v ys) (role.Bare (ends_with nat_eq text (61 ∷ [])))) (sym is) u)

-- what is known of a form and its items
record IsFormOf (k : TileKind) (a began : Bool) (w : Shape) (ys zs : List Item) : Type 0 where
  kind_is : w.kind ≡ k
  flat : IsFlatKind k
  some : 0 < length ys
  read : tile_at in_line a (map glyph_of (ys ++ zs)) ≡ Some w
  placed : IsPlaced in_line (w, ys)
  form : IsFlatForm ys
  stays : IsNode (tile_role k began ys) (map glyph_of ys)

-- the node of such a form
its_node : (k : TileKind) (a began : Bool) (w : Shape) (ys zs : List Item) (u : ItemTree) → IsFormOf k a began w ys zs → IsNodeKind k → tile_tree context_parts in_line k w ys ≡ Some u
    → IsNodeOf u ys
its_node k a began w ys zs u f n e =
    let held : OptHolds (Some u) ys = subst (λ (o : Option ItemTree). OptHolds o ys) e (tile_source k w ys f.kind_is f.placed) in
    let b = begins k a w ys zs f.kind_is n f.some f.read in
    record {
      source = held_source u ys held;
      read = f.form.alone;
      alone = form_alone k a w ys zs f.kind_is f.flat f.form b.opens (sym f.placed.0) f.some f.read ∙ ap (λ (o : Option ItemTree). tile_parts_of o ys) e;
    }

form_told : (k : TileKind) (a began : Bool) (at : ℕ) (w : Shape) (ys zs : List Item) → IsFormOf k a began w ys zs
    → Told at (tile_parts_of (tile_tree context_parts in_line k w ys) ys) (things (tile_signs k began at ys)) (length (sources ys))
form_told kind.Link a began at w ys zs f =
    let ps : List Part = context_parts (in_text in_line) (inside_of w ys) in
    let u : ItemTree = nested_tree nested.Link w ys ps in
    node_told at u role.Link ys (its_node kind.Link a began w ys zs u f tt refl) (link_thing w ys ps)
form_told kind.Category a began at w ys zs f =
    let u : ItemTree = leaf_tree as_leaf.Category ys in
    node_told at u role.Node ys (its_node kind.Category a began w ys zs u f tt refl) (category_thing ys)
form_told kind.Media a began at w ys zs f =
    let u : ItemTree = leaf_tree as_leaf.Placeholder ys in
    let own = its_node kind.Media a began w ys zs u f tt refl in
    let b = begins kind.Media a w ys zs f.kind_is tt f.some f.read in
    node_told at u role.Node ys own (placeholder_thing ys (subst NoBraces (sym own.source) b.unbraced))
form_told kind.ExtLink a began at w ys zs f =
    let ps : List Part = context_parts (in_text in_line) (inside_of w ys) in
    let u : ItemTree = nested_tree nested.ExtLink w ys ps in
    let b = begins kind.ExtLink a w ys zs f.kind_is tt f.some f.read in
    node_told at u role.External ys (its_node kind.ExtLink a began w ys zs u f tt refl)
    (external_thing w ys ps (b.some w.opening (subst (λ (j : TileKind). OpensAs j w) f.kind_is b.opens)))
form_told kind.BareUrl a began at w ys zs f =
    let b = begins kind.BareUrl a w ys zs f.kind_is tt f.some f.read in
    url_told began at w ys (subst (λ (j : TileKind). OpensAs j w) f.kind_is b.opens) f.placed.0 (its_node kind.BareUrl a began w ys zs (bare_url w ys) f tt refl)
    (bare_textual (map glyph_of ys) f.stays)
form_told kind.Br a began at w ys zs f =
    let u : ItemTree = leaf_tree as_leaf.Break ys in
    node_told at u role.Node ys (its_node kind.Br a began w ys zs u f tt refl) (break_thing (plain node_kind.Br) ys refl)
form_told kind.Pair a began at w ys zs f =
    let ps : List Part = context_parts (in_pair in_line) (inside_of w ys) in
    let u : ItemTree = nested_tree nested.Pair w ys ps in
    let own = its_node kind.Pair a began w ys zs u f tt refl in
    let b = begins kind.Pair a w ys zs f.kind_is tt f.some f.read in
    node_told at u role.Node ys own (pair_thing w ys ps (subst NoBraces (sym own.source) b.unbraced))
form_told kind.TagIsland a began at w ys zs f =
    let u : ItemTree = leaf_tree as_leaf.Placeholder ys in
    let own = its_node kind.TagIsland a began w ys zs u f tt refl in
    let b = begins kind.TagIsland a w ys zs f.kind_is tt f.some f.read in
    node_told at u role.Node ys own (placeholder_thing ys (subst NoBraces (sym own.source) b.unbraced))
form_told kind.Switch a began at w ys zs f =
    let u : ItemTree = leaf_tree as_leaf.Switch ys in
    node_told at u role.Switch ys (its_node kind.Switch a began w ys zs u f tt refl) (switch_thing ys)
form_told kind.Atom a began at w ys zs f =
    atom_told a began at w ys zs f.kind_is f.some f.placed.0 f.form.alone f.read
    (form_alone kind.Atom a w ys zs f.kind_is f.flat f.form (subst (λ (j : TileKind). OpensAs j w) (sym f.kind_is) tt) (sym f.placed.0) f.some f.read)
form_told kind.Mark a began at w ys zs f =
    mark_told a began at w ys zs f.kind_is f.some f.placed.0 f.form.alone f.read
    (form_alone kind.Mark a w ys zs f.kind_is f.flat f.form (subst (λ (j : TileKind). OpensAs j w) (sym f.kind_is) tt) (sym f.placed.0) f.some f.read)
form_told kind.Chars a began at w ys zs f = absurd f.flat

-- ---- the tiles of a line

pub nodes_parts : (xs ys : List ContentSign) → AreNodes (xs ++ ys) → AreNodes xs × AreNodes ys
nodes_parts [] ys h = (tt, h)
nodes_parts (letter c ∷ xs) ys h = nodes_parts xs ys h
nodes_parts (thing t ∷ xs) ys h = let r = nodes_parts xs ys h.1 in ((h.0, r.0), r.1)

-- a form, by its kind, among the items of a line
form_here : (k : TileKind) (a began : Bool) (at : ℕ) (w : Shape) (xs : List Item) → w.kind ≡ k → IsFlatKind k → IsFlatForm (take (size w) xs)
    → tile_at in_line a (map glyph_of xs) ≡ Some w → 0 < size w → IsPlaced in_line (w, take (size w) xs) → AreNodes (form_sign k began at (take (size w) xs))
    → Told at (tile_parts_of (tile_tree context_parts in_line k w (take (size w) xs)) (take (size w) xs)) (things (tile_signs k began at (take (size w) xs)))
    (length (sources (take (size w) xs)))
form_here k a began at w xs i flat f e some p n =
    let ys : List Item = take (size w) xs in
    let long : length ys ≡ size w = p.0 in
    form_told k a began at w ys (drop (size w) xs)
    (record {
      kind_is = i;
      flat = flat;
      some = omega (arith, long, some);
      read = ap (λ us. tile_at in_line a (map glyph_of us)) (take-append-drop (size w) xs) ∙ e;
      placed = p;
      form = f;
      stays = subst (λ us. IsNode (tile_role k began ys) (map glyph_of us)) f.alone n.0;
    })

pub tile_told : (k : TileKind) (a began : Bool) (at : ℕ) (w : Shape) (xs : List Item) → w.kind ≡ k → IsFlatTile k (take (size w) xs) → StandsBy k in_line a w (map glyph_of xs)
    → 0 < size w → IsPlaced in_line (w, take (size w) xs) → AreNodes (tile_signs k began at (take (size w) xs))
    → Told at (tile_parts_of (tile_tree context_parts in_line k w (take (size w) xs)) (take (size w) xs)) (things (tile_signs k began at (take (size w) xs)))
    (length (sources (take (size w) xs)))
tile_told kind.Link a began at w xs i f s some p n = form_here kind.Link a began at w xs i tt f s some p n
tile_told kind.Category a began at w xs i f s some p n = form_here kind.Category a began at w xs i tt f s some p n
tile_told kind.Media a began at w xs i f s some p n = form_here kind.Media a began at w xs i tt f s some p n
tile_told kind.ExtLink a began at w xs i f s some p n = form_here kind.ExtLink a began at w xs i tt f s some p n
tile_told kind.BareUrl a began at w xs i f s some p n = form_here kind.BareUrl a began at w xs i tt f s some p n
tile_told kind.Br a began at w xs i f s some p n = form_here kind.Br a began at w xs i tt f s some p n
tile_told kind.Pair a began at w xs i f s some p n = form_here kind.Pair a began at w xs i tt f s some p n
tile_told kind.TagIsland a began at w xs i f s some p n = form_here kind.TagIsland a began at w xs i tt f s some p n
tile_told kind.Switch a began at w xs i f s some p n = form_here kind.Switch a began at w xs i tt f s some p n
tile_told kind.Atom a began at w xs i f s some p n = form_here kind.Atom a began at w xs i tt f s some p n
tile_told kind.Mark a began at w xs i f s some p n = form_here kind.Mark a began at w xs i tt f s some p n
tile_told kind.Chars a began at w xs i f s some p n =
    let ys : List Item = take (size w) xs in
    subst (λ (ts : List Thing). Told at (parts Text ys) ts (length (sources ys))) (sym (no_things (chars (sources ys)))) (chars_told at ys (are_chars (size w) a xs s.1))

widths_append : (ps qs : List Part) → parts_width (ps ++ qs) ≡ parts_width ps + parts_width qs
widths_append [] qs = omega arith
widths_append (loose k o b ∷ ps) qs = let more = widths_append ps qs in omega (arith, more)
widths_append (node u ∷ ps) qs = let more = widths_append ps qs in omega (arith, more)

both_told : (at m n : ℕ) (ps qs : List Part) (xs ys : List ContentSign) → Told at ps (things xs) m → Told (at + m) qs (things ys) n
    → Told at (ps ++ qs) (things (xs ++ ys)) (m + n)
both_told at m n ps qs xs ys f g =
    let w = f.wide in
    let v = g.wide in
    let all = widths_append ps qs in
    record {
      have = subst (HaveThings at (ps ++ qs)) (sym (things_append xs ys))
          (things_both at ps qs (things xs) (things ys) f.have (subst (λ (i : ℕ). HaveThings (at + i) qs (things ys)) (sym w) g.have));
      wide = omega (arith, w, v, all);
    }

none_told : (at : ℕ) (xs : List Item) → map glyph_of xs ≡ [] → Told at [] [] (length (sources xs))
none_told at [] e = record { have = refl; wide = refl }
none_told at (x ∷ xs) e = cc

sources_cut : (n : ℕ) (xs : List Item) → length (sources (take n xs)) + length (sources (drop n xs)) ≡ length (sources xs)
sources_cut n xs =
    sym (length-append (sources (take n xs)) (sources (drop n xs)))
    ∙ ap length (sym (flat_map-append source (take n xs) (drop n xs)))
    ∙ ap (λ us. length (sources us)) (take-append-drop n xs)

map_drop : (n : ℕ) (xs : List Item) → map glyph_of (drop n xs) ≡ drop n (map glyph_of xs)
map_drop zero [] = refl
map_drop zero (x ∷ xs) = refl
map_drop (suc n) [] = refl
map_drop (suc n) (x ∷ xs) = map_drop n xs

tiles_told : (ws : List Shape) (a began : Bool) (at : ℕ) (xs : List Item) → AreTiles in_line a ws (map glyph_of xs) → AllByRecursion (IsPlaced in_line) (tile_parts ws xs)
    → AreFlatTiles (tile_parts ws xs) → AreNodes (signs_of_tiles began at (tile_parts ws xs))
    → Told at (flat_map (tile_part context_parts in_line) (tile_parts ws xs)) (things (signs_of_tiles began at (tile_parts ws xs))) (length (sources xs))
tiles_told [] a began at xs t p f n = none_told at xs t
tiles_told (w ∷ ws) a began at xs t p f n =
    let m : ℕ = size w in
    let ys : List Item = take m xs in
    let zs : List Item = drop m xs in
    let more : List ContentSign = signs_of_tiles (ends_break (sources ys)) (at + length (sources ys)) (tile_parts ws zs) in
    let split = nodes_parts (tile_signs w.kind began at ys) more n in
    let own = tile_told w.kind a began at w xs refl f.0 t.2 t.0 p.0 split.0 in
    let rest = tiles_told ws (is_word_at (map glyph_of xs) (m - 1)) (ends_break (sources ys)) (at + length (sources ys)) zs
    (subst (λ gs. AreTiles in_line (is_word_at (map glyph_of xs) (m - 1)) ws gs) (sym (map_drop m xs)) t.4) p.1 f.1 split.1 in
    subst (Told at (flat_map (tile_part context_parts in_line) (tile_parts (w ∷ ws) xs)) (things (signs_of_tiles began at (tile_parts (w ∷ ws) xs)))) (sources_cut m xs)
    (both_told at (length (sources ys)) (length (sources zs)) (tile_part context_parts in_line (w, ys)) (flat_map (tile_part context_parts in_line) (tile_parts ws zs))
    (tile_signs w.kind began at ys) more own rest)

-- ---- a line without styles is its tiles

pub segments_parts : (ps : List (Shape × List Item)) → segment_parts (flat_map (tile_segments context_parts in_line) ps) ≡ flat_map (tile_part context_parts in_line) ps
segments_parts [] = refl
segments_parts ((w, xs) ∷ ps) =
    flat_map-append (λ (u : Segment). u.parts) (tile_segments context_parts in_line (w, xs)) (flat_map (tile_segments context_parts in_line) ps)
    ∙ ap (λ qs. qs ++ segment_parts (flat_map (tile_segments context_parts in_line) ps)) (by_parts (tile_tree context_parts in_line w.kind w xs) xs)
    ∙ ap (λ qs. tile_part context_parts in_line (w, xs) ++ qs) (segments_parts ps)

line_is : (xs : List Item) → has_run (segments context_parts in_line xs) ≡ false → line_parts xs ≡ flat_map (tile_part context_parts in_line) (tiles in_line xs)
unfolding segments
line_is xs e = contexts_are in_line xs (omega arith) ∙ unstyled (segments context_parts in_line xs) e ∙ segments_parts (tiles in_line xs)

pub tiles_here : (at : ℕ) (xs : List Item) → AllByRecursion (IsPlaced in_line) (tiles in_line xs) → AreFlatTiles (tiles in_line xs) → AreNodes (line_signs at xs)
    → Told at (flat_map (tile_part context_parts in_line) (tiles in_line xs)) (things (line_signs at xs)) (length (sources xs))
unfolding tiles
tiles_here at xs p f n = tiles_told (shapes in_line (map glyph_of xs)) false true at xs (shapes_are in_line (map glyph_of xs)) p f n

line_told : (at : ℕ) (xs : List Item) → has_run (segments context_parts in_line xs) ≡ false → AreFlatTiles (tiles in_line xs) → AreNodes (line_signs at xs)
    → Told at (line_parts xs) (things (line_signs at xs)) (length (sources xs))
line_told at xs e f n =
    subst (λ (ps : List Part). Told at ps (things (line_signs at xs)) (length (sources xs))) (sym (line_is xs e)) (tiles_here at xs (tiles_placed in_line xs) f n)

-- ---- lines

lines_told : (at : ℕ) (ls : List (List Item)) → AreUnstyled ls → AreFlatLines ls → AreNodes (signs_of_lines at ls)
    → HaveThings at (joined_parts ls) (things (signs_of_lines at ls))
lines_told at [] u f n = refl
lines_told at (xs ∷ []) u f n =
    subst (λ (ps : List Part). HaveThings at ps (things (line_signs at xs))) (sym (append-nil (line_parts xs))) (line_told at xs u.0 f.1 n).have
lines_told at (xs ∷ ys ∷ ls) u f n =
    let m : ℕ = length (sources xs) in
    let more : List ContentSign = letter 10 ∷ signs_of_lines (at + m + 1) (ys ∷ ls) in
    let split = nodes_parts (line_signs at xs) more n in
    let own = line_told at xs u.0 f.1 split.0 in
    let w = own.wide in
    let rest : HaveThings (at + m + 1) (joined_parts (ys ∷ ls)) (things (signs_of_lines (at + m + 1) (ys ∷ ls))) = lines_told (at + m + 1) (ys ∷ ls) u.1 f.2 split.1 in
    subst (HaveThings at (joined_parts (xs ∷ ys ∷ ls))) (sym (things_append (line_signs at xs) more))
    (things_both at (line_parts xs) (loose Text None 10 ∷ joined_parts (ys ∷ ls)) (things (line_signs at xs)) (things more) own.have
    (tt, subst (λ (i : ℕ). HaveThings (at + i + 1) (joined_parts (ys ∷ ls)) (things (signs_of_lines (at + m + 1) (ys ∷ ls)))) (sym w) rest))

pub lines_have : (at : ℕ) (ls : List (List Item)) → AreUnstyled ls → AreFlatLines ls → HaveThings at (joined_parts ls) (things (signs_of_lines at ls))
lines_have at ls u f = lines_told at ls u f (flat_nodes ls at (signs_of_lines at ls) f refl)
