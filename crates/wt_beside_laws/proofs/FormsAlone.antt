-- A form of a line is the same by itself: its source has the node that it has in the line.
use Rattle.std.proofs.Common.{arith, ◌≡◌, ◌<◌, Bool, true, false, Option, Some, None, List, [], ◌∷◌, ◌++◌, length, map, refl, sym, ap, ◌∙◌, subst, append-nil, inl}
use Rattle.std.specs.List.{flat_map}
use Rattle.std.proofs.lemmas.List.{length-map, map-append}
use Rattle.wt_span.specs.Items.{Item}
use Rattle.wt_span.specs.Runs.{runs}
use Rattle.wt_span.proofs.RunLaws.{runs_joined}
use Rattle.wt_guards.specs.declared.role.Role.{Role}
use Rattle.wt_guards.specs.declared.role.Role.TheVariants.{Link, External, Bare, Switch, Toggle, Mark, Group, Function, Node}
use Rattle.wt_inline.specs.declared.loose.Loose.TheVariants.{Text}
use Rattle.wt_inline.specs.ItemTree.{ItemTree}
use Rattle.wt_inline.specs.Parts.{part, parts}
use Rattle.wt_tiles.specs.declared.glyph.Glyph.{Glyph}
use Rattle.wt_tiles.specs.declared.glyph.Glyph.TheVariants as glyph
use Rattle.wt_tiles.specs.declared.shape.Shape.{Shape}
use Rattle.wt_tiles.specs.declared.shape.TileKind.{TileKind}
use Rattle.wt_tiles.specs.Contexts.{in_line}
use Rattle.wt_tiles.specs.Glyphs.{glyph_of}
use Rattle.wt_tiles.specs.Reading.{tile_at}
use Rattle.wt_tiles.specs.Tiles.{size, form_at}
use Rattle.wt_tiles.specs.Urls.{bare_shape}
use Rattle.wt_context.specs.Line.{context_parts, line_parts}
use Rattle.wt_context.specs.Nodes.{tile_tree, segments_by}
use Rattle.wt_context.specs.Segments.{one_stretch, loose_segment, loose_segments, segment_parts}
use Rattle.wt_context.specs.Unstyled.{tile_parts}
use Rattle.wt_beside_laws.specs.Cuts.{own_form, form_before, StandsAs}
use Rattle.wt_beside_laws.specs.Flat.{IsFlat}
use Rattle.wt_beside_laws.specs.Nodes.{IsBareNode, MayBeBehind, MayFollow}
use Rattle.wt_beside_laws.specs.PageSigns.{tile_role, IsFlatForm}
use Rattle.wt_beside_laws.specs.Stood.{IsTileOf, IsRead, HasBehind}
use Rattle.wt_beside_laws.proofs.FlatContents.{flat_role}
use Rattle.wt_beside_laws.proofs.FormOpenings.{OpensAs, opens_so}
use Rattle.wt_beside_laws.proofs.LineParts.{has_form, node_alone}
use Rattle.wt_beside_laws.proofs.LineSegments.{one_segment}
use Rattle.wt_beside_laws.proofs.NodesStand.{as_bare, no_link, no_external, node_stands}
use Rattle.wt_beside_laws.proofs.OpenTags.{read_open}
use Rattle.wt_beside_laws.proofs.PageSigns.{IsFlatKind, before_is, role_fits}
use Rattle.wt_beside_laws.proofs.Stood.{Stays, stood}
use Rattle.wt_beside_laws.proofs.UrlFronts.{bare_tile}

-- ---- the parts of a tile

loose_joined : (rs : List (List Item)) → segment_parts (map loose_segment rs) ≡ parts Text (flat_map (λ r. r) rs)
loose_joined [] = refl
loose_joined (r ∷ rs) = ap (λ ps. parts Text r ++ ps) (loose_joined rs) ∙ sym (map-append (part Text) r (flat_map (λ s. s) rs))

pub by_parts : (o : Option ItemTree) (xs : List Item) → segment_parts (segments_by o xs) ≡ tile_parts o xs
unfolding loose_segments
by_parts None xs = loose_joined (runs one_stretch xs) ∙ ap (parts Text) (runs_joined one_stretch xs)
by_parts (Some t) xs = refl

-- ---- its form

same_shape : (v w : Shape) → Some v ≡ Some w → v ≡ w
same_shape v w e = cc

-- a bare URL is its size
bare_alone : (ends : Bool) (own : List Glyph) (w : Shape) → IsBareNode own → IsTileOf (Bare ends) w.kind → OpensAs w.kind w → size w ≡ length own
    → own_form in_line own ≡ Some w
bare_alone ends own w n i o l =
    let us : List Glyph = glyph.Byte n.first ∷ n.others in
    let v : Shape = n.shape in
    let form : form_at in_line false us ≡ Some v = as_bare false us v (no_link n.first n.others n.unbracketed) (no_external n.first n.others n.unbracketed) n.url in
    let own_is : v ≡ bare_shape (size v) = subst (λ (k : TileKind). OpensAs k v) (bare_tile false us v n.url) (opens_so in_line false us v form) in
    let its : w ≡ bare_shape (size w) = subst (λ (k : TileKind). OpensAs k w) i o in
    let same : v ≡ w = own_is ∙ ap bare_shape (n.whole ∙ sym l) ∙ sym its in
    subst (λ (gs : List Glyph). own_form in_line gs ≡ Some w) (sym n.is) (form ∙ ap (λ (u : Shape). Some u) same)

no_trail : (own gs : List Glyph) → HasBehind Link gs → MayFollow Link own gs
no_trail own [] h = tt
no_trail own (g ∷ gs) h = inl h

-- any other is the same before anything that may be behind it
other_alone : (r : Role) (a : Bool) (own behind : List Glyph) (w : Shape) → IsFlat r → Stays a r own behind → MayFollow r own behind
    → size w ≡ length own → form_before in_line a own behind ≡ Some w → own_form in_line own ≡ Some w
other_alone r a own behind w f st follow l e =
    let h = has_form r own f st.node in
    let stands : StandsAs (Some h.shape) in_line a own behind =
    subst (λ (o : Option Shape). StandsAs o in_line a own behind) h.alone (node_stands r a own behind st.node follow st.lead (read_open a own behind w e l)) in
    let same : h.shape ≡ w = same_shape h.shape w (sym (stands.1 a (λ z. z)) ∙ e) in
    h.alone ∙ ap (λ (u : Shape). Some u) same

free_behind : (r : Role) (own gs : List Glyph) → ((g : Glyph) → MayBeBehind r g) → MayFollow r own gs
free_behind r own [] f = tt
free_behind r own (g ∷ gs) f = inl (f g)

alone_by : (r : Role) (a : Bool) (own behind : List Glyph) (w : Shape) → IsFlat r → Stays a r own behind → IsTileOf r w.kind → OpensAs w.kind w
    → size w ≡ length own → form_before in_line a own behind ≡ Some w → own_form in_line own ≡ Some w
alone_by Link a own behind w f st i o l e = other_alone Link a own behind w f st (no_trail own behind st.has) l e
alone_by External a own behind w f st i o l e = other_alone External a own behind w f st (free_behind External own behind (λ g. tt)) l e
alone_by (Bare ends) a own behind w f st i o l e = bare_alone ends own w st.node i o l
alone_by Switch a own behind w f st i o l e = other_alone Switch a own behind w f st (free_behind Switch own behind (λ g. tt)) l e
alone_by Toggle a own behind w f st i o l e = absurd f
alone_by (Mark ends began) a own behind w f st i o l e =
    other_alone (Mark ends began) a own behind w f st (free_behind (Mark ends began) own behind (λ g. tt)) l e
alone_by (Group g) a own behind w f st i o l e = absurd i
alone_by Function a own behind w f st i o l e = other_alone Function a own behind w f st (free_behind Function own behind (λ g. tt)) l e
alone_by Node a own behind w f st i o l e = other_alone Node a own behind w f st (free_behind Node own behind (λ g. tt)) l e

own_alone : (k : TileKind) (a : Bool) (w : Shape) (ys zs : List Item) → w.kind ≡ k → IsFlatKind k → IsFlatForm ys → OpensAs w.kind w → size w ≡ length ys → 0 < length ys
    → tile_at in_line a (map glyph_of (ys ++ zs)) ≡ Some w → own_form in_line (map glyph_of ys) ≡ Some w
own_alone k a w ys zs i flat f opens fits some e =
    let r : Role = tile_role k true ys in
    let own : List Glyph = map glyph_of ys in
    let behind : List Glyph = map glyph_of zs in
    let long : length own ≡ length ys = length-map ys glyph_of in
    let form : form_before in_line a own behind ≡ Some w =
    before_is a own behind (omega (arith, some, long)) ∙ ap (tile_at in_line a) (sym (map-append glyph_of ys zs)) ∙ e in
    let tile : IsTileOf r w.kind = subst (IsTileOf r) (sym i) (role_fits k true ys flat) in
    let whole : size w ≡ length own = fits ∙ sym long in
    let read : IsRead a r own behind = record { shape = w; form = form; whole = whole; tile = tile } in
    alone_by r a own behind w (flat_role r w.kind tile) (stood a r own behind read) tile opens whole form

-- ---- its node

alone_parts : (ys : List Item) (w : Shape) → own_form in_line (map glyph_of ys) ≡ Some w → size w ≡ length ys → form_before in_line false (map glyph_of ys) [] ≡ Some w
    → line_parts ys ≡ tile_parts (tile_tree context_parts in_line w.kind w ys) ys
alone_parts ys w e l k =
    let s = one_segment ys w e l in
    node_alone ys w s (l ∙ sym (length-map ys glyph_of)) k
    ∙ sym (append-nil s.segment.parts)
    ∙ ap segment_parts (sym s.is)
    ∙ by_parts (tile_tree context_parts in_line w.kind w ys) ys

before_nothing : (own : List Glyph) (w : Shape) → own_form in_line own ≡ Some w → form_before in_line false own [] ≡ Some w
before_nothing [] w e = e
before_nothing (g ∷ gs) w e = subst (λ (hs : List Glyph). tile_at in_line false (g ∷ hs) ≡ Some w) (sym (append-nil gs)) e

pub form_alone : (k : TileKind) (a : Bool) (w : Shape) (ys zs : List Item) → w.kind ≡ k → IsFlatKind k → IsFlatForm ys → OpensAs w.kind w → size w ≡ length ys → 0 < length ys
    → tile_at in_line a (map glyph_of (ys ++ zs)) ≡ Some w → line_parts ys ≡ tile_parts (tile_tree context_parts in_line k w ys) ys
form_alone k a w ys zs i flat f opens fits some e =
    let own : own_form in_line (map glyph_of ys) ≡ Some w = own_alone k a w ys zs i flat f opens fits some e in
    subst (λ (j : TileKind). line_parts ys ≡ tile_parts (tile_tree context_parts in_line j w ys) ys) i
    (alone_parts ys w own fits (before_nothing (map glyph_of ys) w own))
