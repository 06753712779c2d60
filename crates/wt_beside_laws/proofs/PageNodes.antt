-- The nodes that a content has of the page stay, and meet as they may.
use Rattle.std.proofs.Common.{arith, ◌≡◌, ℕ, ◌+◌, ◌<◌, ◌==◌, Bool, true, false, Option, Some, List, [], ◌∷◌, ◌++◌, length, map, refl, sym, ap, ◌∙◌, subst, inl, inr, ◌⊎◌}
use Rattle.std.specs.Prelude.{◌&&◌, ◌||◌, not, encode_utf8, if◌then◌else◌}
use Rattle.std.specs.Char.{to_ascii_lowercase}
use Rattle.std.proofs.lemmas.Bool.Decides.{nat_tests}
use Rattle.wt_names.proofs.Ascii.{encode_some}
use Rattle.wt_guards.specs.declared.role.Role.{Role}
use Rattle.wt_guards.specs.declared.role.Role.TheVariants.{Link, External, Bare, Switch, Toggle, Mark, Group, Function, Node}
use Rattle.wt_guards.specs.declared.role.Stretch.{Stretch}
use Rattle.wt_guards.specs.Content.{ContentSign, Thing, letter, thing, side_of, ends_line, is_function}
use Rattle.wt_guards.specs.Guards.{Setting, end_of, start_of, is_reached, has_brace_last, is_mark, is_always_parted, is_adjacent, left_side, is_parted, is_between_guard, is_guarded}
use Rattle.wt_guards.specs.Table.{hazard}
use Rattle.wt_typed_blocks.proofs.TextReads.{or_parts}
use Rattle.wt_text_edit_laws.proofs.Between.Fronts.{reads_after}
use Rattle.wt_text_edit_laws.proofs.Prose.InFront.{reads_nothing}
use Rattle.wt_span.specs.Items.{Item}
use Rattle.wt_tiles.specs.declared.glyph.Glyph.{Glyph}
use Rattle.wt_tiles.specs.declared.glyph.Glyph.TheVariants as glyph
use Rattle.wt_tiles.specs.declared.glyph.GlyphClass.TheVariants as class
use Rattle.wt_tiles.specs.declared.shape.Shape.{Shape}
use Rattle.wt_tiles.specs.declared.shape.TileKind.{TileKind}
use Rattle.wt_tiles.specs.Contexts.{in_line}
use Rattle.wt_tiles.specs.Glyphs.{glyph_of, is_in, first_is}
use Rattle.wt_tiles.specs.Urls.{is_dropped, is_word, bare_url_at}
use Rattle.wt_beside_laws.specs.Cuts.{own_glyphs, ends_word, form_before}
use Rattle.wt_beside_laws.specs.Nodes.{IsNode, IsDelimiter, IsOneLexeme, IsTagNode, IsCategoryNode, IsMediaNode, AreNodes, MayBeBehind, MayFollow, MayLead, MeetAt, AllStayOpen, AllMeet}
use Rattle.wt_beside_laws.specs.Stood.{is_url_end, EndsUrl, IsTileOf, IsRead, HasBehind, line_glyphs, AreStood, AreAt, things}
use Rattle.wt_beside_laws.proofs.NodesBegin.{no_url}
use Rattle.wt_beside_laws.proofs.NodesEnd.{external_last, lexeme_last, other_last}
use Rattle.wt_beside_laws.proofs.Stood.{stood}
use Rattle.wt_beside_laws.specs.NodeItems.{node_items}
use Rattle.wt_beside_laws.proofs.NodeItems.{node_read}

-- ---- the first item of a node

-- it isn't what joins a link, unless it begins a URL
abbrev NoTrail : List Glyph → Type 0
NoTrail own = first_is class.Trail own ≡ false

trail_follows : (own other : List Glyph) → NoTrail other → MayFollow Link own other
trail_follows own [] h = tt
trail_follows own (g ∷ gs) h = inl h

lexeme_trail : (own : List Glyph) → IsOneLexeme own → NoTrail own
lexeme_trail own n = elim n [
  | inl i ↦ subst NoTrail (sym i) refl
  | inr i ↦ subst NoTrail (sym i.1) refl
]

other_trail : (own : List Glyph) → IsOneLexeme own ⊎ (IsTagNode own ⊎ (IsCategoryNode own ⊎ IsMediaNode own)) → NoTrail own
other_trail own n = elim n [
  | inl one ↦ lexeme_trail own one
  | inr other ↦ elim other [
    | inl tag ↦ subst NoTrail (sym tag.is) refl
    | inr link ↦ elim link [
      | inl category ↦ subst NoTrail (sym category.is) refl
      | inr media ↦ subst NoTrail (sym media.is) refl
    ]
  ]
]

pub delimiter_trail : (own : List Glyph) → IsDelimiter own → NoTrail own
delimiter_trail own n = elim n [
  | inl i ↦ subst NoTrail (sym i) refl
  | inr i ↦ subst NoTrail (sym i) refl
]

-- behind a link, where the table has no `<nowiki/>` between
link_follows : (r : Role) (own : List Glyph) → IsNode r own → hazard (left_side Link) (side_of r) ≡ false → NoTrail own
unfolding hazard
link_follows Link own n e = subst NoTrail (sym n.is) refl
link_follows External own n e = subst NoTrail (sym n.is) refl
link_follows (Bare ends) own n e = cc
link_follows Switch own n e = subst NoTrail (sym n.is) refl
link_follows Toggle own n e = delimiter_trail own n
link_follows (Mark ends began) own n e = subst NoTrail (sym n) refl
link_follows (Group g) own n e = absurd n
link_follows Function own n e = lexeme_trail own n
link_follows Node own n e = other_trail own n

bare_never : (ends : Bool) (r : Role) (own other : List Glyph) → IsNode r other → hazard (left_side (Bare ends)) (side_of r) ≡ false → MayFollow (Bare ends) own other
unfolding hazard
bare_never ends Link own other n e = cc
bare_never ends External own other n e = cc
bare_never ends (Bare last) own other n e = cc
bare_never ends Switch own other n e = cc
bare_never ends Toggle own other n e = cc
bare_never ends (Mark last began) own other n e = cc
bare_never ends (Group g) own other n e = absurd n
bare_never ends Function own other n e = cc
bare_never ends Node own other n e = cc

pub follows_none : (own other : List Glyph) (r : Role) → ((g : Glyph) → MayBeBehind r g) → MayFollow r own other
follows_none own [] r f = tt
follows_none own (g ∷ gs) r f = inl (f g)

table_follows : (r s : Role) (own other : List Glyph) → IsNode r own → IsNode s other → hazard (left_side r) (side_of s) ≡ false → MayFollow r own other
table_follows Link s own other n m e = trail_follows own other (link_follows s other m e)
table_follows External s own other n m e = follows_none own other External (λ g. tt)
table_follows (Bare ends) s own other n m e = bare_never ends s own other m e
table_follows Switch s own other n m e = follows_none own other Switch (λ g. tt)
table_follows Toggle s own other n m e = follows_none own other Toggle (λ g. tt)
table_follows (Mark ends began) s own other n m e = follows_none own other (Mark ends began) (λ g. tt)
table_follows (Group g) s own other n m e = absurd n
table_follows Function s own other n m e = follows_none own other Function (λ g. tt)
table_follows Node s own other n m e = follows_none own other Node (λ g. tt)

-- before a bare URL, where the table has none between
bare_led : (r : Role) (ends : Bool) (own : List Glyph) → IsNode r own → hazard (left_side r) (side_of (Bare ends)) ≡ false → ends_word false own ≡ false
unfolding hazard
bare_led Link ends own n e = cc
bare_led External ends own n e = external_last false own n
bare_led (Bare last) ends own n e = cc
bare_led Switch ends own n e = cc
bare_led Toggle ends own n e = cc
bare_led (Mark last began) ends own n e = ap (ends_word false) n
bare_led (Group g) ends own n e = absurd n
bare_led Function ends own n e = lexeme_last false own n
bare_led Node ends own n e = other_last false own n

table_leads : (r s : Role) (own : List Glyph) → IsNode r own → hazard (left_side r) (side_of s) ≡ false → MayLead s (ends_word false own)
table_leads r Link own n e = tt
table_leads r External own n e = tt
table_leads r (Bare ends) own n e = bare_led r ends own n e
table_leads r Switch own n e = tt
table_leads r Toggle own n e = tt
table_leads r (Mark ends began) own n e = tt
table_leads r (Group g) own n e = tt
table_leads r Function own n e = tt
table_leads r Node own n e = tt

-- ---- two nodes side by side

-- that give these
abbrev pub MeetBy : Thing → List Glyph → Thing → List Glyph → Type 0
MeetBy t left n right = MayFollow t.role left right × MayLead n.role (ends_word false left)

-- each by its source
abbrev pub Meet : Thing → Thing → Type 0
Meet t n = MeetBy t (own_glyphs t) n (own_glyphs n)

-- if they are so in the page
abbrev pub MeetInPage : Thing → Thing → Type 0
MeetInPage t n = is_adjacent t n ≡ true → Meet t n

mark_follows : (r : Role) (own other : List Glyph) → is_mark r ≡ true → MayFollow r own other
mark_follows Link own other e = cc
mark_follows External own other e = cc
mark_follows (Bare ends) own other e = cc
mark_follows Switch own other e = cc
mark_follows Toggle own other e = cc
mark_follows (Mark ends began) own other e = follows_none own other (Mark ends began) (λ g. tt)
mark_follows (Group g) own other e = cc
mark_follows Function own other e = cc
mark_follows Node own other e = cc

mark_led : (r : Role) (word : Bool) → is_mark r ≡ true → MayLead r word
mark_led Link word e = cc
mark_led External word e = cc
mark_led (Bare ends) word e = cc
mark_led Switch word e = cc
mark_led Toggle word e = cc
mark_led (Mark ends began) word e = tt
mark_led (Group g) word e = cc
mark_led Function word e = cc
mark_led Node word e = cc

are_both : (a b : Bool) → (a && b) ≡ true → (a ≡ true) × (b ≡ true)
are_both true true e = (refl, refl)
are_both true false e = cc
are_both false b e = cc

by_table : (f m h p q : Bool) → m ≡ false → (if f then true else if m then q else h && (p || not false)) ≡ false → h ≡ false
by_table true m h p q e z = cc
by_table false true h p q e z = cc
by_table false false true true q e z = cc
by_table false false true false q e z = cc
by_table false false false p q e z = refl

table_meets : (t n : Thing) (left right : List Glyph) → IsNode t.role left → IsNode n.role right → (is_mark t.role && is_mark n.role) ≡ false → is_adjacent t n ≡ false
    → is_parted t n ≡ false → MeetBy t left n right
unfolding is_parted
table_meets t n left right own other both e z =
    let at : (if is_function n.role && has_brace_last t.source then true else if is_mark t.role && is_mark n.role then not (ends_line t.role) && not (is_adjacent t n)
    else hazard (left_side t.role) (side_of n.role) && (is_always_parted t.role n.role || not false)) ≡ false =
    ap (λ (v : Bool). if is_function n.role && has_brace_last t.source then true else if is_mark t.role && is_mark n.role then not (ends_line t.role) && not (is_adjacent t n)
    else hazard (left_side t.role) (side_of n.role) && (is_always_parted t.role n.role || not v)) (sym e) ∙ z in
    let none : hazard (left_side t.role) (side_of n.role) ≡ false =
    by_table (is_function n.role && has_brace_last t.source) (is_mark t.role && is_mark n.role) (hazard (left_side t.role) (side_of n.role)) (is_always_parted t.role n.role) _ both at in
    (table_follows t.role n.role left right own other none, table_leads t.role n.role left own none)

-- beside a mark another one may be
pub meet_apart : (t n : Thing) (left right : List Glyph) → IsNode t.role left → IsNode n.role right → is_adjacent t n ≡ false → is_parted t n ≡ false
    → MeetBy t left n right
meet_apart t n left right own other e z = by (is_mark t.role && is_mark n.role) refl
  where
    by : (v : Bool) → (is_mark t.role && is_mark n.role) ≡ v → MeetBy t left n right
    by true i =
        let marks = are_both (is_mark t.role) (is_mark n.role) i in
        (mark_follows t.role left right marks.0, mark_led n.role (ends_word false left) marks.1)
    by false i = table_meets t n left right own other i e z

pub meet : (t n : Thing) → IsNode t.role (own_glyphs t) → IsNode n.role (own_glyphs n) → MeetInPage t n → is_parted t n ≡ false → Meet t n
meet t n own other page z = meet_by (is_adjacent t n) refl
  where
    meet_by : (v : Bool) → is_adjacent t n ≡ v → Meet t n
    meet_by true e = page e
    meet_by false e = meet_apart t n (own_glyphs t) (own_glyphs n) own other e z

-- ---- all of a content

abbrev pub EachIsNode : List Thing → Type 0
EachIsNode [] = Unit {0}
EachIsNode (t ∷ ts) = IsNode t.role (own_glyphs t) × EachIsNode ts

-- and that follow one another
abbrev pub EachMeets : List Thing → Type 0
EachMeets [] = Unit {0}
EachMeets (t ∷ []) = Unit {0}
EachMeets (t ∷ n ∷ ts) = MeetInPage t n × EachMeets (n ∷ ts)

pub nodes_of : (signs : List ContentSign) → EachIsNode (things signs) → AreNodes signs
nodes_of [] h = tt
nodes_of (letter c ∷ after) h = nodes_of after h
nodes_of (thing t ∷ after) h = (h.0, nodes_of after h.1)

-- the node that is directly before a place
abbrev pub before_of : List ContentSign → List Thing
before_of [] = []
before_of (letter c ∷ before) = []
before_of (thing t ∷ before) = t ∷ []

-- of it and those that come
abbrev pub Come : List ContentSign → List ContentSign → Type 0
Come before signs = EachIsNode (before_of before ++ things signs) × EachMeets (before_of before ++ things signs)

letter_comes : (before : List ContentSign) (ts : List Thing) → EachIsNode (before_of before ++ ts) × EachMeets (before_of before ++ ts) → EachIsNode ts × EachMeets ts
letter_comes [] ts h = h
letter_comes (letter c ∷ before) ts h = h
letter_comes (thing t ∷ before) [] h = (tt, tt)
letter_comes (thing t ∷ before) (n ∷ ts) h = (h.0.1, h.1.1)

pub letter_meets : (u : Bool) (before : List ContentSign) (c : ℕ) (after : List ContentSign) → MeetAt u before (letter c ∷ after) []
letter_meets true before c after = tt
letter_meets false [] c after = tt
letter_meets false (letter d ∷ before) c after = tt
letter_meets false (thing t ∷ before) c after = tt

pub end_meets : (u : Bool) (before : List ContentSign) → MeetAt u before [] []
end_meets true before = tt
end_meets false [] = tt
end_meets false (letter d ∷ before) = tt
end_meets false (thing t ∷ before) = tt

pub unparted : (s : Setting) (t n : Thing) (before after : List ContentSign) → is_guarded s (thing t ∷ before) (thing n ∷ after) ≡ false → is_parted t n ≡ false
unfolding is_guarded is_between_guard
unparted s t n before after e = (or_parts (is_parted t n) _ e).0

thing_meets : (s : Setting) (u : Bool) (before : List ContentSign) (n : Thing) (after : List ContentSign) → is_guarded s before (thing n ∷ after) ≡ u
    → Come before (thing n ∷ after) → MeetAt u before (thing n ∷ after) []
thing_meets s true before n after e h = tt
thing_meets s false [] n after e h = tt
thing_meets s false (letter d ∷ before) n after e h = tt
thing_meets s false (thing t ∷ before) n after e h = meet t n h.0.0 h.0.1.0 h.1.0 (unparted s t n before after e)

pub all_meet : (s : Setting) (before signs : List ContentSign) → Come before signs → AllStayOpen s before signs → AllMeet s before signs []
all_meet s before [] h o = end_meets (is_guarded s before []) before
all_meet s before (letter c ∷ after) h o = (
  letter_meets (is_guarded s before (letter c ∷ after)) before c after,
  o.0,
  all_meet s (letter c ∷ before) after (letter_comes before (things after) h) o.1,
)
all_meet s before (thing n ∷ after) h o = (
  thing_meets s (is_guarded s before (thing n ∷ after)) before n after refl h,
  o.0,
  all_meet s (thing n ∷ before) after (letter_comes before (n ∷ things after) h) o.1,
)

-- ---- of the page

pub each_node : (a : Bool) (olds : List ContentSign) → AreStood a olds → EachIsNode (things olds)
each_node a [] h = tt
each_node a (letter c ∷ after) h = each_node (is_word c) after h
each_node a (thing t ∷ after) h =
    let s = stood a t.role (own_glyphs t) (line_glyphs after) h.0 in (s.node, each_node (ends_word a (own_glyphs t)) after h.1)

-- what a node that is no style delimiter begins with ends no URL
abbrev EndsNone : List Glyph → Type 0
EndsNone [] = Unit {0}
EndsNone (g ∷ gs) = is_in is_url_end g ≡ false

lexeme_none : (own : List Glyph) → IsOneLexeme own → EndsNone own
lexeme_none own n = elim n [
  | inl i ↦ subst EndsNone (sym i) refl
  | inr i ↦ subst EndsNone (sym i.1) refl
]

other_none : (own : List Glyph) → IsOneLexeme own ⊎ (IsTagNode own ⊎ (IsCategoryNode own ⊎ IsMediaNode own)) → EndsNone own
unfolding is_dropped
other_none own n = elim n [
  | inl one ↦ lexeme_none own one
  | inr other ↦ elim other [
    | inl tag ↦ subst EndsNone (sym tag.is) refl
    | inr link ↦ elim link [
      | inl category ↦ subst EndsNone (sym category.is) refl
      | inr media ↦ subst EndsNone (sym media.is) refl
    ]
  ]
]

ends_no_h : (b : ℕ) → is_url_end b ≡ true → (to_ascii_lowercase b == 104) ≡ false
unfolding is_dropped
ends_no_h b e = grind (arith, nat_tests, e)

ends_no_f : (b : ℕ) → is_url_end b ≡ true → (to_ascii_lowercase b == 102) ≡ false
unfolding is_dropped
ends_no_f b e = grind (arith, nat_tests, e)

-- it begins with `h` or `f`
url_none : (b : ℕ) (gs : List Glyph) (w : Shape) → bare_url_at false (glyph.Byte b ∷ gs) ≡ Some w → is_url_end b ≡ false
url_none b gs w is = none_by (is_url_end b) refl
  where
    none_by : (v : Bool) → is_url_end b ≡ v → is_url_end b ≡ false
    none_by true e = let no : true ≡ false = no_url b gs w (ends_no_h b e) (ends_no_f b e) is in cc
    none_by false e = e

node_none : (r : Role) (own : List Glyph) (k : TileKind) → IsNode r own → IsTileOf r k → EndsNone own
unfolding is_dropped
node_none Link own k n tile = subst EndsNone (sym n.is) refl
node_none External own k n tile = subst EndsNone (sym n.is) refl
node_none (Bare ends) own k n tile = subst EndsNone (sym n.is) (url_none n.first n.others n.shape n.url)
node_none Switch own k n tile = subst EndsNone (sym n.is) refl
node_none Toggle own k n tile = absurd tile
node_none (Mark ends began) own k n tile = subst EndsNone (sym n) refl
node_none (Group g) own k n tile = absurd tile
node_none Function own k n tile = lexeme_none own n
node_none Node own k n tile = other_none own n

-- a node that is directly behind another one
past_url : (own other more : List Glyph) (ends : Bool) → EndsUrl (other ++ more) → EndsNone other → MayFollow (Bare ends) own other
past_url own [] more ends h none = tt
past_url own (g ∷ gs) more ends h none = elim h [
  | inl e ↦ inl e
  | inr e ↦ (let no : true ≡ false = sym e ∙ none in cc)
]

past_trail : (own other more : List Glyph) → first_is class.Trail (other ++ more) ≡ false → MayFollow Link own other
past_trail own [] more h = tt
past_trail own (g ∷ gs) more h = inl h

behind_follows : (r : Role) (own other more : List Glyph) → HasBehind r (other ++ more) → EndsNone other → MayFollow r own other
behind_follows Link own other more h none = past_trail own other more h
behind_follows External own other more h none = follows_none own other External (λ g. tt)
behind_follows (Bare ends) own other more h none = past_url own other more ends h none
behind_follows Switch own other more h none = follows_none own other Switch (λ g. tt)
behind_follows Toggle own other more h none = follows_none own other Toggle (λ g. tt)
behind_follows (Mark ends began) own other more h none = follows_none own other (Mark ends began) (λ g. tt)
behind_follows (Group g) own other more h none = follows_none own other (Group g) (λ g. tt)
behind_follows Function own other more h none = follows_none own other Function (λ g. tt)
behind_follows Node own other more h none = follows_none own other Node (λ g. tt)

word_same : (a : Bool) (own : List Glyph) → 0 < length own → ends_word a own ≡ ends_word false own
word_same a [] some = absurd (omega (arith, some))
word_same a (g ∷ gs) some = refl

pub form_some : (a : Bool) (own behind : List Glyph) (w : Shape) → form_before in_line a own behind ≡ Some w → 0 < length own
form_some a [] behind w e = cc
form_some a (g ∷ gs) behind w e = omega arith

-- two that are side by side
beside : (a : Bool) (t n : Thing) (after : List ContentSign) → IsRead a t.role (own_glyphs t) (own_glyphs n ++ line_glyphs after)
    → IsRead (ends_word a (own_glyphs t)) n.role (own_glyphs n) (line_glyphs after) → Meet t n
beside a t n after h k =
    let s = stood a t.role (own_glyphs t) (own_glyphs n ++ line_glyphs after) h in
    let u = stood (ends_word a (own_glyphs t)) n.role (own_glyphs n) (line_glyphs after) k in (
      behind_follows t.role (own_glyphs t) (own_glyphs n) (line_glyphs after) s.has (node_none n.role (own_glyphs n) k.shape.kind u.node k.tile),
      subst (MayLead n.role) (word_same a (own_glyphs t) (form_some a (own_glyphs t) (own_glyphs n ++ line_glyphs after) h.shape h.form)) u.lead,
    )

reached_is : (e s : ℕ) → is_reached (Some e) (Some s) ≡ true → e ≡ s
reached_is e s h = grind (arith, nat_tests, h)

-- a node that ends at `end`, and one that begins at `start`
at_same : (t n : Thing) (end start stop : ℕ) (p : Stretch) → t.place ≡ Some p → p.end ≡ end → n.place ≡ Some (record { start = start; end = stop }) → is_adjacent t n ≡ true → end ≡ start
at_same t n end start stop p e i f h =
    let left : end_of t.place ≡ Some end = ap end_of e ∙ ap (λ (m : ℕ). Some m) i in
    let right : start_of n.place ≡ Some start = ap start_of f in
    reached_is end start (ap (λ (o : Option ℕ). is_reached (Some end) o) (sym right) ∙ ap (λ (o : Option ℕ). is_reached o (start_of n.place)) (sym left) ∙ h)

-- A node and those that come behind it: one that is directly behind it meets it as in the page, and between it and any other one is something.
abbrev pub MeetsEach : Thing → List Thing → Type 0
MeetsEach t [] = Unit {0}
MeetsEach t (n ∷ ts) = MeetInPage t n × MeetsEach t ts

abbrev pub PairsMeet : List Thing → Type 0
PairsMeet [] = Unit {0}
PairsMeet (t ∷ ts) = MeetsEach t ts × PairsMeet ts

pairs_first : (ts : List Thing) → PairsMeet ts → EachMeets ts
pairs_first [] h = tt
pairs_first (t ∷ []) h = tt
pairs_first (t ∷ n ∷ ts) h = (h.0.0, pairs_first (n ∷ ts) h.1)

pub source_some : (bs : List ℕ) → 0 < length (map glyph_of (node_items bs)) → 0 < length bs
source_some [] h =
    let z : length (map glyph_of (node_items [])) ≡ 0 =
    ap (λ (xs : List Item). length (map glyph_of xs)) (node_read [] [] (reads_after true [] [] reads_nothing)) in
    absurd (omega (arith, z, h))
source_some (b ∷ bs) h = omega arith

far : (t : Thing) (end at : ℕ) (p : Stretch) (after : List ContentSign) → t.place ≡ Some p → p.end ≡ end → end < at → AreAt at after → MeetsEach t (things after)
far t end at p [] e i lt places = tt
far t end at p (letter c ∷ after) e i lt places =
    let some = encode_some c in far t end (at + length (encode_utf8 c)) p after e i (omega (arith, lt, some)) places
far t end at p (thing n ∷ after) e i lt places = (
  λ h. let same : end ≡ at = at_same t n end at (at + length n.source) p e i places.0 h in absurd (omega (arith, lt, same)),
  far t end (at + length n.source) p after e i (omega (arith, lt)) places.1,
)

next : (a : Bool) (t : Thing) (end : ℕ) (p : Stretch) (after : List ContentSign) → t.place ≡ Some p → p.end ≡ end → AreAt end after
    → IsRead a t.role (own_glyphs t) (line_glyphs after) → AreStood (ends_word a (own_glyphs t)) after → MeetsEach t (things after)
next a t end p [] e i places h k = tt
next a t end p (letter c ∷ after) e i places h k =
    let some = encode_some c in far t end (end + length (encode_utf8 c)) p after e i (omega (arith, some)) places
next a t end p (thing n ∷ after) e i places h k =
    let some : 0 < length n.source = source_some n.source (form_some (ends_word a (own_glyphs t)) (own_glyphs n) (line_glyphs after) k.0.shape k.0.form) in
    (λ z. beside a t n after h k.0, far t end (end + length n.source) p after e i (omega (arith, some)) places.1)

pub all_pairs : (a : Bool) (at : ℕ) (olds : List ContentSign) → AreStood a olds → AreAt at olds → PairsMeet (things olds)
all_pairs a at [] h places = tt
all_pairs a at (letter c ∷ after) h places = all_pairs (is_word c) (at + length (encode_utf8 c)) after h places
all_pairs a at (thing t ∷ after) h places = (
  next a t (at + length t.source) (record { start = at; end = at + length t.source }) after places.0 refl places.1 h.0 h.1,
  all_pairs (ends_word a (own_glyphs t)) (at + length t.source) after h.1 places.1,
)

-- ---- its nodes, with any texts between them

pub nodes_stay : (olds signs : List ContentSign) → AreStood false olds → things signs ≡ things olds → AreNodes signs
nodes_stay olds signs h same = nodes_of signs (subst EachIsNode (sym same) (each_node false olds h))

pub nodes_meet : (s : Setting) (olds signs : List ContentSign) (at : ℕ) → AreStood false olds → AreAt at olds → things signs ≡ things olds
    → AllStayOpen s [] signs → AllMeet s [] signs []
nodes_meet s olds signs at h places same unclosed =
    all_meet s [] signs
    (subst EachIsNode (sym same) (each_node false olds h), pairs_first (things signs) (subst PairsMeet (sym same) (all_pairs false at olds h places))) unclosed
