-- The tiles of a line of a content, sign by sign.
use Rattle.std.proofs.Common.{arith, ◌≡◌, ℕ, zero, ◌+◌, ◌==◌, Bool, true, false, Option, Some, None, List, [], ◌∷◌, ◌++◌, length, refl, sym, ap, ◌∙◌, subst, append_assoc, inl}
use Rattle.std.specs.Prelude.{◌&&◌, not, if◌then◌else◌, codes, option_map}
use Rattle.wt_guards.specs.declared.role.Role.{Role}
use Rattle.wt_guards.specs.declared.side.Side.TheVariants as side
use Rattle.wt_guards.specs.Content.{ContentSign, Thing, letter, thing}
use Rattle.wt_guards.specs.Guards.{Setting, left_side, is_guarded}
use Rattle.wt_guards.specs.Letters.{is_bracket, is_escaped}
use Rattle.wt_guards.specs.Table.{hazard}
use Rattle.wt_typed_blocks.proofs.TextReads.{bracket_escaped, not_bracket, or_parts}
use Rattle.wt_tiles.specs.declared.context.Context.{Context}
use Rattle.wt_tiles.specs.declared.glyph.Glyph.{Glyph}
use Rattle.wt_tiles.specs.declared.glyph.Glyph.TheVariants as glyph
use Rattle.wt_tiles.specs.declared.tag.Tag.{Tag}
use Rattle.wt_tiles.specs.declared.shape.TileKind.TheVariants as kind
use Rattle.wt_tiles.specs.Contexts.{in_line}
use Rattle.wt_tiles.specs.Glyphs.{is_in, begins, like_byte, begins_like}
use Rattle.wt_tiles.specs.Links.{leaf}
use Rattle.wt_tiles.specs.Tags.{tag_at}
use Rattle.wt_tiles.specs.Tiles.{Cut, form_at, switch_names, switch_len, switch_at}
use Rattle.wt_tiles.specs.Urls.{scheme_len}
use Rattle.wt_beside_laws.specs.Beginnings.{AllAvoidSwitches}
use Rattle.wt_beside_laws.specs.Cuts.{own_glyphs, own_form, add_node, guard_cut, letter_cut, is_word_last}
use Rattle.wt_beside_laws.specs.Glyphs.{guard_glyphs, letter_glyphs, content_glyphs, line_glyphs, AllAvoid}
use Rattle.wt_beside_laws.specs.Nodes.{AreNodes, MayFollow, MeetAt, AllMeet}
use Rattle.wt_beside_laws.proofs.ContentTiles.{Follows, guard_follows, letter_follows, node_follows}
use Rattle.wt_beside_laws.proofs.NodesMeet.{letter_behind, by_fits, letter_may, atom_may, guard_may, node_first, leads_by}
use Rattle.wt_beside_laws.proofs.NodesStand.{node_stands}
use Rattle.wt_beside_laws.proofs.TagTiles.{tag_stays}
use Rattle.wt_beside_laws.proofs.TypedForms.{link_none, external_none, bare_none, all_none, tag_none, switch_none}
use Rattle.wt_beside_laws.proofs.TypedTiles.{scheme_none}

-- ---- where no form begins, none begins by fewer items

both_less : (v u w : Bool) → (v && u) ≡ false → (u ≡ false → w ≡ false) → (v && w) ≡ false
both_less true u w e f = f e
both_less false u w e f = refl

word_less : (word : List ℕ) (gs more : List Glyph) → begins word (gs ++ more) ≡ false → begins word gs ≡ false
word_less [] gs more e = e
word_less (b ∷ word) [] more e = refl
word_less (b ∷ word) (g ∷ gs) more e =
    both_less (is_in (λ (c : ℕ). c == b) g) (begins word (gs ++ more)) (begins word gs) e (word_less word gs more)

like_less : (word : List ℕ) (gs more : List Glyph) → begins_like word (gs ++ more) ≡ false → begins_like word gs ≡ false
like_less [] gs more e = e
like_less (b ∷ word) [] more e = refl
like_less (b ∷ word) (g ∷ gs) more e = both_less (like_byte b g) (begins_like word (gs ++ more)) (begins_like word gs) e (like_less word gs more)

scheme_by : (u v w : Bool) → (if u then 7 else (if v then 8 else (if w then 6 else 0))) ≡ zero → (u ≡ false) × (v ≡ false) × (w ≡ false)
scheme_by true v w e = absurd (omega (arith, e))
scheme_by false true w e = absurd (omega (arith, e))
scheme_by false false true e = absurd (omega (arith, e))
scheme_by false false false e = (refl, refl, refl)

pub scheme_less : (gs more : List Glyph) → scheme_len (gs ++ more) ≡ 0 → scheme_len gs ≡ 0
unfolding scheme_len
scheme_less gs more e =
    let none = scheme_by (begins_like (codes "http://") (gs ++ more)) (begins_like (codes "https://") (gs ++ more)) (begins_like (codes "ftp://") (gs ++ more)) e in
    rw (like_less (codes "http://") gs more none.0, like_less (codes "https://") gs more none.1, like_less (codes "ftp://") gs more none.2) refl

pub tag_less : (gs more : List Glyph) → tag_at (gs ++ more) ≡ None → tag_at gs ≡ None
tag_less gs more e = by (tag_at gs) refl
  where
    by : (o : Option Tag) → tag_at gs ≡ o → tag_at gs ≡ None
    by None i = i
    by (Some t) i = let no : None ≡ Some t = sym e ∙ tag_stays gs more t i in cc

if_less : (u v : Bool) (n : ℕ) (o p : Option ℕ) → (if u then Some n else o) ≡ None → (u ≡ false → v ≡ false) → (o ≡ None → p ≡ None)
    → (if v then Some n else p) ≡ None
if_less true v n o p e f g = cc
if_less false v n o p e f g = ap (λ (t : Bool). if t then Some n else p) (f refl) ∙ g e

len_less : (words : List (List ℕ)) (gs more : List Glyph) → switch_len words (gs ++ more) ≡ None → switch_len words gs ≡ None
len_less [] gs more e = refl
len_less (word ∷ words) gs more e =
    if_less (begins word (gs ++ more)) (begins word gs) (length word) (switch_len words (gs ++ more)) (switch_len words gs) e
    (word_less word gs more) (len_less words gs more)

map_less : {A B : Type 0} (f : A → B) (u : Bool) (o p : Option A) → (if u then option_map f o else None) ≡ None → (o ≡ None → p ≡ None)
    → (if u then option_map f p else None) ≡ None
map_less f true None p e g = ap (option_map f) (g refl)
map_less f true (Some a) p e g = cc
map_less f false o p e g = refl

one_only : (v : Bool) → (v && false) ≡ false
one_only true = refl
one_only false = refl

pub switch_less : (gs more : List Glyph) → switch_at (gs ++ more) ≡ None → switch_at gs ≡ None
unfolding switch_at
switch_less [] more e = refl
switch_less (g ∷ []) more e = rw (one_only (is_in (λ (c : ℕ). c == 95) g)) refl
switch_less (g ∷ h ∷ gs) more e =
    map_less (λ (n : ℕ). leaf kind.Switch (2 + n)) (begins (codes "__") (g ∷ h ∷ gs)) (switch_len switch_names (gs ++ more)) (switch_len switch_names gs) e
    (len_less switch_names gs more)

-- ---- a line of the content

abbrev pub line_cut : Context → Setting → List ContentSign → List ContentSign → Cut
line_cut cx s before [] = guard_cut (is_guarded s before []) (0, [])
line_cut cx s before (letter d ∷ after) =
    guard_cut (is_guarded s before (letter d ∷ after))
    (if d == 10 then (0, []) else letter_cut (is_escaped s.within s.place before d after) d (line_cut cx s (letter d ∷ before) after))
line_cut cx s before (thing t ∷ after) =
    guard_cut (is_guarded s before (thing t ∷ after)) (add_node (own_form cx (own_glyphs t)) (length (own_glyphs t)) (line_cut cx s (thing t ∷ before) after))

-- the whole content goes on with more
pub record Front (gs all : List Glyph) : Type 0 where
  pub more : List Glyph
  pub is : all ≡ gs ++ more

put_front : (us gs all : List Glyph) → Front gs all → Front (us ++ gs) (us ++ all)
put_front us gs all f = record { more = f.more; is = ap (λ ys. us ++ ys) f.is ∙ sym (append_assoc us gs f.more) }

pub line_front : (s : Setting) (before signs : List ContentSign) → Front (line_glyphs s before signs) (content_glyphs s before signs [])
line_front s before [] = record { more = []; is = refl }
line_front s before (letter c ∷ after) =
    let own : List Glyph = letter_glyphs (is_escaped s.within s.place before c after) c in
    let gs : List Glyph = line_glyphs s (letter c ∷ before) after in
    let all : List Glyph = content_glyphs s (letter c ∷ before) after [] in
    put_front (guard_glyphs (is_guarded s before (letter c ∷ after))) (if c == 10 then [] else own ++ gs) (own ++ all)
    (by (c == 10) own gs all (line_front s (letter c ∷ before) after))
  where
    by : (t : Bool) (own gs all : List Glyph) → Front gs all → Front (if t then [] else own ++ gs) (own ++ all)
    by true own gs all f = record { more = own ++ all; is = refl }
    by false own gs all f = put_front own gs all f
line_front s before (thing t ∷ after) =
    let gs : List Glyph = line_glyphs s (thing t ∷ before) after in
    let all : List Glyph = content_glyphs s (thing t ∷ before) after [] in
    put_front (guard_glyphs (is_guarded s before (thing t ∷ after))) (own_glyphs t ++ gs) (own_glyphs t ++ all)
    (put_front (own_glyphs t) gs all (line_front s (thing t ∷ before) after))

-- ---- what is typed

line_none : (cx : Context) (a : Bool) (s : Setting) (before : List ContentSign) (c : ℕ) (after : List ContentSign)
    → is_escaped s.within s.place before c after ≡ false → AllAvoid after → AllAvoidSwitches after
    → form_at cx a (glyph.Byte c ∷ line_glyphs s (letter c ∷ before) after) ≡ None
line_none cx a s before c after e urls switches =
    let gs : List Glyph = line_glyphs s (letter c ∷ before) after in
    let front = line_front s (letter c ∷ before) after in
    let b = not_bracket (is_bracket c) (is_escaped s.within s.place before c after) (bracket_escaped s.within s.place before c after) e in
    let bracket = or_parts (c == 91) _ b in
    all_none cx a (glyph.Byte c ∷ gs) (link_none c gs bracket.0) (external_none c gs bracket.0)
    (bare_none a (glyph.Byte c ∷ gs) (scheme_less (glyph.Byte c ∷ gs) front.more
    (subst (λ ys. scheme_len (glyph.Byte c ∷ ys) ≡ 0) front.is (scheme_none s (letter c ∷ before) after [] (glyph.Byte c) urls tt))))
    (tag_less (glyph.Byte c ∷ gs) front.more (subst (λ ys. tag_at (glyph.Byte c ∷ ys) ≡ None) front.is (tag_none s before c after [] e)))
    (switch_less (glyph.Byte c ∷ gs) front.more (subst (λ ys. switch_at (glyph.Byte c ∷ ys) ≡ None) front.is (switch_none s before c after [] switches refl)))

-- ---- a node that stays

end_may : (r : Role) (own : List Glyph) (u : Bool) → MayFollow r own (guard_glyphs u)
end_may r own true = inl (atom_may r)
end_may r own false = tt

line_letter : (r : Role) (own : List Glyph) (v e : Bool) (d : ℕ) (more : List Glyph) → hazard (left_side r) (side.Text d) ≡ false
    → MayFollow r own (if v then [] else letter_glyphs e d ++ more)
line_letter r own true e d more h = tt
line_letter r own false e d more h = by_fits r own (letter_glyphs e d ++ more) (letter_may r e d more h)

-- what its line has behind it
line_may : (s : Setting) (t : Thing) (before after : List ContentSign) → AllAvoid after → AllMeet s (thing t ∷ before) after []
    → MayFollow t.role (own_glyphs t) (line_glyphs s (thing t ∷ before) after)
line_may s t before [] h m = end_may t.role (own_glyphs t) (is_guarded s (thing t ∷ before) [])
line_may s t before (letter d ∷ after) h m =
    let e : Bool = is_escaped s.within s.place (thing t ∷ before) d after in
    let more : List Glyph = line_glyphs s (letter d ∷ thing t ∷ before) after in
    guard_may t.role (own_glyphs t) (is_guarded s (thing t ∷ before) (letter d ∷ after)) (if d == 10 then [] else letter_glyphs e d ++ more)
    (λ z. line_letter t.role (own_glyphs t) (d == 10) e d more (letter_behind s t before d after z))
line_may s t before (thing n ∷ after) h m =
    let more : List Glyph = line_glyphs s (thing n ∷ thing t ∷ before) after in
    guard_may t.role (own_glyphs t) (is_guarded s (thing t ∷ before) (thing n ∷ after)) (own_glyphs n ++ more)
    (λ z. node_first t.role (own_glyphs t) (own_glyphs n) more h.0 (subst (λ u. MeetAt u (thing t ∷ before) (thing n ∷ after) []) z m.0).0)

-- ---- the line

pub end_follows : (cx : Context) (word u : Bool) → Follows cx word (guard_glyphs u) (guard_cut u (0, []))
end_follows cx word true a h = refl
end_follows cx word false a h = refl

pub letter_by : (cx : Context) (word e : Bool) (t : Bool) (d : ℕ) (more : List Glyph) (c : Cut) → Follows cx word (letter_glyphs e d ++ more) (letter_cut e d c)
    → Follows cx word (if t then [] else letter_glyphs e d ++ more) (if t then (0, []) else letter_cut e d c)
letter_by cx word e true d more c f a h = refl
letter_by cx word e false d more c f a h = f a h

pub line_follows : (s : Setting) (before signs : List ContentSign) → AreNodes signs → AllAvoid signs → AllAvoidSwitches signs → AllMeet s before signs []
    → Follows in_line (is_word_last before) (line_glyphs s before signs) (line_cut in_line s before signs)
line_follows s before [] n urls switches m = end_follows in_line (is_word_last before) (is_guarded s before [])
line_follows s before (letter d ∷ after) n urls switches m =
    let u = is_guarded s before (letter d ∷ after) in
    let e = is_escaped s.within s.place before d after in
    let more : List Glyph = line_glyphs s (letter d ∷ before) after in
    let c : Cut = line_cut in_line s (letter d ∷ before) after in
    guard_follows in_line (is_word_last before) u (if d == 10 then [] else letter_glyphs e d ++ more) (if d == 10 then (0, []) else letter_cut e d c)
    (letter_by in_line (not u && is_word_last before) e (d == 10) d more c
    (letter_follows in_line (not u && is_word_last before) e d more c (λ z a. line_none in_line a s before d after z urls switches)
    (line_follows s (letter d ∷ before) after n urls switches m.2)))
line_follows s before (thing t ∷ after) n urls switches m =
    let u = is_guarded s before (thing t ∷ after) in
    let own : List Glyph = own_glyphs t in
    let more : List Glyph = line_glyphs s (thing t ∷ before) after in
    let word = not u && is_word_last before in
    guard_follows in_line (is_word_last before) u (own ++ more) (add_node (own_form in_line own) (length own) (line_cut in_line s (thing t ∷ before) after))
    (node_follows in_line word (own_form in_line own) own more (line_cut in_line s (thing t ∷ before) after)
    (node_stands t.role word own more n.0 (line_may s t before after urls.1 m.2) (leads_by s t before after [] u refl m.0) m.1)
    (line_follows s (thing t ∷ before) after n.1 urls.1 switches.1 m.2))
