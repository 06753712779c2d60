-- Where nothing is put between two signs, neither is what would join the other.
use Rattle.std.proofs.Common.{arith, ◌≡◌, ℕ, ◌<◌, ◌≤◌, Bool, true, false, List, [], ◌∷◌, ◌++◌, refl, sym, subst, inl, inr, ◌==◌}
use Rattle.std.specs.Prelude.{◌&&◌, not, codes}
use Rattle.std.proofs.lemmas.Bool.Decides.{nat_tests}
use Rattle.std.proofs.lemmas.Str.{encode_ascii}
use Rattle.wt_span.specs.Bytes.{is_white}
use Rattle.wt_guards.specs.declared.role.Role.{Role}
use Rattle.wt_guards.specs.declared.role.Role.TheVariants.{Link, External, Bare, Switch, Toggle, Mark, Group, Function, Node}
use Rattle.wt_guards.specs.declared.side.Side.TheVariants as side
use Rattle.wt_guards.specs.Content.{ContentSign, Thing, letter, thing, side_of}
use Rattle.wt_guards.specs.Table.{hazard, is_trail}
use Rattle.wt_guards.specs.Guards.{Setting, left_side, is_guarded, is_between_guard}
use Rattle.wt_guards.specs.Letters.{is_escaped}
use Rattle.wt_typed_blocks.proofs.TextReads.{or_parts}
use Rattle.wt_tiles.specs.declared.glyph.Glyph.{Glyph}
use Rattle.wt_tiles.specs.declared.glyph.Glyph.TheVariants as glyph
use Rattle.wt_tiles.specs.declared.glyph.GlyphClass.TheVariants as class
use Rattle.wt_tiles.specs.Contexts.{in_line}
use Rattle.wt_tiles.specs.Glyphs.{is_in, in_class, begins, byte_glyphs}
use Rattle.wt_tiles.specs.Urls.{is_url_char, is_word}
use Rattle.wt_beside_laws.specs.Cuts.{own_glyphs, is_word_last, AllStand}
use Rattle.wt_beside_laws.specs.Glyphs.{guard_glyphs, letter_glyphs, content_glyphs, AvoidsUrls, AllAvoid}
use Rattle.wt_beside_laws.specs.Nodes.{AreNodes, NoneOpensPair, MayBeBehind, MayFollow, MayLead, MeetAt, AllMeet}
use Rattle.wt_beside_laws.proofs.NodesStand.{node_stands}
use Rattle.wt_beside_laws.proofs.OpenTags.{closed_open}
use Rattle.wt_beside_laws.proofs.TypedForms.{letter_fits, FirstFits}

-- ---- a node and a letter

pub letter_behind : (s : Setting) (t : Thing) (before : List ContentSign) (d : ℕ) (after : List ContentSign)
    → is_guarded s (thing t ∷ before) (letter d ∷ after) ≡ false → hazard (left_side t.role) (side.Text d) ≡ false
unfolding is_guarded is_between_guard
letter_behind s t before d after e = (or_parts (hazard (left_side t.role) (side.Text d)) _ e).0

pub letter_before : (s : Setting) (t : Thing) (before : List ContentSign) (d : ℕ) (after : List ContentSign)
    → is_guarded s (letter d ∷ before) (thing t ∷ after) ≡ false → hazard (side.Text d) (side_of t.role) ≡ false
unfolding is_guarded is_between_guard
letter_before s t before d after e = (or_parts (hazard (side.Text d) (side_of t.role)) _ e).0

-- what is first, as it may be behind a node
pub by_fits : (r : Role) (own gs : List Glyph) → FirstFits (MayBeBehind r) gs → MayFollow r own gs
by_fits r own [] h = tt
by_fits r own (g ∷ gs) h = inl h

no_trail : (d : ℕ) → is_trail d ≡ false → in_class class.Trail (glyph.Byte d) ≡ false
no_trail d e = e

wide_no_trail : (b : ℕ) → 128 ≤ b → in_class class.Trail (glyph.Byte b) ≡ false
wide_no_trail b le = grind (arith, nat_tests)

link_letter : (t : Bool) (d : ℕ) (more : List Glyph) → hazard (left_side Link) (side.Text d) ≡ false → FirstFits (MayBeBehind Link) (letter_glyphs t d ++ more)
unfolding hazard
link_letter t d more e = letter_fits (MayBeBehind Link) t d more refl (λ z. no_trail d e) wide_no_trail

not_false : (b : Bool) → not b ≡ false → b ≡ true
not_false true e = refl
not_false false e = cc

white_small : (d : ℕ) → is_white d ≡ true → d < 128
white_small d e = grind (arith, nat_tests, e)

white_no_url : (d : ℕ) → is_white d ≡ true → is_url_char d ≡ false
unfolding is_url_char
white_no_url d e = grind (arith, nat_tests, e)

url_letter : (ends t : Bool) (d : ℕ) (more : List Glyph) → is_white d ≡ true → FirstFits (MayBeBehind (Bare ends)) (letter_glyphs t d ++ more)
url_letter ends true d more e = white_no_url d e
url_letter ends false d more e =
    subst (λ bs. FirstFits (MayBeBehind (Bare ends)) (byte_glyphs bs ++ more)) (sym (encode_ascii d (white_small d e))) (white_no_url d e)

bare_letter : (ends t : Bool) (d : ℕ) (more : List Glyph) → hazard (left_side (Bare ends)) (side.Text d) ≡ false
    → FirstFits (MayBeBehind (Bare ends)) (letter_glyphs t d ++ more)
unfolding hazard
bare_letter ends t d more e = url_letter ends t d more (not_false (is_white d) e)

pub letter_may : (r : Role) (t : Bool) (d : ℕ) (more : List Glyph) → hazard (left_side r) (side.Text d) ≡ false → FirstFits (MayBeBehind r) (letter_glyphs t d ++ more)
letter_may Link t d more e = link_letter t d more e
letter_may External t d more e = letter_fits (MayBeBehind External) t d more tt (λ z. tt) (λ b le. tt)
letter_may (Bare ends) t d more e = bare_letter ends t d more e
letter_may Switch t d more e = letter_fits (MayBeBehind Switch) t d more tt (λ z. tt) (λ b le. tt)
letter_may Toggle t d more e = letter_fits (MayBeBehind Toggle) t d more tt (λ z. tt) (λ b le. tt)
letter_may (Mark ends began) t d more e = letter_fits (MayBeBehind (Mark ends began)) t d more tt (λ z. tt) (λ b le. tt)
letter_may (Group g) t d more e = letter_fits (MayBeBehind (Group g)) t d more tt (λ z. tt) (λ b le. tt)
letter_may Function t d more e = letter_fits (MayBeBehind Function) t d more tt (λ z. tt) (λ b le. tt)
letter_may Node t d more e = letter_fits (MayBeBehind Node) t d more tt (λ z. tt) (λ b le. tt)

pub word_before : (r : Role) (d : ℕ) → hazard (side.Text d) (side_of r) ≡ false → MayLead r (is_word d)
unfolding hazard
word_before Link d e = tt
word_before External d e = tt
word_before (Bare ends) d e = e
word_before Switch d e = tt
word_before Toggle d e = tt
word_before (Mark ends began) d e = tt
word_before (Group g) d e = tt
word_before Function d e = tt
word_before Node d e = tt

-- ---- where `<nowiki/>` is put, and the ends

pub atom_may : (r : Role) → MayBeBehind r glyph.Atom
atom_may Link = refl
atom_may External = tt
atom_may (Bare ends) = refl
atom_may Switch = tt
atom_may Toggle = tt
atom_may (Mark ends began) = tt
atom_may (Group g) = tt
atom_may Function = tt
atom_may Node = tt

pub none_before : (r : Role) → MayLead r false
none_before Link = tt
none_before External = tt
none_before (Bare ends) = refl
none_before Switch = tt
none_before Toggle = tt
none_before (Mark ends began) = tt
none_before (Group g) = tt
none_before Function = tt
none_before Node = tt

pub guard_may : (r : Role) (own : List Glyph) (u : Bool) (more : List Glyph) → (u ≡ false → MayFollow r own more) → MayFollow r own (guard_glyphs u ++ more)
guard_may r own true more f = inl (atom_may r)
guard_may r own false more f = f refl

both_more : (v u w : Bool) → (v && u) ≡ true → (u ≡ true → w ≡ true) → (v && w) ≡ true
both_more true u w e f = f e
both_more false u w e f = cc

pub begins_more : (word : List ℕ) (gs more : List Glyph) → begins word gs ≡ true → begins word (gs ++ more) ≡ true
begins_more [] gs more e = e
begins_more (b ∷ word) [] more e = cc
begins_more (b ∷ word) (g ∷ gs) more e =
    both_more (is_in (λ (c : ℕ). c == b) g) (begins word gs) (begins word (gs ++ more)) e (begins_more word gs more)

pub node_first : (r : Role) (own other more : List Glyph) → AvoidsUrls other → MayFollow r own other → MayFollow r own (other ++ more)
node_first r own [] more h f = absurd h
node_first r own (g ∷ gs) more h f = elim f [
  | inl e ↦ inl e
  | inr q ↦ inr (record { unquoted = q.unquoted; quotes = begins_more (codes "''") (g ∷ gs) more q.quotes })
]

-- ---- all of them

pub follows : (s : Setting) (t : Thing) (before after : List ContentSign) (rest : List Glyph) → AllAvoid after → AllMeet s (thing t ∷ before) after rest
    → MayFollow t.role (own_glyphs t) (content_glyphs s (thing t ∷ before) after rest)
follows s t before [] rest h m =
    guard_may t.role (own_glyphs t) (is_guarded s (thing t ∷ before) []) rest (λ e. subst (λ u. MeetAt u (thing t ∷ before) [] rest) e m)
follows s t before (letter d ∷ after) rest h m =
    let e = is_escaped s.within s.place (thing t ∷ before) d after in
    let own : List Glyph = letter_glyphs e d ++ content_glyphs s (letter d ∷ thing t ∷ before) after rest in
    guard_may t.role (own_glyphs t) (is_guarded s (thing t ∷ before) (letter d ∷ after)) own
    (λ z. by_fits t.role (own_glyphs t) own (letter_may t.role e d (content_glyphs s (letter d ∷ thing t ∷ before) after rest) (letter_behind s t before d after z)))
follows s t before (thing n ∷ after) rest h m =
    let more : List Glyph = content_glyphs s (thing n ∷ thing t ∷ before) after rest in
    guard_may t.role (own_glyphs t) (is_guarded s (thing t ∷ before) (thing n ∷ after)) (own_glyphs n ++ more)
    (λ z. node_first t.role (own_glyphs t) (own_glyphs n) more h.0 (subst (λ u. MeetAt u (thing t ∷ before) (thing n ∷ after) rest) z m.0).0)

pub leads_by : (s : Setting) (t : Thing) (before after : List ContentSign) (rest : List Glyph) (u : Bool) → is_guarded s before (thing t ∷ after) ≡ u
    → MeetAt u before (thing t ∷ after) rest → MayLead t.role (not u && is_word_last before)
leads_by s t before after rest true e m = none_before t.role
leads_by s t [] after rest false e m = none_before t.role
leads_by s t (letter d ∷ before) after rest false e m = word_before t.role d (letter_before s t before d after e)
leads_by s t (thing n ∷ before) after rest false e m = m.1

pub nodes_stand : (s : Setting) (before signs : List ContentSign) (rest : List Glyph) → AreNodes signs → NoneOpensPair signs → AllAvoid signs
    → AllMeet s before signs rest → AllStand in_line s before signs rest
nodes_stand s before [] rest n c h m = tt
nodes_stand s before (letter d ∷ after) rest n c h m = nodes_stand s (letter d ∷ before) after rest n c h m.2
nodes_stand s before (thing t ∷ after) rest n c h m =
    let u = is_guarded s before (thing t ∷ after) in
    let behind : List Glyph = content_glyphs s (thing t ∷ before) after rest in (
      node_stands t.role (not u && is_word_last before) (own_glyphs t) behind n.0 (follows s t before after rest h.1 m.2)
          (leads_by s t before after rest u refl m.0) (closed_open (own_glyphs t) behind c.0),
      nodes_stand s (thing t ∷ before) after rest n.1 c.1 h.1 m.2,
    )
