-- Behind a bare URL no reference goes on: `<nowiki/>` is put there before a character that isn't white, and before a node that isn't behind the URL in the
-- page; one that is doesn't begin with what goes on with a URL.
use Rattle.std.proofs.Common.{◌≡◌, ◌≢◌, ◌⊎◌, inl, inr, arith, ℕ, ◌<◌, ◌==◌, Bool, true, false, not, Some, None, List, [], ◌∷◌, ◌++◌, map, refl, sym, ap, ◌∙◌, subst, append-nil}
use Rattle.std.specs.Prelude.{◌&&◌, ◌||◌, codes}
use Rattle.std.proofs.lemmas.Bool.{eqb-true}
use Rattle.std.proofs.lemmas.Bool.Decides.{nat_tests}
use Rattle.std.proofs.lemmas.Str.{encode_ascii}
use Rattle.wt_span.specs.declared.form.Mode.TheVariants.{Page}
use Rattle.wt_span.specs.Bytes.{is_blank, is_break, is_white}
use Rattle.wt_span.specs.Items.{Item, char}
use Rattle.wt_span.specs.Lexemes.{form_at}
use Rattle.wt_lex.specs.Words.{is_form_byte}
use Rattle.wt_lex.proofs.Begins.{and_left}
use Rattle.wt_guards.specs.declared.role.Role.{Role}
use Rattle.wt_guards.specs.declared.role.Role.TheVariants.{Link, External, Bare, Switch, Toggle, Mark, Group, Function, Node}
use Rattle.wt_guards.specs.declared.side.Side.TheVariants as side
use Rattle.wt_guards.specs.Content.{ContentSign, Thing, letter, thing}
use Rattle.wt_guards.specs.Guards.{Setting, nowiki, nowiki_if, left_side, is_between_guard, is_guarded, is_mark as is_mark_role, spelled_from}
use Rattle.wt_guards.specs.Letters.{is_escaped, written_by}
use Rattle.wt_guards.specs.Table.{hazard}
use Rattle.wt_guards.proofs.Escapes.{escapable}
use Rattle.wt_tiles.specs.declared.glyph.Glyph.{Glyph}
use Rattle.wt_tiles.specs.declared.glyph.Glyph.TheVariants as glyph
use Rattle.wt_tiles.specs.Glyphs.{glyph_of, begins}
use Rattle.wt_tiles.specs.Urls.{is_url_char}
use Rattle.wt_typed_blocks.proofs.Forms.{other_byte, comment_other}
use Rattle.wt_text_edit_laws.specs.ReadContents.{joins_reference, BeginsUnjoined}
use Rattle.wt_text_edit_laws.proofs.Between.Fronts.{items_from, byte_from}
use Rattle.wt_text_edit_laws.proofs.Prose.Uncommented.{uncommented_other, either_flag}
use Rattle.wt_text_edit_laws.proofs.Texts.TypedItems.{references}
use Rattle.wt_beside_laws.specs.Cuts.{own_glyphs}
use Rattle.wt_beside_laws.specs.Flat.{IsFlatContent, IsReadIn}
use Rattle.wt_beside_laws.specs.NodeItems.{node_items}
use Rattle.wt_beside_laws.specs.Nodes.{IsNode, AreNodes, IsBeforeQuotes, MayFollow, MayLead, MeetAt, AllMeet}
use Rattle.wt_beside_laws.specs.Styled.{StyledContent, signs_in, IsStyledContent}
use Rattle.wt_beside_laws.specs.Unjoined.{IsUnjoined, AllUnjoined}
use Rattle.wt_beside_laws.proofs.Marks.Shown.{FirstShown, node_shown}
use Rattle.wt_beside_laws.proofs.NodeItems.{are_from}

-- ---- what is put, and what is typed

nowiki_unjoined : (q : List ℕ) → BeginsUnjoined (nowiki ++ q)
unfolding nowiki
nowiki_unjoined q = refl

guard_unjoined : (u : Bool) (q : List ℕ) → (u ≡ false → BeginsUnjoined q) → BeginsUnjoined (nowiki_if u ++ q)
guard_unjoined true q f = nowiki_unjoined q
guard_unjoined false q f = f refl

white_unjoined : (c : ℕ) → is_white c ≡ true → (joins_reference c ≡ false) × (c < 128)
white_unjoined c e = (grind (arith, nat_tests, e), grind (arith, nat_tests, e))

letter_unjoined : (s : Setting) (before : List ContentSign) (c : ℕ) (after : List ContentSign) (more : List ℕ) (e : Bool) → is_escaped s.within s.place before c after ≡ e
    → is_white c ≡ true → BeginsUnjoined (written_by e c ++ more)
letter_unjoined s before c after more true h w =
    let r = references c (escapable s.within s.place before c after h) in
    subst (λ (bs : List ℕ). BeginsUnjoined (bs ++ more)) (sym r.is) refl
letter_unjoined s before c after more false h w =
    let own = white_unjoined c w in subst (λ (bs : List ℕ). BeginsUnjoined (bs ++ more)) (sym (encode_ascii c own.1)) own.0

-- a URL is parted from a character that isn't white
or_false : (a b : Bool) → (a || b) ≡ false → a ≡ false
or_false true b e = e
or_false false b e = refl

not_false : (v : Bool) → not v ≡ false → v ≡ true
not_false true e = refl
not_false false e = absurd (cc)

unparted_between : (s : Setting) (before after : List ContentSign) (t : Thing) (next : ContentSign) → is_guarded s (thing t ∷ before) (next ∷ after) ≡ false
    → is_between_guard (Some (thing t)) (Some next) ≡ false
unfolding is_guarded
unparted_between s before after t next g = or_false (is_between_guard (Some (thing t)) (Some next)) _ g

unparted_white : (ends : Bool) (t : Thing) (c : ℕ) → t.role ≡ Bare ends → is_between_guard (Some (thing t)) (Some (letter c)) ≡ false → is_white c ≡ true
unfolding is_between_guard hazard
unparted_white ends t c r g = not_false (is_white c) (sym (ap (λ (x : Role). hazard (left_side x) (side.Text c)) r) ∙ g)

-- ---- a node

joins_differs : (c : ℕ) → joins_reference c ≡ true → (is_form_byte c ≡ false) × (is_blank c ≡ false) × (c ≢ 60)
joins_differs c e = (grind (arith, nat_tests, e), grind (arith, nat_tests, e), omega_differs c e)
  where
    omega_differs : (k : ℕ) → joins_reference k ≡ true → k ≢ 60
    omega_differs k f = λ i. let no : joins_reference 60 ≡ true = subst (λ (m : ℕ). joins_reference m ≡ true) i f in absurd (cc)

joins_url : (c : ℕ) → joins_reference c ≡ true → is_url_char c ≡ true
unfolding is_url_char
joins_url c e = grind (arith, nat_tests, e)

joined_form : (c : ℕ) (cs : List ℕ) → joins_reference c ≡ true → form_at Page true (c ∷ cs) ≡ None
joined_form c cs e =
    let d = joins_differs c e in
    either_flag Page true (c ∷ cs) (uncommented_other c cs d.1 (comment_other c cs d.2)) ∙ other_byte Page c cs d.0

joined_glyphs : (c : ℕ) (cs : List ℕ) → joins_reference c ≡ true → map glyph_of (node_items (c ∷ cs)) ≡ glyph.Byte c ∷ map glyph_of (items_from (is_break c) 0 cs)
joined_glyphs c cs e = ap (map glyph_of) (are_from (c ∷ cs) ∙ byte_from true c cs (joined_form c cs e))

-- no URL's byte follows a URL, and none of two apostrophes is one with which a reference goes on
not_quote : (c : ℕ) (gs : List Glyph) → joins_reference c ≡ true → begins (codes "''") (glyph.Byte c ∷ gs) ≡ true → ⊥
not_quote c gs e f =
    let is : c ≡ 39 = eqb-true c 39 (and_left (c == 39) (begins (codes "'") gs) f) in
    let no : joins_reference 39 ≡ true = subst (λ (k : ℕ). joins_reference k ≡ true) is e in
    cc

no_follower : (ends : Bool) (own : List Glyph) (c : ℕ) (gs : List Glyph) → joins_reference c ≡ true → MayFollow (Bare ends) own (glyph.Byte c ∷ gs) → ⊥
no_follower ends own c gs e (inl f) = let no : true ≡ false = sym (joins_url c e) ∙ f in cc
no_follower ends own c gs e (inr q) = not_quote c gs e q.quotes

node_unjoined : (ends : Bool) (t n : Thing) (more : List ℕ) → t.role ≡ Bare ends → IsNode n.role (own_glyphs n) → MayFollow t.role (own_glyphs t) (own_glyphs n)
    → BeginsUnjoined (n.source ++ more)
node_unjoined ends t n more r k m = by n.source refl
  where
    follows : MayFollow (Bare ends) (own_glyphs t) (own_glyphs n)
    follows = subst (λ (x : Role). MayFollow x (own_glyphs t) (own_glyphs n)) r m

    shown : FirstShown (own_glyphs n)
    shown = node_shown n.role (own_glyphs n) (is_mark_role n.role) refl k

    at : (c : ℕ) (cs : List ℕ) → n.source ≡ c ∷ cs → (v : Bool) → joins_reference c ≡ v → v ≡ false
    at c cs i true e =
        let own : own_glyphs n ≡ glyph.Byte c ∷ map glyph_of (items_from (is_break c) 0 cs) = ap (λ (q : List ℕ). map glyph_of (node_items q)) i ∙ joined_glyphs c cs e in
        absurd (no_follower ends (own_glyphs t) c (map glyph_of (items_from (is_break c) 0 cs)) e (subst (MayFollow (Bare ends) (own_glyphs t)) own follows))
    at c cs i false e = refl

    by : (q : List ℕ) → n.source ≡ q → BeginsUnjoined (q ++ more)
    by [] i = absurd (subst FirstShown (ap (λ (q : List ℕ). map glyph_of (node_items q)) i ∙ ap (map glyph_of) (are_from [])) shown)
    by (c ∷ cs) i = at c cs i (joins_reference c) refl

-- two nodes that meet where nothing is put
met : (u : Bool) (t n : Thing) (before after : List ContentSign) (rest : List Glyph) → MeetAt u (thing t ∷ before) (thing n ∷ after) rest → u ≡ false
    → MayFollow t.role (own_glyphs t) (own_glyphs n)
met true t n before after rest m e = cc
met false t n before after rest m e = m.0

-- ---- behind a bare URL

url_unjoined : (s : Setting) (before : List ContentSign) (t : Thing) (after : List ContentSign) (ends : Bool) → t.role ≡ Bare ends → AreNodes after
    → AllMeet s (thing t ∷ before) after [] → BeginsUnjoined (spelled_from s (thing t ∷ before) after)
url_unjoined s before t [] ends r n m =
    subst BeginsUnjoined (append-nil (nowiki_if (is_guarded s (thing t ∷ before) []))) (guard_unjoined (is_guarded s (thing t ∷ before) []) [] (λ g. tt))
url_unjoined s before t (letter c ∷ after) ends r n m =
    let e : Bool = is_escaped s.within s.place (thing t ∷ before) c after in
    let more : List ℕ = spelled_from s (letter c ∷ thing t ∷ before) after in
    guard_unjoined (is_guarded s (thing t ∷ before) (letter c ∷ after)) (written_by e c ++ more)
    (λ g. letter_unjoined s (thing t ∷ before) c after more e refl (unparted_white ends t c r (unparted_between s before after t (letter c) g)))
url_unjoined s before t (thing x ∷ after) ends r n m =
    let more : List ℕ = spelled_from s (thing x ∷ thing t ∷ before) after in
    guard_unjoined (is_guarded s (thing t ∷ before) (thing x ∷ after)) (x.source ++ more)
    (λ g. node_unjoined ends t x more r n.0 (met (is_guarded s (thing t ∷ before) (thing x ∷ after)) t x before after [] m.0 g))

thing_unjoined : (s : Setting) (before : List ContentSign) (t : Thing) (after : List ContentSign) → AreNodes after → AllMeet s (thing t ∷ before) after []
    → IsUnjoined t.role (spelled_from s (thing t ∷ before) after)
thing_unjoined s before t after n m = by t.role refl
  where
    by : (r : Role) → t.role ≡ r → IsUnjoined r (spelled_from s (thing t ∷ before) after)
    by Link e = tt
    by External e = tt
    by (Bare ends) e = url_unjoined s before t after ends e n m
    by Switch e = tt
    by Toggle e = tt
    by (Mark ends began) e = tt
    by (Group g) e = tt
    by Function e = tt
    by Node e = tt

pub meet_unjoined : (s : Setting) (before signs : List ContentSign) → AreNodes signs → AllMeet s before signs [] → AllUnjoined s before signs
meet_unjoined s before [] n m = tt
meet_unjoined s before (letter c ∷ after) n m = meet_unjoined s (letter c ∷ before) after n m.2
meet_unjoined s before (thing t ∷ after) n m = (thing_unjoined s before t after n.1 m.2, meet_unjoined s (thing t ∷ before) after n.1 m.2)

-- ---- so such contents are read

pub flat_read : (s : Setting) (signs : List ContentSign) → IsFlatContent s signs → IsReadIn s signs
flat_read s signs h = record { within = h.of_block; kept = h.kept; nodes = h.nodes; unjoined = meet_unjoined s [] signs h.nodes h.meet; led = h.led }

pub styled_read : (s : Setting) (t : StyledContent) → IsStyledContent s t → IsReadIn s (signs_in t)
styled_read s t h = record {
  within = h.of_block;
  kept = h.kept;
  nodes = h.nodes;
  unjoined = meet_unjoined s [] (signs_in t) h.nodes h.meet;
  led = h.led;
}
