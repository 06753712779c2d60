-- A node that stays, and what a call gives, as their neighbours on a line see them: forms and characters, of which each is what it is by itself.
use Rattle.std.proofs.Common.{◌≡◌, ◌⊎◌, inl, inr, ℕ, ◌==◌, Bool, true, false, not, Option, None, Some, List, [], ◌∷◌, ◌++◌, map, refl, sym, ap, ◌∙◌, subst, append-nil}
use Rattle.std.specs.Prelude.{codes, ◌&&◌, if◌then◌else◌}
use Rattle.wt_span.specs.Items.{Item}
use Rattle.wt_guards.specs.declared.role.Role.{Role}
use Rattle.wt_guards.specs.declared.role.Role.TheVariants.{Link, External, Bare, Switch, Toggle, Mark, Group, Function, Node}
use Rattle.wt_guards.specs.declared.role.Stretch.{Stretch}
use Rattle.wt_guards.specs.declared.role.Transclusion.{Transclusion}
use Rattle.wt_guards.specs.declared.side.Side.TheVariants as side
use Rattle.wt_guards.specs.Content.{ContentSign, Thing, letter, thing, side_of}
use Rattle.wt_guards.specs.Guards.{Setting, left_side, is_guarded}
use Rattle.wt_guards.specs.Letters.{is_escaped}
use Rattle.wt_guards.specs.Table.{hazard}
use Rattle.wt_lines.specs.Lines.{IsUnbroken}
use Rattle.wt_tiles.specs.declared.glyph.Glyph.{Glyph}
use Rattle.wt_tiles.specs.declared.glyph.Glyph.TheVariants as glyph
use Rattle.wt_tiles.specs.Glyphs.{begins, glyph_of}
use Rattle.wt_tiles.specs.Tiles.{Cut}
use Rattle.wt_tiles.specs.Urls.{scheme_len, bare_url_at, is_word}
use Rattle.wt_beside_laws.specs.Beginnings.{AvoidsSwitches}
use Rattle.wt_beside_laws.specs.Called.{IsOwnNode, IsGivenAs, AreGiven, MayBeBehindGroup, MayFollowGroup, BehindMay, LeadMay}
use Rattle.wt_beside_laws.specs.Cuts.{ends_word, guard_cut, letter_cut}
use Rattle.wt_beside_laws.specs.Given.{GivenSign, character, form, given_items, given_glyphs, given_cut, BeginsGiven, AreGivenSigns, GivenContent, given_end, given_sign, given_style, signs_of, opens_quoted, closes_quoted, AreNestedSigns, FirstMay, LastMay, is_bare_url, ends_with_url, GivesSigns, IsGroup}
use Rattle.wt_beside_laws.specs.Flat.{IsFlat}
use Rattle.wt_beside_laws.specs.Glyphs.{guard_glyphs, letter_glyphs}
use Rattle.wt_beside_laws.specs.Nodes.{IsBareNode, IsNode, OpensNoPair, MayBeBehind, MayFollow, MayLead, is_quote_last}
use Rattle.wt_beside_laws.proofs.LineTiles.{scheme_less}
use Rattle.wt_beside_laws.proofs.NodesBegin.{other_avoids, node_urls, node_switches}
use Rattle.wt_beside_laws.proofs.NodesMeet.{atom_may, begins_more, by_fits, letter_may, none_before, word_before}
use Rattle.wt_beside_laws.proofs.Styled.StyledSigns.{is_quoted, is_quoted_last}
use Rattle.wt_beside_laws.proofs.TypedForms.{bare_none, thing_alone}
use Rattle.wt_beside_laws.proofs.Groups.GivenMeets.{behind_group, before_group}
use Rattle.wt_beside_laws.proofs.Groups.GivenTiles.{given_are, none_last}
use Rattle.wt_beside_laws.proofs.Groups.HalfSigns.{apart_slash, apart_colon, apart_sign}
use Rattle.wt_beside_laws.proofs.Groups.Schemes.{FirstNeither, avoids_neither}

-- ---- what the reading of a line hangs on

pub record IsGift (t : Thing) (own : List Item) : Type 0 where
  pub call : ℕ
  pub signs : List GivenSign
  pub is : own ≡ given_items call signs
  pub are : AreGivenSigns false signs
  pub neither : FirstNeither (map glyph_of own)
  pub alone : AvoidsSwitches (map glyph_of own)
  pub unbroken : IsUnbroken own
  pub nested : IsFlat t.role → AreNestedSigns call signs
  pub opens : (f : IsFlat t.role) (next : Bool) → is_quoted t.role ≡ false → opens_quoted (nested f).content next ≡ false
  pub closes : (f : IsFlat t.role) → closes_quoted false (nested f).content ≡ true → is_quoted_last t.role ≡ true
  pub behind : (e : Bool) (d : ℕ) (more : List Glyph) → hazard (left_side t.role) (side.Text d) ≡ false → LastMay signs (letter_glyphs e d ++ more)
  pub beside : (gs more : List Glyph) → FirstNeither gs → BehindMay t.role (map glyph_of own) gs → LastMay signs (gs ++ more)
  pub before : (d : ℕ) → hazard (side.Text d) (side_of t.role) ≡ false → FirstMay signs (is_word d)
  pub leads : (word : Bool) → LeadMay t.role (map glyph_of own) word → FirstMay signs word

pub gift_glyphs : (t : Thing) (own : List Item) (g : IsGift t own) → map glyph_of own ≡ given_glyphs g.signs
gift_glyphs t own g = ap (map glyph_of) g.is ∙ given_are g.call g.signs

abbrev pub AreGifts : List ContentSign → List (List Item) → Type 0
AreGifts [] [] = Unit {0}
AreGifts [] (own ∷ owns) = ⊥
AreGifts (letter c ∷ after) owns = AreGifts after owns
AreGifts (thing t ∷ after) [] = ⊥
AreGifts (thing t ∷ after) (own ∷ owns) = IsGift t own × AreGifts after owns

-- ---- what may be last, and first

pub last_with : (word : Bool) (signs : List GivenSign) (more : List Glyph) → AreGivenSigns word signs
    → ((r : Role) (own : List Glyph) → IsNode r own → (is_bare_url r ≡ true → ends_with_url signs ≡ true) → MayFollow r own more) → LastMay signs more
last_with word [] more h f = tt
last_with word (character b ∷ signs) more h f = last_with (is_word b) signs more h.2 f
last_with word (form r own ∷ []) more h f = f r (map glyph_of own) h.0.node (λ e. e)
last_with word (form r own ∷ sign ∷ signs) more h f = last_with (ends_word false (map glyph_of own)) (sign ∷ signs) more h.1 f

-- `<nowiki/>`
pub atom_last : (word : Bool) (signs : List GivenSign) (more : List Glyph) → AreGivenSigns word signs → LastMay signs (glyph.Atom ∷ more)
atom_last word signs more h = last_with word signs (glyph.Atom ∷ more) h (λ r own n u. inl (atom_may r))

pub guard_last : (word u : Bool) (signs : List GivenSign) (more : List Glyph) → AreGivenSigns word signs → (u ≡ false → LastMay signs more)
    → LastMay signs (guard_glyphs u ++ more)
guard_last word true signs more h f = atom_last word signs more h
guard_last word false signs more h f = f refl

pub ended_last : (t : Bool) (signs : List GivenSign) (more : List Glyph) → LastMay signs more → LastMay signs (if t then [] else more)
ended_last true signs more h = none_last signs
ended_last false signs more h = h

pub first_none : (signs : List GivenSign) → FirstMay signs false
first_none [] = tt
first_none (character b ∷ signs) = tt
first_none (form r own ∷ signs) = none_before r

-- so they are behind a letter, digit or `_`, or not
pub given_led : (word : Bool) (signs : List GivenSign) → AreGivenSigns false signs → FirstMay signs word → AreGivenSigns word signs
given_led word [] h f = tt
given_led word (character b ∷ signs) h f = h
given_led word (form r own ∷ signs) h f = (record { node = h.0.node; closed = h.0.closed; leads = f; follows = h.0.follows }, h.1)

-- ---- a node of the page

some_first : (r : Role) (own other more : List Glyph) → FirstNeither other → MayFollow r own other → MayFollow r own (other ++ more)
some_first r own [] more h m = absurd h
some_first r own (g ∷ gs) more h m = elim m [
  | inl e ↦ inl e
  | inr q ↦ inr (record { unquoted = q.unquoted; quotes = begins_more (codes "''") (g ∷ gs) more q.quotes })
]

as_follow : (r : Role) (own gs : List Glyph) → IsNode r own → BehindMay r own gs → MayFollow r own gs
as_follow Link own gs n m = m
as_follow External own gs n m = m
as_follow (Bare ends) own gs n m = m
as_follow Switch own gs n m = m
as_follow Toggle own gs n m = m
as_follow (Mark ends began) own gs n m = m
as_follow (Group g) own gs n m = absurd n
as_follow Function own gs n m = m
as_follow Node own gs n m = m

as_lead : (r : Role) (own : List Glyph) (word : Bool) → IsNode r own → LeadMay r own word → MayLead r word
as_lead Link own word n m = m
as_lead External own word n m = m
as_lead (Bare ends) own word n m = m
as_lead Switch own word n m = m
as_lead Toggle own word n m = m
as_lead (Mark ends began) own word n m = m
as_lead (Group g) own word n m = absurd n
as_lead Function own word n m = m
as_lead Node own word n m = m

own_gift : (t : Thing) (own : List Item) → IsOwnNode t own → IsGift t own
own_gift t own n =
    let gs : List Glyph = map glyph_of own in
    let node : IsNode t.role gs = n.node in
    let closed : OpensNoPair gs = n.closed in
    record {
      call = 0;
      signs = form t.role own ∷ [];
      is = sym (append-nil own);
      are = (record { node = node; closed = closed; leads = none_before t.role; follows = tt }, tt);
      neither = avoids_neither gs (node_urls t.role gs node);
      alone = node_switches t.role gs node;
      unbroken = n.unbroken;
      nested = λ f. record { content = given_sign (form t.role own) given_end; is = refl; nested = (f, tt) };
      opens = λ f next e. refl;
      closes = λ f e. cc;
      behind = λ e d more h. by_fits t.role gs (letter_glyphs e d ++ more) (letter_may t.role e d more h);
      beside = λ hs more f m. some_first t.role gs hs more f (as_follow t.role gs hs node m);
      before = λ d h. word_before t.role d h;
      leads = λ word m. as_lead t.role gs word node m;
    }

-- ---- what a call gives

neither_more : (gs more : List Glyph) → FirstNeither gs → FirstNeither (gs ++ more)
neither_more [] more h = absurd h
neither_more (g ∷ gs) more h = h

switches_more : (gs more : List Glyph) → AvoidsSwitches gs → AvoidsSwitches (gs ++ more)
switches_more [] more h = absurd h
switches_more (g ∷ []) [] h = h
switches_more (g ∷ []) (x ∷ more) h = thing_alone (g ∷ []) (x ∷ more) h
switches_more (g ∷ x ∷ gs) more h = h

given_neither : (word : Bool) (signs : List GivenSign) → BeginsGiven signs → AreGivenSigns word signs → FirstNeither (given_glyphs signs)
given_neither word [] b h = absurd b
given_neither word (character c ∷ signs) b h = (apart_colon (glyph.Byte c) b, apart_slash (glyph.Byte c) b)
given_neither word (form r own ∷ signs) b h =
    let gs : List Glyph = map glyph_of own in neither_more gs (given_glyphs signs) (avoids_neither gs (node_urls r gs h.0.node))

given_switches : (word : Bool) (signs : List GivenSign) → BeginsGiven signs → AreGivenSigns word signs → AvoidsSwitches (given_glyphs signs)
given_switches word [] b h = absurd b
given_switches word (character c ∷ signs) b h = let a = apart_sign c b in other_avoids c (given_glyphs signs) a.1
given_switches word (form r own ∷ signs) b h = let gs : List Glyph = map glyph_of own in switches_more gs (given_glyphs signs) (node_switches r gs h.0.node)

-- an apostrophe that is first begins a style
unquoted_first : (j : ℕ) (t : GivenContent) (next : Bool) → BeginsGiven (signs_of j t) → opens_quoted t false ≡ false → opens_quoted t next ≡ false
unquoted_first j given_end next b e = absurd b
unquoted_first j (given_sign (character c) t) next b e = e
unquoted_first j (given_sign (form r own) t) next b e = e
unquoted_first j (given_style kind inside t) next b e = e

not_true : (v : Bool) (A : Bool) → (v ≡ true → A ≡ true) → A ≡ false → v ≡ false
not_true true A f e = sym (f refl) ∙ e
not_true false A f e = refl

form_behind : (r : Role) (own : List Glyph) (slashes : Bool) (x : Glyph) → IsNode r own → (is_bare_url r ≡ true → slashes ≡ true) → MayBeBehindGroup slashes x
    → MayBeBehind r x
form_behind Link own slashes x n u m = m.0
form_behind External own slashes x n u m = tt
form_behind (Bare ends) own slashes x n u m = m.1 (u refl)
form_behind Switch own slashes x n u m = tt
form_behind Toggle own slashes x n u m = tt
form_behind (Mark ends began) own slashes x n u m = tt
form_behind (Group h) own slashes x n u m = absurd n
form_behind Function own slashes x n u m = tt
form_behind Node own slashes x n u m = tt

quote_behind : (gs hs : List Glyph) → is_quote_last (gs ++ hs) ≡ false → is_quote_last hs ≡ false
quote_behind [] hs e = e
quote_behind (g ∷ gs) [] e = refl
quote_behind (g ∷ []) (h ∷ hs) e = e
quote_behind (g ∷ i ∷ gs) (h ∷ hs) e = quote_behind (i ∷ gs) (h ∷ hs) e

before_quotes : (r : Role) (own more : List Glyph) → is_quote_last own ≡ false → begins (codes "''") more ≡ true → MayFollow r own more
before_quotes r own [] q b = tt
before_quotes r own (g ∷ gs) q b = inr (record { unquoted = q; quotes = b })

-- if no apostrophe is last
last_unquoted : (word : Bool) (signs : List GivenSign) (more : List Glyph) → AreGivenSigns word signs → is_quote_last (given_glyphs signs) ≡ false
    → begins (codes "''") more ≡ true → LastMay signs more
last_unquoted word [] more h q b = tt
last_unquoted word (character c ∷ signs) more h q b =
    last_unquoted (is_word c) signs more h.2 (quote_behind (glyph.Byte c ∷ []) (given_glyphs signs) q) b
last_unquoted word (form r own ∷ []) more h q b =
    before_quotes r (map glyph_of own) more (sym (ap is_quote_last (append-nil (map glyph_of own))) ∙ q) b
last_unquoted word (form r own ∷ sign ∷ signs) more h q b =
    last_unquoted (ends_word false (map glyph_of own)) (sign ∷ signs) more h.1 (quote_behind (map glyph_of own) (given_glyphs (sign ∷ signs)) q) b

group_beside : (slashes : Bool) (signs : List GivenSign) (own gs more : List Glyph) → own ≡ given_glyphs signs → AreGivenSigns false signs
    → (ends_with_url signs ≡ true → slashes ≡ true) → FirstNeither gs → MayFollowGroup slashes own gs → LastMay signs (gs ++ more)
group_beside slashes signs own [] more i h u f m = absurd f
group_beside slashes signs own (x ∷ xs) more i h u f m = elim m [
  | inl k ↦ last_with false signs (x ∷ (xs ++ more)) h (λ r own n e. inl (form_behind r own slashes x n (λ z. u (e z)) k))
  | inr q ↦
      last_unquoted false signs (x ∷ (xs ++ more)) h (sym (ap is_quote_last i) ∙ q.unquoted) (begins_more (codes "''") (x ∷ xs) more q.quotes)
]

-- a URL begins with a scheme
some_scheme : (own rest : List Glyph) → IsBareNode own → scheme_len (own ++ rest) ≡ 0 → ⊥
some_scheme own rest n e =
    let none : bare_url_at false own ≡ None = bare_none false own (scheme_less own rest e) in
    let url : bare_url_at false own ≡ Some n.shape = subst (λ (gs : List Glyph). bare_url_at false gs ≡ Some n.shape) (sym n.is) n.url in
    let no : None ≡ Some n.shape = sym none ∙ url in cc

unschemed : (r : Role) (own rest : List Glyph) (word : Bool) → IsNode r own → scheme_len (own ++ rest) ≡ 0 → MayLead r word
unschemed Link own rest word n e = tt
unschemed External own rest word n e = tt
unschemed (Bare ends) own rest word n e = absurd (some_scheme own rest n e)
unschemed Switch own rest word n e = tt
unschemed Toggle own rest word n e = tt
unschemed (Mark ends began) own rest word n e = tt
unschemed (Group g) own rest word n e = absurd n
unschemed Function own rest word n e = tt
unschemed Node own rest word n e = tt

first_unschemed : (signs : List GivenSign) (word : Bool) → AreGivenSigns false signs → scheme_len (given_glyphs signs) ≡ 0 → FirstMay signs word
first_unschemed [] word h e = tt
first_unschemed (character b ∷ signs) word h e = tt
first_unschemed (form r own ∷ signs) word h e = unschemed r (map glyph_of own) (given_glyphs signs) word h.0.node e

group_leads : (signs : List GivenSign) (own : List Glyph) (word : Bool) → own ≡ given_glyphs signs → AreGivenSigns false signs
    → (word ≡ false) ⊎ (scheme_len own ≡ 0) → FirstMay signs word
group_leads signs own word i h m = elim m [
  | inl e ↦ subst (FirstMay signs) (sym e) (first_none signs)
  | inr z ↦ first_unschemed signs word h (sym (ap scheme_len i) ∙ z)
]

-- of a node with this role
pub group_gift : (g : Transclusion) (t : Thing) (j : ℕ) (own : List Item) → t.role ≡ Group g → IsGroup g j own → IsGift t own
group_gift g t j own role h =
    let k : GivesSigns j own = h.gives in
    let glyphs : map glyph_of own ≡ given_glyphs k.signs = ap (map glyph_of) k.is ∙ given_are j k.signs in
    record {
      call = j;
      signs = k.signs;
      is = k.is;
      are = k.are;
      neither = subst FirstNeither (sym glyphs) (given_neither false k.signs k.begins k.are);
      alone = subst AvoidsSwitches (sym glyphs) (given_switches false k.signs k.begins k.are);
      unbroken = k.unbroken;
      nested = λ f. k.nested;
      opens = λ f next e.
          unquoted_first j k.nested.content next (subst BeginsGiven k.nested.is k.begins)
          (not_true (opens_quoted k.nested.content false) (g.opens_with_apostrophe && not g.between_equals) h.opens_style (sym (ap is_quoted role) ∙ e));
      closes = λ f e. ap is_quoted_last role ∙ h.closes_style e;
      behind = λ e d more z.
          behind_group g false k.signs e d more k.are h.urls (subst (λ (r : Role). hazard (left_side r) (side.Text d) ≡ false) role z);
      beside = λ gs more f m.
          group_beside g.slashes k.signs (map glyph_of own) gs more glyphs k.are h.urls f (subst (λ (r : Role). BehindMay r (map glyph_of own) gs) role m);
      before = λ d z.
          subst (FirstMay k.signs) (sym (before_group g d (subst (λ (r : Role). hazard (side.Text d) (side_of r) ≡ false) role z))) (first_none k.signs);
      leads = λ word m.
          group_leads k.signs (map glyph_of own) word glyphs k.are (subst (λ (r : Role). LeadMay r (map glyph_of own) word) role m);
    }

-- ---- each

-- it is a node of the page, or a group
pub given_case : (r : Role) (t : Thing) (own : List Item) → IsGivenAs r t own → IsOwnNode t own ⊎ ((g : Transclusion) × (r ≡ Group g) × (j : ℕ) × IsGroup g j own)
given_case Link t own h = inl h
given_case External t own h = inl h
given_case (Bare ends) t own h = inl h
given_case Switch t own h = inl h
given_case Toggle t own h = inl h.1
given_case (Mark ends began) t own h = inl h
given_case (Group g) t own h = inr (g, refl, h.0, h.1)
given_case Function t own h = inl h
given_case Node t own h = inl h

pub gift_of : (t : Thing) (own : List Item) → IsGivenAs t.role t own → IsGift t own
gift_of t own h = elim (given_case t.role t own h) [
  | inl n ↦ own_gift t own n
  | inr k ↦ group_gift k.0 t k.2 own k.1 k.3
]

-- a style delimiter is one form
pub toggle_signs : (source : List ℕ) (place : Option Stretch) (own : List Item)
    (h : IsGivenAs Toggle (record { role = Toggle; source = source; place = place }) own)
    → (gift_of (record { role = Toggle; source = source; place = place }) own h).signs ≡ form Toggle own ∷ []
unfolding gift_of given_case own_gift
toggle_signs source place own h = refl

abbrev pub all_gifts : (signs : List ContentSign) (owns : List (List Item)) → AreGiven signs owns → AreGifts signs owns
all_gifts [] [] h = tt
all_gifts [] (own ∷ owns) h = absurd h
all_gifts (letter c ∷ after) owns h = all_gifts after owns h
all_gifts (thing t ∷ after) [] h = absurd h
all_gifts (thing t ∷ after) (own ∷ owns) h = (gift_of t own h.0, all_gifts after owns h.1)

-- ---- a line, as inline forms read it

abbrev pub line_glyphs_with : Setting → List ContentSign → List ContentSign → List (List Item) → List Glyph
line_glyphs_with s before [] owns = guard_glyphs (is_guarded s before [])
line_glyphs_with s before (letter c ∷ after) owns =
    guard_glyphs (is_guarded s before (letter c ∷ after))
    ++ (if c == 10 then [] else letter_glyphs (is_escaped s.within s.place before c after) c ++ line_glyphs_with s (letter c ∷ before) after owns)
line_glyphs_with s before (thing t ∷ after) [] = guard_glyphs (is_guarded s before (thing t ∷ after))
line_glyphs_with s before (thing t ∷ after) (own ∷ owns) =
    guard_glyphs (is_guarded s before (thing t ∷ after)) ++ (map glyph_of own ++ line_glyphs_with s (thing t ∷ before) after owns)

-- and its tiles
abbrev pub line_cut_with : (s : Setting) (before signs : List ContentSign) (owns : List (List Item)) → AreGifts signs owns → Cut
line_cut_with s before [] owns h = guard_cut (is_guarded s before []) (0, [])
line_cut_with s before (letter d ∷ after) owns h =
    guard_cut (is_guarded s before (letter d ∷ after))
    (if d == 10 then (0, []) else letter_cut (is_escaped s.within s.place before d after) d (line_cut_with s (letter d ∷ before) after owns h))
line_cut_with s before (thing t ∷ after) [] h = (0, [])
line_cut_with s before (thing t ∷ after) (own ∷ owns) h =
    guard_cut (is_guarded s before (thing t ∷ after)) (given_cut h.0.signs (line_cut_with s (thing t ∷ before) after owns h.1))
