-- Where no node on its line closes a tag that opens a pair, nothing that is written there does: no text that is typed makes a tag, nor part of one.
use Rattle.std.proofs.Common.{arith, ◌≡◌, ℕ, zero, suc, ◌≤◌, ◌==◌, Bool, true, false, Option, Some, None, List, [], ◌∷◌, ◌++◌, length, refl, sym, ap, ◌∙◌, subst, inl, inr, All}
use Rattle.std.specs.Prelude.{◌&&◌, ◌||◌, encode_utf8, if◌then◌else◌}
use Rattle.std.proofs.lemmas.Bool.{cases_lt}
use Rattle.std.proofs.lemmas.Bool.Decides.{nat_tests}
use Rattle.std.proofs.lemmas.List.Elements.{All-head, All-tail}
use Rattle.std.proofs.lemmas.Str.{encode_ascii}
use Rattle.wt_names.proofs.Ascii.{IsWide, encode_wide}
use Rattle.wt_guards.specs.Content.{ContentSign, Thing, letter, thing}
use Rattle.wt_guards.specs.Guards.{Setting, is_guarded}
use Rattle.wt_guards.specs.Letters.{is_escaped}
use Rattle.wt_tiles.specs.declared.glyph.Glyph.{Glyph}
use Rattle.wt_tiles.specs.declared.glyph.Glyph.TheVariants as glyph
use Rattle.wt_tiles.specs.declared.glyph.GlyphClass.TheVariants as class
use Rattle.wt_tiles.specs.declared.tag.Name.{Name}
use Rattle.wt_tiles.specs.declared.tag.Name.TheVariants.{Paired, Break, Island}
use Rattle.wt_tiles.specs.declared.tag.TagShape.{TagShape}
use Rattle.wt_tiles.specs.declared.tag.TagShape.TheVariants.{Opening, Alone, Closing}
use Rattle.wt_tiles.specs.declared.tag.Tag.{Tag}
use Rattle.wt_tiles.specs.Glyphs.{in_class, first_is, byte_glyphs}
use Rattle.wt_tiles.specs.Partners.{DepthChange, Up, Down, Level, number, turn_of_tag, tag_turn, by_tag, partner}
use Rattle.wt_tiles.specs.Tags.{tag_at}
use Rattle.wt_tiles.proofs.TagInsides.{no_tag}
use Rattle.wt_beside_laws.specs.Cuts.{own_glyphs}
use Rattle.wt_beside_laws.specs.Glyphs.{guard_glyphs, letter_glyphs, line_glyphs}
use Rattle.wt_beside_laws.specs.Nodes.{ClosesNone, IsOpenBy, IsOpenBefore, AllStayOpen, KeepsOpen}
use Rattle.wt_beside_laws.specs.OpenTags.{is_tagged, spine}
use Rattle.wt_beside_laws.proofs.LineTiles.{tag_less, line_front}
use Rattle.wt_beside_laws.proofs.OpenTags.{untagged_open}
use Rattle.wt_beside_laws.proofs.PairTiles.{may_go_on, tag_goes_on, tag_whole}
use Rattle.wt_beside_laws.proofs.TypedForms.{tag_none}

-- ---- by the nodes alone, whatever is typed between them

-- How many tags of the k-th name are open behind these items, where so many were before them; none can be, where one closes a tag before them.
abbrev pub depth_by : DepthChange → ℕ → (ℕ → Option ℕ) → Option ℕ
depth_by Up d rest = rest (suc d)
depth_by Level d rest = rest d
depth_by Down zero rest = None
depth_by Down (suc d) rest = rest d

abbrev pub depth_past : ℕ → ℕ → List Glyph → Option ℕ
depth_past k d [] = Some d
depth_past k d (g ∷ gs) = depth_by (tag_turn k (g ∷ gs)) d (λ e. depth_past k e gs)

abbrev pub GoesOn : Option ℕ → (ℕ → Type 0) → Type 0
GoesOn None P = ⊥
GoesOn (Some d) P = P d

-- None up to the end of the line closes a tag of the k-th name, where so many are open, and in none a tag begins that may go on behind it.
abbrev pub NoneOnLine : ℕ → ℕ → List (Option Thing) → Type 0
NoneOnLine k d [] = Unit {0}
NoneOnLine k d (None ∷ more) = Unit {0}
NoneOnLine k d (Some t ∷ more) = (tag_goes_on (own_glyphs t) ≡ false) × GoesOn (depth_past k d (own_glyphs t)) (λ e. NoneOnLine k e more)

abbrev pub NoneCloses : Name → TagShape → List (Option Thing) → Type 0
NoneCloses (Paired m) Opening more = NoneOnLine (number m) 0 more
NoneCloses (Paired m) Alone more = Unit {0}
NoneCloses (Paired m) Closing more = Unit {0}
NoneCloses Break shape more = Unit {0}
NoneCloses Island shape more = Unit {0}

-- of a tag that begins a node of so many items: it may be all of it
abbrev pub StaysOn : Option Tag → ℕ → List (Option Thing) → Type 0
StaysOn None n more = Unit {0}
StaysOn (Some t) n more = t.len ≡ n → NoneCloses t.name t.shape more

-- Each node that is a tag which opens a pair is closed by no node behind it on its line.
abbrev pub StayOnLines : List (Option Thing) → Type 0
StayOnLines [] = Unit {0}
StayOnLines (None ∷ more) = StayOnLines more
StayOnLines (Some t ∷ more) = StaysOn (tag_at (own_glyphs t)) (length (own_glyphs t)) more × StayOnLines more

-- ---- past what is no tag

past_level : (k d : ℕ) (g : Glyph) (gs : List Glyph) → tag_at (g ∷ gs) ≡ None → partner k d (g ∷ gs) ≡ partner k d gs
past_level k d g gs e = ap (λ (o : Option Tag). by_tag (turn_of_tag k o) d (g ∷ gs) (λ i. partner k i gs)) e

wide_less : (b : ℕ) → 128 ≤ b → (b == 60) ≡ false
wide_less b le = grind (arith, nat_tests)

past_wide : (k d : ℕ) (bs : List ℕ) (gs : List Glyph) → All IsWide bs → partner k d (byte_glyphs bs ++ gs) ≡ partner k d gs
past_wide k d [] gs h = refl
past_wide k d (b ∷ bs) gs h =
    past_level k d (glyph.Byte b) (byte_glyphs bs ++ gs) (no_tag (glyph.Byte b ∷ (byte_glyphs bs ++ gs)) (wide_less b (All-head IsWide b bs h)))
    ∙ past_wide k d bs gs (All-tail IsWide b bs h)

pub past_letter : (k d : ℕ) (e : Bool) (c : ℕ) (gs : List Glyph) → (e ≡ false → tag_at (glyph.Byte c ∷ gs) ≡ None) → partner k d (letter_glyphs e c ++ gs) ≡ partner k d gs
past_letter k d true c gs f = past_level k d (glyph.Entity c) gs (no_tag (glyph.Entity c ∷ gs) refl)
past_letter k d false c gs f = elim (cases_lt c 128) [
  | inl small ↦ ap (λ (bs : List ℕ). partner k d (byte_glyphs bs ++ gs)) (encode_ascii c small) ∙ past_level k d (glyph.Byte c) gs (f refl)
  | inr wide ↦ past_wide k d (encode_utf8 c) gs (encode_wide c wide)
]

past_guard : (k d : ℕ) (u : Bool) (gs : List Glyph) → partner k d (guard_glyphs u ++ gs) ≡ partner k d gs
past_guard k d true gs = past_level k d glyph.Atom gs (no_tag (glyph.Atom ∷ gs) refl)
past_guard k d false gs = refl

end_guard : (k d : ℕ) (u : Bool) → partner k d (guard_glyphs u) ≡ None
end_guard k d true = past_level k d glyph.Atom [] (no_tag (glyph.Atom ∷ []) refl)
end_guard k d false = refl

letter_untagged : (s : Setting) (before : List ContentSign) (c : ℕ) (after : List ContentSign) → is_escaped s.within s.place before c after ≡ false
    → tag_at (glyph.Byte c ∷ line_glyphs s (letter c ∷ before) after) ≡ None
letter_untagged s before c after e =
    let front = line_front s (letter c ∷ before) after in
    tag_less (glyph.Byte c ∷ line_glyphs s (letter c ∷ before) after) front.more
    (subst (λ ys. tag_at (glyph.Byte c ∷ ys) ≡ None) front.is (tag_none s before c after [] e))

-- ---- past a node

pub neither : (u v : Bool) → (u || v) ≡ false → (u ≡ false) × (v ≡ false)
neither false false e = (refl, refl)
neither true v e = absurd (cc)
neither false true e = absurd (cc)

pub past_untagged : (k d : ℕ) (own gs : List Glyph) → is_tagged own ≡ false → partner k d (own ++ gs) ≡ partner k d gs
past_untagged k d [] gs e = refl
past_untagged k d (g ∷ own) gs e =
    let f = neither (in_class (class.Only 60) g) (is_tagged own) e in
    past_level k d g (own ++ gs) (no_tag (g ∷ (own ++ gs)) f.0) ∙ past_untagged k d own gs f.1

pub here_same : (g : Glyph) (own more : List Glyph) → (in_class (class.Only 60) g && may_go_on own) ≡ false → tag_at (g ∷ (own ++ more)) ≡ tag_at (g ∷ own)
here_same g own more e = by (in_class (class.Only 60) g) refl e
  where
    by : (v : Bool) → in_class (class.Only 60) g ≡ v → (v && may_go_on own) ≡ false → tag_at (g ∷ (own ++ more)) ≡ tag_at (g ∷ own)
    by true i z = tag_whole g own more z
    by false i z = no_tag (g ∷ (own ++ more)) i ∙ sym (no_tag (g ∷ own) i)

by_turn : (t : DepthChange) (d : ℕ) (here : List Glyph) (rest : ℕ → Option ℕ) (P : ℕ → Type 0) (F : ℕ → Option (List Glyph)) → GoesOn (depth_by t d rest) P
    → ((e : ℕ) → GoesOn (rest e) P → F e ≡ None) → by_tag t d here F ≡ None
by_turn Up d here rest P F h f = f (suc d) h
by_turn Level d here rest P F h f = f d h
by_turn Down zero here rest P F h f = absurd h
by_turn Down (suc d) here rest P F h f = f d h

past_own : (k d : ℕ) (own more : List Glyph) (P : ℕ → Type 0) → tag_goes_on own ≡ false → GoesOn (depth_past k d own) P → ((e : ℕ) → P e → partner k e more ≡ None)
    → partner k d (own ++ more) ≡ None
past_own k d [] more P e h f = f d h
past_own k d (g ∷ own) more P e h f =
    let z = neither (in_class (class.Only 60) g && may_go_on own) (tag_goes_on own) e in
    ap (λ (o : Option Tag). by_tag (turn_of_tag k o) d (g ∷ (own ++ more)) (λ i. partner k i (own ++ more))) (here_same g own more z.0)
    ∙ by_turn (tag_turn k (g ∷ own)) d (g ∷ (own ++ more)) (λ i. depth_past k i own) P (λ i. partner k i (own ++ more)) h
    (λ i j. past_own k i own more P z.1 j f)

-- ---- the rest of a line

line_by : (k d : ℕ) (v : Bool) (gs : List Glyph) (rest : List (Option Thing)) → NoneOnLine k d (if v then None ∷ rest else rest)
    → (NoneOnLine k d rest → partner k d gs ≡ None) → partner k d (if v then [] else gs) ≡ None
line_by k d true gs rest h f = refl
line_by k d false gs rest h f = f h

thing_by : (k d : ℕ) (v : Bool) (t : Thing) (more : List Glyph) (rest : List (Option Thing)) → is_tagged (own_glyphs t) ≡ v
    → NoneOnLine k d (if v then Some t ∷ rest else rest) → ((e : ℕ) → NoneOnLine k e rest → partner k e more ≡ None) → partner k d (own_glyphs t ++ more) ≡ None
thing_by k d true t more rest i h f = past_own k d (own_glyphs t) more (λ e. NoneOnLine k e rest) h.0 h.1 f
thing_by k d false t more rest i h f = past_untagged k d (own_glyphs t) more i ∙ f d h

none_closes : (k d : ℕ) (s : Setting) (before signs : List ContentSign) → NoneOnLine k d (spine signs) → partner k d (line_glyphs s before signs) ≡ None
none_closes k d s before [] h = end_guard k d (is_guarded s before [])
none_closes k d s before (letter c ∷ after) h =
    let e : Bool = is_escaped s.within s.place before c after in
    let more : List Glyph = line_glyphs s (letter c ∷ before) after in
    past_guard k d (is_guarded s before (letter c ∷ after)) (if c == 10 then [] else letter_glyphs e c ++ more)
    ∙ line_by k d (c == 10) (letter_glyphs e c ++ more) (spine after) h
    (λ g. past_letter k d e c more (letter_untagged s before c after) ∙ none_closes k d s (letter c ∷ before) after g)
none_closes k d s before (thing t ∷ after) h =
    let more : List Glyph = line_glyphs s (thing t ∷ before) after in
    past_guard k d (is_guarded s before (thing t ∷ after)) (own_glyphs t ++ more)
    ∙ thing_by k d (is_tagged (own_glyphs t)) t more (spine after) refl h (λ e g. none_closes k e s (thing t ∷ before) after g)

-- ---- so each such tag stays

untagged_first : (own : List Glyph) → is_tagged own ≡ false → first_is (class.Only 60) own ≡ false
untagged_first [] e = refl
untagged_first (g ∷ own) e = (neither (in_class (class.Only 60) g) (is_tagged own) e).0

closes_by : (m : Name) (h : TagShape) (rest : List (Option Thing)) (behind : List Glyph) → ((k : ℕ) → NoneOnLine k 0 rest → partner k 0 behind ≡ None)
    → NoneCloses m h rest → ClosesNone m h behind
closes_by (Paired m) Opening rest behind f c = f (number m) c
closes_by (Paired m) Alone rest behind f c = tt
closes_by (Paired m) Closing rest behind f c = tt
closes_by Break h rest behind f c = tt
closes_by Island h rest behind f c = tt

open_by : (o : Option Tag) (n : ℕ) (rest : List (Option Thing)) (behind : List Glyph) → ((k : ℕ) → NoneOnLine k 0 rest → partner k 0 behind ≡ None)
    → StaysOn o n rest → IsOpenBy o n behind
open_by None n rest behind f h = tt
open_by (Some t) n rest behind f h = λ e. closes_by t.name t.shape rest behind f (h e)

past_break : (v : Bool) (rest : List (Option Thing)) → StayOnLines (if v then None ∷ rest else rest) → StayOnLines rest
past_break true rest h = h
past_break false rest h = h

thing_stays : (v : Bool) (t : Thing) (behind : List Glyph) (rest : List (Option Thing)) → is_tagged (own_glyphs t) ≡ v
    → StayOnLines (if v then Some t ∷ rest else rest) → ((k : ℕ) → NoneOnLine k 0 rest → partner k 0 behind ≡ None)
    → IsOpenBefore (own_glyphs t) behind × StayOnLines rest
thing_stays true t behind rest i h f = (open_by (tag_at (own_glyphs t)) (length (own_glyphs t)) rest behind f h.0, h.1)
thing_stays false t behind rest i h f = (untagged_open (own_glyphs t) behind (untagged_first (own_glyphs t) i), h)

all_stay : (s : Setting) (before signs : List ContentSign) → StayOnLines (spine signs) → AllStayOpen s before signs
all_stay s before [] h = tt
all_stay s before (letter c ∷ after) h = (tt, all_stay s (letter c ∷ before) after (past_break (c == 10) (spine after) h))
all_stay s before (thing t ∷ after) h =
    let own = thing_stays (is_tagged (own_glyphs t)) t (line_glyphs s (thing t ∷ before) after) (spine after) refl h
    (λ k g. none_closes k 0 s (thing t ∷ before) after g) in
    (own.0, all_stay s (thing t ∷ before) after own.1)

pub lines_keep : (signs : List ContentSign) → StayOnLines (spine signs) → KeepsOpen signs
lines_keep signs h = λ s. all_stay s [] signs h
