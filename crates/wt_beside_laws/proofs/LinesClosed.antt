-- Of a content as it stands in the page, a tag that opens a pair and is a node by itself is closed by no node behind it on its line.
use Rattle.std.proofs.Common.{inl, inr, ◌≡◌, ℕ, zero, suc, ◌==◌, Bool, true, false, Option, Some, None, List, [], ◌∷◌, ◌++◌, length, refl, sym, ◌∙◌, subst}
use Rattle.std.specs.Prelude.{encode_utf8, ◌&&◌, if◌then◌else◌}
use Rattle.wt_guards.specs.Content.{ContentSign, Thing, letter, thing}
use Rattle.wt_tiles.specs.declared.glyph.Glyph.{Glyph}
use Rattle.wt_tiles.specs.declared.glyph.Glyph.TheVariants as glyph
use Rattle.wt_tiles.specs.declared.glyph.GlyphClass.TheVariants as class
use Rattle.wt_tiles.specs.declared.tag.Name.{Name}
use Rattle.wt_tiles.specs.declared.tag.Name.TheVariants.{Paired, Break, Island}
use Rattle.wt_tiles.specs.declared.tag.TagShape.{TagShape}
use Rattle.wt_tiles.specs.declared.tag.TagShape.TheVariants.{Opening, Alone, Closing}
use Rattle.wt_tiles.specs.declared.tag.Tag.{Tag}
use Rattle.wt_tiles.specs.Glyphs.{in_class, byte_glyphs}
use Rattle.wt_tiles.specs.Partners.{DepthChange, Up, Down, Level, number, turn_of_tag, tag_turn, by_tag, partner}
use Rattle.wt_tiles.specs.Tags.{tag_at}
use Rattle.wt_tiles.specs.Urls.{is_word}
use Rattle.wt_beside_laws.specs.Cuts.{own_glyphs, ends_word}
use Rattle.wt_beside_laws.specs.Nodes.{ClosesNone, IsOpenBy, IsLone, IsClosedBy}
use Rattle.wt_beside_laws.specs.OpenTags.{ends_in_tag, is_tagged, spine, EndOnLine, EndBehind, EndTags}
use Rattle.wt_beside_laws.specs.Stood.{line_glyphs, AreStood}
use Rattle.wt_beside_laws.proofs.LinesOpen.{depth_by, depth_past, GoesOn, NoneOnLine, NoneCloses, StaysOn, StayOnLines, neither, here_same, past_letter, past_untagged}
use Rattle.wt_beside_laws.proofs.OpenTags.{read_open}
use Rattle.wt_beside_laws.proofs.PairTiles.{may_go_on, tag_goes_on}
use Rattle.wt_beside_laws.proofs.PageSigns.{AreUntagged}

-- ---- past a node

turn_back : (t : DepthChange) (d : ℕ) (here : List Glyph) (rest : ℕ → Option ℕ) (P : ℕ → Type 0) (F : ℕ → Option (List Glyph)) → by_tag t d here F ≡ None
    → ((e : ℕ) → F e ≡ None → GoesOn (rest e) P) → GoesOn (depth_by t d rest) P
turn_back Up d here rest P F h f = f (suc d) h
turn_back Level d here rest P F h f = f d h
turn_back Down zero here rest P F h f = absurd (cc)
turn_back Down (suc d) here rest P F h f = f d h

own_back : (k d : ℕ) (own more : List Glyph) (P : ℕ → Type 0) → tag_goes_on own ≡ false → partner k d (own ++ more) ≡ None
    → ((e : ℕ) → partner k e more ≡ None → P e) → GoesOn (depth_past k d own) P
own_back k d [] more P e h f = f d h
own_back k d (g ∷ own) more P e h f =
    let z = neither (in_class (class.Only 60) g && may_go_on own) (tag_goes_on own) e in
    turn_back (tag_turn k (g ∷ own)) d (g ∷ (own ++ more)) (λ i. depth_past k i own) P (λ i. partner k i (own ++ more))
    (subst (λ (o : Option Tag). by_tag (turn_of_tag k o) d (g ∷ (own ++ more)) (λ i. partner k i (own ++ more)) ≡ None) (here_same g own more z.0) h)
    (λ i j. own_back k i own more P z.1 j f)

-- ---- the rest of a line

-- where it doesn't end in a tag that isn't ended, none goes on behind it
abbrev pub EndsSo : Thing → Type 0
EndsSo t = ends_in_tag (own_glyphs t) ≡ false → tag_goes_on (own_glyphs t) ≡ false

abbrev pub AllEndSo : List ContentSign → Type 0
AllEndSo [] = Unit {0}
AllEndSo (letter c ∷ after) = AllEndSo after
AllEndSo (thing t ∷ after) = EndsSo t × AllEndSo after

letter_back : (k d c : ℕ) (v : Bool) (more : List Glyph) (rest : List (Option Thing)) → tag_at (glyph.Byte c ∷ more) ≡ None
    → EndOnLine (if v then None ∷ rest else rest) → partner k d (if v then [] else byte_glyphs (encode_utf8 c) ++ more) ≡ None
    → (EndOnLine rest → partner k d more ≡ None → NoneOnLine k d rest) → NoneOnLine k d (if v then None ∷ rest else rest)
letter_back k d c true more rest u e h f = tt
letter_back k d c false more rest u e h f = f e (sym (past_letter k d false c more (λ i. u)) ∙ h)

thing_back : (k d : ℕ) (v : Bool) (t : Thing) (more : List Glyph) (rest : List (Option Thing)) → EndsSo t → is_tagged (own_glyphs t) ≡ v
    → EndOnLine (if v then Some t ∷ rest else rest) → partner k d (own_glyphs t ++ more) ≡ None
    → (EndOnLine rest → (e : ℕ) → partner k e more ≡ None → NoneOnLine k e rest) → NoneOnLine k d (if v then Some t ∷ rest else rest)
thing_back k d true t more rest n i e h f = (n e.0, own_back k d (own_glyphs t) more (λ m. NoneOnLine k m rest) (n e.0) h (f e.1))
thing_back k d false t more rest n i e h f = f e d (sym (past_untagged k d (own_glyphs t) more i) ∙ h)

none_back : (k d : ℕ) (signs : List ContentSign) → AreUntagged signs → AllEndSo signs → EndOnLine (spine signs) → partner k d (line_glyphs signs) ≡ None → NoneOnLine k d (spine signs)
none_back k d [] u n e h = tt
none_back k d (letter c ∷ after) u n e h =
    letter_back k d c (c == 10) (line_glyphs after) (spine after) u.0 e h (λ f g. none_back k d after u.1 n f g)
none_back k d (thing t ∷ after) u n e h =
    thing_back k d (is_tagged (own_glyphs t)) t (line_glyphs after) (spine after) n.0 refl e h (λ f i g. none_back k i after u n.1 f g)

-- ---- each such tag

closes_back : (m : Name) (h : TagShape) (rest : List (Option Thing)) (behind : List Glyph) → ((k : ℕ) → partner k 0 behind ≡ None → NoneOnLine k 0 rest)
    → ClosesNone m h behind → NoneCloses m h rest
closes_back (Paired m) Opening rest behind f c = f (number m) c
closes_back (Paired m) Alone rest behind f c = tt
closes_back (Paired m) Closing rest behind f c = tt
closes_back Break h rest behind f c = tt
closes_back Island h rest behind f c = tt

open_back : (o : Option Tag) (n : ℕ) (rest : List (Option Thing)) (behind : List Glyph) → ((k : ℕ) → partner k 0 behind ≡ None → NoneOnLine k 0 rest)
    → IsOpenBy o n behind → StaysOn o n rest
open_back None n rest behind f h = tt
open_back (Some t) n rest behind f h = λ e. closes_back t.name t.shape rest behind f (h e)

lone_back : (m : Name) (h : TagShape) (rest : List (Option Thing)) → IsLone m h → NoneCloses m h rest
lone_back (Paired m) Opening rest l = absurd l
lone_back (Paired m) Alone rest l = tt
lone_back (Paired m) Closing rest l = tt
lone_back Break h rest l = tt
lone_back Island h rest l = tt

-- or none
closed_back : (o : Option Tag) (n : ℕ) (rest : List (Option Thing)) → IsClosedBy o n → StaysOn o n rest
closed_back None n rest c = tt
closed_back (Some t) n rest c = λ e. lone_back t.name t.shape rest (c e)

add_break : (v : Bool) (rest : List (Option Thing)) → EndBehind (if v then None ∷ rest else rest) → (EndBehind rest → StayOnLines rest)
    → StayOnLines (if v then None ∷ rest else rest)
add_break true rest e f = f e
add_break false rest e f = f e

add_thing : (v : Bool) (t : Thing) (rest : List (Option Thing)) → EndBehind (if v then Some t ∷ rest else rest)
    → (EndOnLine rest → StaysOn (tag_at (own_glyphs t)) (length (own_glyphs t)) rest) → (EndBehind rest → StayOnLines rest)
    → StayOnLines (if v then Some t ∷ rest else rest)
add_thing true t rest e s f = (
  elim e.0 [
    | inl c ↦ closed_back (tag_at (own_glyphs t)) (length (own_glyphs t)) rest c
    | inr n ↦ s n
  ],
  f e.1,
)
add_thing false t rest e s f = f e

pub stood_stay : (a : Bool) (signs : List ContentSign) → AreStood a signs → AreUntagged signs → AllEndSo signs → EndTags signs → StayOnLines (spine signs)
stood_stay a [] s u n e = tt
stood_stay a (letter c ∷ after) s u n e = add_break (c == 10) (spine after) e (λ f. stood_stay (is_word c) after s u.1 n f)
stood_stay a (thing t ∷ after) s u n e =
    let own : List Glyph = own_glyphs t in
    add_thing (is_tagged own) t (spine after) e
    (λ l. open_back (tag_at own) (length own) (spine after) (line_glyphs after) (λ k g. none_back k 0 after u n.1 l g)
    (read_open a own (line_glyphs after) s.0.shape s.0.form s.0.whole))
    (λ f. stood_stay (ends_word a own) after s.1 u n.1 f)
