-- What is written beside calls and styles, sign by sign, and what it is by what its calls give.
use Rattle.std.proofs.Common.{◌≡◌, ◌⊎◌, inl, inr, ℕ, ◌+◌, Bool, true, false, not, List, [], ◌∷◌, length, ap, refl, subst, sym, ◌||◌, ◌∙◌}
use Rattle.std.specs.Str.{IsUtf8}
use Rattle.wt_span.specs.Items.{Item}
use Rattle.wt_tree.specs.declared.edit_shape.Place.TheVariants as place
use Rattle.wt_guards.specs.Content.{ContentSign, Thing, is_group as is_call, letter, thing}
use Rattle.wt_guards.specs.Guards.{Setting, nowiki, spelled}
use Rattle.wt_guards.specs.declared.role.Role.{Role}
use Rattle.wt_guards.specs.declared.role.Role.TheVariants.{Group}
use Rattle.wt_guards.specs.declared.role.Transclusion.{Transclusion}
use Rattle.wt_inline.specs.Parts.{parts}
use Rattle.wt_inline.specs.declared.loose.Loose.TheVariants.{Text}
use Rattle.wt_context.specs.Line.{line_parts}
use Rattle.wt_expand.specs.PageCalls.{expanded_page}
use Rattle.wt_expand.specs.Work.{Pages}
use Rattle.wt_part_laws.specs.CallPieces.{AreOwnOrGiven}
use Rattle.wt_part_laws.specs.Expanded.{part_items}
use Rattle.wt_text_edit_laws.specs.TextBlocks.{TextBlock, a_heading, a_paragraph}
use Rattle.wt_beside_laws.proofs.Groups.Folders.{all_seen, folder_case, given_as, group_inside}
use Rattle.wt_beside_laws.proofs.Made.Items.{PartsHave, guard_has}
use Rattle.wt_beside_laws.proofs.Styled.SentStyles.{nowiki_alone}
use Rattle.wt_beside_laws.proofs.Styled.StyledNodes.{nowiki_items}
use Rattle.wt_beside_laws.specs.Called.{AllMeetWith, AllSeenIn, AreGiven, AreSomeOfPage, HasUncalled, IsGivenAs, IsOwnNode, StaysAsItIs, StaysRound, items_with, owns_in}
use Rattle.wt_beside_laws.specs.Content.{guard_items}
use Rattle.wt_beside_laws.specs.Flat.{IsFlat}
use Rattle.wt_beside_laws.specs.FlatBlocks.{AreSealed, IsSealed}
use Rattle.wt_beside_laws.specs.InHeadings.{AreOnOneLine}
use Rattle.wt_beside_laws.specs.Lines.{AreCharacters}
use Rattle.wt_beside_laws.specs.NodeItems.{node_items}
use Rattle.wt_beside_laws.specs.Stood.{things}
use Rattle.wt_beside_laws.specs.Styled.{AreNested, StyledContent, delimiter, finished, mark_source, sign, signs_before, signs_in, styled}
use Rattle.wt_beside_laws.specs.StyledCalls.{AreOwnAt, IsOfPage, IsOwnAt, IsStyledCalled, IsStyledCalledHeading, owns_left}
use Rattle.wt_beside_laws.specs.StyledNodes.{IsPut}
use Rattle.wt_called_edit_laws.proofs.Styles.Free.{NestsWithin}
use Rattle.wt_called_edit_laws.proofs.Styles.Put.{put_items, put_own, put_part, put_read, put_sealed, put_source, put_utf8}
use Rattle.wt_called_edit_laws.proofs.Styles.Shown.{calls_behind, past_as}
use Rattle.wt_called_edit_laws.proofs.Styles.Things.{AreStyledThings, IsStyledThing}
use Rattle.wt_called_edit_laws.proofs.Written.Held.{written_with}
use Rattle.wt_called_edit_laws.proofs.Written.Signs.{content_written}
use Rattle.wt_called_edit_laws.specs.StyledCallEdits.{GivesNested}
use Rattle.wt_called_edit_laws.specs.Written.{AreOwnParts, AreReadThings, IsOwnPart, IsReadThing}
use Rattle.wt_called_edit_laws.specs.WrittenAnew.{AreUtf8, node_sources}

-- Each sign that is no character is a node of the page or is put; styles nest, and a call in one gives none of its kind; no call is first or last.
pub record IsStyledWritten (pages : Pages) (s : Setting) (t : StyledContent) : Type 0 where
  pub of_block : s.within ≡ false
  pub characters : AreCharacters (signs_in t)
  pub each : AreStyledThings pages (signs_in t)
  pub nested : AreNested false false t
  pub free : NestsWithin pages false false t
  pub meet : (i : ℕ) → AllMeetWith s [] [] (signs_in t) (owns_in pages i (signs_in t))
  pub some : HasUncalled s [] (signs_in t)

-- so in a heading, which may be calls alone
pub record IsStyledInHeading (pages : Pages) (s : Setting) (t : StyledContent) : Type 0 where
  pub of_block : s.within ≡ false
  pub of_heading : s.place ≡ place.Heading
  pub one_line : AreOnOneLine (signs_in t)
  pub characters : AreCharacters (signs_in t)
  pub each : AreStyledThings pages (signs_in t)
  pub nested : AreNested false false t
  pub free : NestsWithin pages false false t
  pub meet : (i : ℕ) → AllMeetWith s [] [] (signs_in t) (owns_in pages i (signs_in t))
  pub end_seen : AllSeenIn pages (things (signs_in t))

abbrev pub IsStyledWrittenIn : TextBlock → Pages → Setting → StyledContent → Type 0
IsStyledWrittenIn a_paragraph pages s t = IsStyledWritten pages s t
IsStyledWrittenIn (a_heading w) pages s t = IsStyledInHeading pages s t

-- ---- what holds of each

pub all_read : (pages : Pages) (signs : List ContentSign) → AreStyledThings pages signs → AreReadThings signs
all_read pages [] h = tt
all_read pages (letter c ∷ after) h = all_read pages after h
all_read pages (thing x ∷ after) h = (one_read h.0, all_read pages after h.1)
  where
    one_read : IsStyledThing pages x → IsReadThing x
    one_read (inl k) = let own = k.0 in own.read
    one_read (inr p) = put_read x p

pub all_parts : (pages : Pages) (signs : List ContentSign) → AreStyledThings pages signs → AreOwnParts pages signs
all_parts pages [] h = tt
all_parts pages (letter c ∷ after) h = all_parts pages after h
all_parts pages (thing x ∷ after) h = (one_part h.0, all_parts pages after h.1)
  where
    one_part : IsStyledThing pages x → IsOwnPart pages x.source
    one_part (inl k) = let own = k.0 in own.part
    one_part (inr p) = put_part pages x.source (put_source x p)

pub all_sealed : (pages : Pages) (signs : List ContentSign) → AreStyledThings pages signs → AreSealed signs
all_sealed pages [] h = tt
all_sealed pages (letter c ∷ after) h = all_sealed pages after h
all_sealed pages (thing x ∷ after) h = (one_sealed h.0, all_sealed pages after h.1)
  where
    one_sealed : IsStyledThing pages x → IsSealed x.source
    one_sealed (inl k) = let own = k.0 in own.sealed
    one_sealed (inr p) = put_sealed x.source (put_source x p)

pub all_utf8 : (pages : Pages) (signs : List ContentSign) → AreStyledThings pages signs → AreUtf8 (node_sources signs)
all_utf8 pages [] h = tt
all_utf8 pages (letter c ∷ after) h = all_utf8 pages after h
all_utf8 pages (thing x ∷ after) h = (one_utf8 h.0, all_utf8 pages after h.1)
  where
    one_utf8 : IsStyledThing pages x → IsUtf8 x.source
    one_utf8 (inl k) = let own = k.0 in own.utf8
    one_utf8 (inr p) = put_utf8 x.source (put_source x p)

-- behind a content
pub each_behind : (pages : Pages) (t : StyledContent) (after : List ContentSign) → AreStyledThings pages (signs_before t after) → AreStyledThings pages after
each_behind pages finished after h = h
each_behind pages (sign (letter c) t) after h = each_behind pages t after h
each_behind pages (sign (thing x) t) after h = each_behind pages t after h.1
each_behind pages (styled kind opening closing inside t) after h =
    each_behind pages t after (each_behind pages inside (delimiter kind closing ∷ signs_before t after) h.1).1

-- ---- what it gives

role_given : (t : Thing) (u : Thing) (own : List Item) → IsPut t → own ≡ node_items u.source → IsOwnNode u own → IsGivenAs t.role u own
role_given t u own p e h = elim p [
  | inl m ↦ subst (λ (r : Role). IsGivenAs r u own) (sym m.1) (e, h)
  | inr w ↦ subst (λ (r : Role). IsGivenAs r u own) (sym w.0) h
]

put_given : (pages : Pages) (i : ℕ) (x : Thing) → IsPut x → IsGivenAs x.role x (part_items pages i x.source)
put_given pages i x p =
    subst (λ (xs : List Item). IsGivenAs x.role x xs) (sym (put_items pages i x.source (put_source x p))) (role_given x x (node_items x.source) p refl (put_own x p))

pub all_given : (pages : Pages) (i : ℕ) (signs : List ContentSign) → AreStyledThings pages signs → AreGiven signs (owns_in pages i signs)
all_given pages i [] h = tt
all_given pages i (letter c ∷ after) h = all_given pages i after h
all_given pages i (thing x ∷ after) h = (one_given h.0, all_given pages (i + length (expanded_page pages x.source).outer) after h.1)
  where
    one_given : IsStyledThing pages x → IsGivenAs x.role x (part_items pages i x.source)
    one_given (inl k) = let own = k.0 in given_as x.role pages i x own.folder
    one_given (inr p) = put_given pages i x p

-- ---- its items

pub signs_give : (pages : Pages) (i : ℕ) (s : Setting) (signs : List ContentSign) → s.within ≡ false → AreStyledThings pages signs
    → part_items pages i (spelled s signs) ≡ items_with s [] signs (owns_in pages i signs)
signs_give pages i s signs w h =
    let own = content_written pages s signs w (all_read pages signs h) (all_parts pages signs h) in own.items_are i ∙ written_with pages s i [] signs

pub styled_gives : (pages : Pages) (i : ℕ) (s : Setting) (t : StyledContent) → IsStyledWritten pages s t
    → part_items pages i (spelled s (signs_in t)) ≡ items_with s [] (signs_in t) (owns_in pages i (signs_in t))
styled_gives pages i s t h = signs_give pages i s (signs_in t) h.of_block h.each

-- ---- of the page, or a call's

nowiki_some : AreSomeOfPage (line_parts (node_items nowiki))
nowiki_some =
    subst AreSomeOfPage (sym (ap line_parts nowiki_items ∙ nowiki_alone)) (some_guard (guard_has true))
  where
    some_guard : PartsHave (parts Text (guard_items true)) → AreSomeOfPage (parts Text (guard_items true))
    some_guard g = (record { of_page = g.0.1; has_items = g.0.0 }, tt)

pub flat_put : (x : Thing) → IsPut x → IsFlat x.role → x.source ≡ nowiki
flat_put x p f = elim p [
  | inl m ↦ absurd (subst IsFlat m.1 f)
  | inr w ↦ w.1
]

pub put_some : (pages : Pages) (i : ℕ) (x : Thing) → IsPut x → IsFlat x.role → AreSomeOfPage (line_parts (part_items pages i x.source))
put_some pages i x p f =
    subst (λ (xs : List Item). AreSomeOfPage (line_parts xs)) (sym (put_items pages i x.source (put_source x p)))
    (subst (λ (bs : List ℕ). AreSomeOfPage (line_parts (node_items bs))) (sym (flat_put x p f)) nowiki_some)

not_call : (r : Role) (g : Transclusion) → r ≡ Group g → is_call r ≡ false → ⊥
not_call r g i e = let no : true ≡ false = sym (ap is_call i) ∙ e in cc

pub own_some : (pages : Pages) (i : ℕ) (x : Thing) → IsStyledThing pages x → IsFlat x.role → is_call x.role ≡ false → IsOfPage (part_items pages i x.source)
own_some pages i x (inl k) f e =
    let own = k.0 in
    let mine = k.1 in
    elim (folder_case x.role pages x own.folder) [
      | inl s ↦
          let stays : StaysAsItIs pages x = s.0 in
          inl (subst (λ (xs : List Item). AreSomeOfPage (line_parts xs)) (sym (stays.items i)) (mine.some e))
      | inr c ↦ elim c [
        | inl s ↦ let stays : StaysRound pages x = s.0 in inr (stays.round i)
        | inr g ↦ absurd (not_call x.role g.0 g.1 e)
      ]
    ]
own_some pages i x (inr p) f e = inl (put_some pages i x p f)

pub call_or_not : (b : Bool) → (b ≡ true) ⊎ (b ≡ false)
call_or_not true = inl refl
call_or_not false = inr refl

own_call : (pages : Pages) (i : ℕ) (x : Thing) → IsStyledThing pages x → is_call x.role ≡ true → AreOwnOrGiven (line_parts (part_items pages i x.source))
own_call pages i x (inl k) e =
    let own = k.0 in
    elim (folder_case x.role pages x own.folder) [
      | inl s ↦ let no : true ≡ false = sym e ∙ s.1 in absurd (cc)
      | inr c ↦ elim c [
        | inl s ↦ let no : true ≡ false = sym e ∙ s.1 in absurd (cc)
        | inr g ↦ group_inside pages i g.0 x g.2
      ]
    ]
own_call pages i x (inr p) e = absurd (no_call p)
  where
    no_call : IsPut x → ⊥
    no_call (inl m) = let no : false ≡ true = sym (ap is_call m.1) ∙ e in cc
    no_call (inr w) = let no : false ≡ true = sym (ap is_call w.0) ∙ e in cc

one_own : (pages : Pages) (i : ℕ) (bold italic : Bool) (x : Thing) → IsStyledThing pages x → IsFlat x.role
    → (is_call x.role ≡ true → GivesNested pages bold italic x.source) → IsOwnAt bold italic x (part_items pages i x.source)
one_own pages i bold italic x h f g = elim (call_or_not (is_call x.role)) [
  | inl e ↦ inl (e, own_call pages i x h e, g e i)
  | inr e ↦ inr (own_some pages i x h f e)
]

pub own_at : (pages : Pages) (i : ℕ) (bold italic : Bool) (t : StyledContent) (after : List ContentSign) → AreStyledThings pages (signs_before t after)
    → AreNested bold italic t → NestsWithin pages bold italic t → AreOwnAt bold italic t (owns_in pages i (signs_before t after))
own_at pages i bold italic finished after h k f = tt
own_at pages i bold italic (sign (letter c) t) after h k f = own_at pages i bold italic t after h k.1 f
own_at pages i bold italic (sign (thing x) t) after h k f =
    (one_own pages i bold italic x h.0 k.0 f.0, own_at pages (i + length (expanded_page pages x.source).outer) bold italic t after h.1 k.1 f.1)
own_at pages i bold italic (styled kind opening closing inside t) after h k f =
    let signs : List ContentSign = signs_before t after in
    let closes : List ContentSign = delimiter kind closing ∷ signs in
    let j : ℕ = i + length (expanded_page pages (mark_source kind)).outer in
    let m : ℕ = calls_behind pages j inside + length (expanded_page pages (mark_source kind)).outer in (
      own_at pages j (kind || bold) (not kind || italic) inside closes h.1 k.1 f.0,
      subst (λ (os : List (List Item)). AreOwnAt bold italic t (owns_left os)) (sym (past_as pages j inside closes))
          (own_at pages m bold italic t after (each_behind pages inside closes h.1).1 k.2 f.1),
    )

-- ---- so it is such a content

pub styled_in : (pages : Pages) (i : ℕ) (s : Setting) (t : StyledContent) → IsStyledWritten pages s t → IsStyledCalled s t (owns_in pages i (signs_in t))
styled_in pages i s t h = record {
  of_block = h.of_block;
  characters = h.characters;
  given = all_given pages i (signs_in t) h.each;
  own = own_at pages i false false t [] h.each h.nested h.free;
  nested = h.nested;
  meet = h.meet i;
  some = h.some;
}

pub heading_in : (pages : Pages) (i : ℕ) (s : Setting) (t : StyledContent) → IsStyledInHeading pages s t → IsStyledCalledHeading s t (owns_in pages i (signs_in t))
heading_in pages i s t h = record {
  of_block = h.of_block;
  of_heading = h.of_heading;
  one_line = h.one_line;
  characters = h.characters;
  given = all_given pages i (signs_in t) h.each;
  own = own_at pages i false false t [] h.each h.nested h.free;
  nested = h.nested;
  meet = h.meet i;
  end_seen = all_seen pages i (signs_in t) h.end_seen;
}
