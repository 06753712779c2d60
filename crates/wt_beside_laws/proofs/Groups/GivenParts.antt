-- What a call gives, as the parts of a paragraph or a heading: each form is the node that it is by itself, and each style is a node round what is inside it.
use Rattle.std.proofs.Common.{arith, ◌≡◌, inl, inr, ℕ, suc, ◌+◌, ◌==◌, Bool, true, false, not, Option, Some, List, [], ◌∷◌, ◌++◌, length, map, refl, sym, ap, ◌∙◌, subst, append-nil, append_assoc, ◌||◌}
use Rattle.wt_span.specs.Items.{Item, char}
use Rattle.wt_inline.specs.declared.loose.Loose.TheVariants.{Text}
use Rattle.wt_inline.specs.Parts.{Part, node, part}
use Rattle.wt_tiles.specs.declared.glyph.Glyph.{Glyph}
use Rattle.wt_tiles.specs.declared.shape.Shape.{Shape}
use Rattle.wt_tiles.specs.Contexts.{in_line}
use Rattle.wt_tiles.specs.Glyphs.{glyph_of, byte_glyphs}
use Rattle.wt_tiles.specs.Tiles.{Cut, cuts}
use Rattle.wt_tiles.specs.Urls.{is_word}
use Rattle.wt_context.specs.Segments.{Segment, loose_segments}
use Rattle.wt_context.specs.Line.{line_parts}
use Rattle.wt_context.specs.Styled.{with_styles}
use Rattle.wt_context.proofs.NestedContexts.{contexts_are}
use Rattle.wt_beside_laws.specs.Cuts.{add_chars, add_node, own_form, ends_word}
use Rattle.wt_beside_laws.specs.Given.{GivenSign, character, form, given_items, given_glyphs, given_cut, BeginsApart, AreGivenSigns, GivenContent, given_end, given_sign, given_style, mark_sign, signs_with, signs_of, given_parts, opens_quoted, closes_quoted, AreNestedGiven, AreNestedSigns}
use Rattle.wt_beside_laws.specs.Nests.{marks_of, segments_of, nest_segments, style_of}
use Rattle.wt_beside_laws.specs.Styled.{mark_source}
use Rattle.wt_beside_laws.proofs.LineSegments.{segments_are}
use Rattle.wt_beside_laws.proofs.Groups.GivenTiles.{given_are, given_alone}
use Rattle.wt_beside_laws.proofs.Groups.HalfSigns.{half_quote, apart_sign}
use Rattle.wt_beside_laws.proofs.Styled.NestForests.{nests_read}
use Rattle.wt_beside_laws.proofs.Styled.NestReads.{IsTail, NestRead, nothing_read, char_read, enclosed_read}
use Rattle.wt_beside_laws.proofs.Styled.NestRuns.{marks_first}
use Rattle.wt_beside_laws.proofs.Styled.StyledLines.{cut_line, Read, form_read, no_form, mark_length, marks_added}

-- ---- its delimiters

marks_glyphs : (origin : Option ℕ) (kind : Bool) → map glyph_of (marks_of origin kind) ≡ byte_glyphs (mark_source kind)
marks_glyphs origin true = refl
marks_glyphs origin false = refl

mark_added : (origin : Option ℕ) (kind : Bool) (c : Cut) (xs : List Item)
    → cut_line (add_node (own_form in_line (byte_glyphs (mark_source kind))) (length (byte_glyphs (mark_source kind))) c) (marks_of origin kind ++ xs)
    ≡ segments_of origin kind ++ cut_line c xs
mark_added origin kind c xs =
    ap (λ (o : Option Shape). cut_line (add_node o (length (byte_glyphs (mark_source kind))) c) (marks_of origin kind ++ xs)) (no_form kind)
    ∙ ap (λ (m : ℕ). cut_line (add_chars m c) (marks_of origin kind ++ xs)) (mark_length kind)
    ∙ marks_added origin kind c xs

mark_first : (j : ℕ) (kind : Bool) (signs : List GivenSign) (c : Cut) (xs : List Item)
    → cut_line (given_cut (mark_sign j kind ∷ signs) c) (given_items j (mark_sign j kind ∷ signs) ++ xs)
    ≡ segments_of (Some j) kind ++ cut_line (given_cut signs c) (given_items j signs ++ xs)
mark_first j kind signs c xs =
    let marks : List Item = marks_of (Some j) kind in
    let k : Cut = given_cut signs c in
    ap (cut_line (given_cut (mark_sign j kind ∷ signs) c)) (append_assoc marks (given_items j signs) xs)
    ∙ ap (λ (gs : List Glyph). cut_line (add_node (own_form in_line gs) (length gs) k) (marks ++ (given_items j signs ++ xs))) (marks_glyphs (Some j) kind)
    ∙ mark_added (Some j) kind k (given_items j signs ++ xs)

-- an apostrophe is its first
mark_apart : (j : ℕ) (kind : Bool) (signs : List GivenSign) → BeginsApart (given_glyphs (mark_sign j kind ∷ signs)) → ⊥
mark_apart j true signs h = let no : false ≡ true = h in cc
mark_apart j false signs h = let no : false ≡ true = h in cc

-- ---- what is first, and what is behind

nothing_quoted : (j : ℕ) (t : GivenContent) (more : List GivenSign) (next : Bool) → (BeginsApart (given_glyphs more) → next ≡ false)
    → BeginsApart (given_glyphs (signs_with j t more)) → opens_quoted t next ≡ false
nothing_quoted j given_end more next f h = f h
nothing_quoted j (given_sign (character b) t) more next f h = let a = apart_sign b h in a.0
nothing_quoted j (given_sign (form r own) t) more next f h = refl
nothing_quoted j (given_style kind inside t) more next f h = absurd (mark_apart j kind (signs_with j inside (mark_sign j kind ∷ signs_with j t more)) h)

behind_style : (t : GivenContent) (next : Bool) → opens_quoted t false ≡ false → (closes_quoted true t ≡ true → next ≡ false) → opens_quoted t next ≡ false
behind_style given_end next e f = f refl
behind_style (given_sign (character b) t) next e f = e
behind_style (given_sign (form r own) t) next e f = refl
behind_style (given_style kind inside t) next e f = e

past_signs : (j : ℕ) (word : Bool) (t : GivenContent) (more : List GivenSign) → AreGivenSigns word (signs_with j t more) → (w : Bool) × AreGivenSigns w more
past_signs j word given_end more h = (word, h)
past_signs j word (given_sign (character b) t) more h = past_signs j (is_word b) t more h.2
past_signs j word (given_sign (form r own) t) more h = past_signs j (ends_word false (map glyph_of own)) t more h.1
past_signs j word (given_style kind inside t) more h =
    let closes : List GivenSign = mark_sign j kind ∷ signs_with j t more in
    let last : Bool = ends_word false (map glyph_of (marks_of (Some j) kind)) in
    let r = past_signs j last inside closes h.1 in
    past_signs j last t more r.1.1

-- ---- all of it, before what follows; `next` says whether an apostrophe may be first there

pub given_read : (j : ℕ) (bold italic word last next : Bool) (t : GivenContent) (more : List GivenSign) (c : Cut) (xs : List Item) (vs : List Segment) (ps : List Part)
    → IsTail vs → AreGivenSigns word (signs_with j t more) → AreNestedGiven bold italic t → (BeginsApart (given_glyphs more) → next ≡ false)
    → (closes_quoted last t ≡ true → next ≡ false) → Read bold italic next (given_cut more c) (given_items j more ++ xs) vs ps
    → Read bold italic (opens_quoted t next) (given_cut (signs_with j t more) c) (given_items j (signs_with j t more) ++ xs) vs (given_parts j t ++ ps)
given_read j bold italic word last next given_end more c xs vs ps tail h k f g r = r
given_read j bold italic word last next (given_sign (character b) t) more c xs vs ps tail h k f g r =
    let signs : List GivenSign = signs_with j t more in
    let all : Cut = given_cut signs c in
    let items : List Item = given_items j signs ++ xs in
    let qs : List Part = given_parts j t ++ ps in
    let later : Read bold italic (opens_quoted t next) all items vs qs = given_read j bold italic (is_word b) false next t more c xs vs ps tail h.2 k f g r in
    let one : suc all.0 ≡ 1 + all.0 = omega arith in
    subst (λ (m : ℕ). Read bold italic (b == 39) (m, all.1) (char (Some j) b ∷ items) vs (part Text (char (Some j) b) ∷ qs)) one
    (char_read bold italic (opens_quoted t next) (b == 39) (char (Some j) b) all.0 all.1 items vs qs tail
    (λ e. nothing_quoted j t more next f (h.1 (half_quote b e))) (λ z. z) later)
given_read j bold italic word last next (given_sign (form role own) t) more c xs vs ps tail h k f g r =
    let signs : List GivenSign = signs_with j t more in
    let before : Cut = given_cut signs c in
    let items : List Item = given_items j signs ++ xs in
    let qs : List Part = given_parts j t ++ ps in
    let all : Cut = add_node (own_form in_line (map glyph_of own)) (length (map glyph_of own)) before in
    let later : Read bold italic (opens_quoted t next) before items vs qs =
    given_read j bold italic (ends_word false (map glyph_of own)) false next t more c xs vs ps tail h.1 k.1 f g r in
    subst (λ (ys : List Item). Read bold italic false all ys vs ((line_parts own ++ given_parts j t) ++ ps)) (sym (append_assoc own (given_items j signs) xs))
    (subst (λ us. Read bold italic false all (own ++ items) vs us) (sym (append_assoc (line_parts own) (given_parts j t) ps))
    (form_read bold italic (opens_quoted t next) false role own before items vs qs k.0 h.0.node later))
given_read j bold italic word last next (given_style kind inside t) more c xs vs ps tail h k f g r =
    let signs : List GivenSign = signs_with j t more in
    let closes : List GivenSign = mark_sign j kind ∷ signs in
    let held : List GivenSign = signs_with j inside closes in
    let mark : Bool = ends_word false (map glyph_of (marks_of (Some j) kind)) in
    let past = past_signs j mark inside closes h.1 in
    let given_later : AreGivenSigns mark signs = past.1.1 in
    let items : List Item = given_items j signs ++ xs in
    let qs : List Part = given_parts j t ++ ps in
    let inner : List Part = given_parts j inside in
    let b : NestRead bold italic false (cut_line (given_cut signs c) items) vs qs =
    subst (λ (v : Bool). NestRead bold italic v (cut_line (given_cut signs c) items) vs qs) (behind_style t next k.4 g)
    (given_read j bold italic mark true next t more c xs vs ps tail given_later k.5 f g r) in
    let end : List Segment = segments_of (Some j) kind ++ nest_segments b.nest vs in
    let close : cut_line (given_cut closes c) (given_items j closes ++ xs) ≡ end =
    mark_first j kind signs c xs ∙ ap (λ us. segments_of (Some j) kind ++ us) b.is in
    let none : Read (kind || bold) (not kind || italic) true (given_cut closes c) (given_items j closes ++ xs) end [] =
    subst (λ us. NestRead (kind || bold) (not kind || italic) true us end []) (sym close) (nothing_read (kind || bold) (not kind || italic) true end (λ z. cc)) in
    let in_it = given_read j (kind || bold) (not kind || italic) mark false true inside closes c xs end [] (inr (marks_first (Some j) kind (nest_segments b.nest vs))) h.1 k.3
    (λ z. absurd (mark_apart j kind signs z)) (λ e. let no : true ≡ false = sym e ∙ k.2 in cc) none in
    let front : List Segment = cut_line (given_cut held c) (given_items j held ++ xs) in
    let a : NestRead (kind || bold) (not kind || italic) false front end inner =
    subst (λ (us : List Part). NestRead (kind || bold) (not kind || italic) false front end us) (append-nil inner)
    (subst (λ (v : Bool). NestRead (kind || bold) (not kind || italic) v front end (inner ++ [])) k.1 in_it) in
    subst (λ us. NestRead bold italic true us vs (node (style_of (Some j) kind inner) ∷ qs)) (sym (mark_first j kind held c xs))
    (enclosed_read (Some j) bold italic kind front (cut_line (given_cut signs c) items) vs inner qs b k.0 a)

-- ---- on a line by itself

pub alone_read : (j : ℕ) (t : GivenContent) → AreGivenSigns false (signs_of j t) → AreNestedGiven false false t
    → Read false false (opens_quoted t false) (given_cut (signs_of j t) (0, [])) (given_items j (signs_of j t)) [] (given_parts j t)
unfolding loose_segments
alone_read j t h k =
    let c : Cut = given_cut (signs_of j t) (0, []) in
    let own : List Item = given_items j (signs_of j t) in
    let none : Read false false false (0, []) [] [] [] = nothing_read false false false [] (λ z. refl) in
    let all : Read false false (opens_quoted t false) c (own ++ []) [] (given_parts j t ++ []) =
    given_read j false false false false false t [] (0, []) [] [] [] (inl refl) h k (λ z. absurd z) (λ z. refl) none in
    subst (λ (xs : List Item). Read false false (opens_quoted t false) c xs [] (given_parts j t)) (append-nil own)
    (subst (λ (ps : List Part). Read false false (opens_quoted t false) c (own ++ []) [] ps) (append-nil (given_parts j t)) all)

pub given_line : (j : ℕ) (t : GivenContent) → AreGivenSigns false (signs_of j t) → AreNestedGiven false false t → line_parts (given_items j (signs_of j t)) ≡ given_parts j t
given_line j t h k =
    let signs : List GivenSign = signs_of j t in
    let own : List Item = given_items j signs in
    let c : Cut = given_cut signs (0, []) in
    let all : cuts in_line false 0 (map glyph_of own) ≡ c =
    ap (cuts in_line false 0) (given_are j signs ∙ sym (append-nil (given_glyphs signs))) ∙ given_alone signs h in
    let r = alone_read j t h k in
    contexts_are in_line own (omega arith) ∙ ap with_styles (segments_are c own all ∙ r.is) ∙ nests_read r.nest r.nested ∙ r.shows

-- these signs
pub signs_line : (j : ℕ) (signs : List GivenSign) (n : AreNestedSigns j signs) → AreGivenSigns false signs → line_parts (given_items j signs) ≡ given_parts j n.content
signs_line j signs n h =
    ap (λ (ss : List GivenSign). line_parts (given_items j ss)) n.is ∙ given_line j n.content (subst (AreGivenSigns false) n.is h) n.nested
