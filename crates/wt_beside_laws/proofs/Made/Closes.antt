-- A content of nodes that the old one had, and of texts, closes no tag that the old one didn't close.
use Rattle.std.proofs.Common.{arith, ◌≡◌, ℕ, ◌+◌, ◌≤◌, ◌==◌, Bool, true, false, List, [], ◌∷◌, ◌++◌, length, map, refl, sym, ap, ◌∙◌, subst, append_assoc, inl, inr, All}
use Rattle.std.specs.Prelude.{codes, encode_utf8}
use Rattle.std.specs.Fmt.{digits}
use Rattle.std.specs.Str.{chars}
use Rattle.std.proofs.lemmas.Bool.{cases_lt}
use Rattle.std.proofs.lemmas.Grind.{flat_map-append}
use Rattle.std.proofs.lemmas.List.Elements.{All-head, All-tail}
use Rattle.std.proofs.lemmas.Str.{encode_ascii}
use Rattle.wt_span.specs.Items.{Item, source, sources}
use Rattle.wt_names.proofs.Ascii.{IsWide, encode_wide}
use Rattle.wt_guards.specs.Content.{ContentSign, Thing, letter, thing}
use Rattle.wt_guards.specs.Guards.{Setting, nowiki, nowiki_if, is_guarded, spelled_from}
use Rattle.wt_guards.specs.Letters.{is_escaped, reference, written_by}
use Rattle.wt_guards.proofs.Escapes.{is_escapable, escapable, each_escapable}
use Rattle.wt_typed_blocks.proofs.Forms.{IsTame}
use Rattle.wt_typed_blocks.proofs.TextReads.{equal_or, apart}
use Rattle.wt_expand.specs.PageItems.{page_items}
use Rattle.wt_expand.proofs.PageLaws.{page_sources}
use Rattle.wt_lines.specs.Lines.{lines, AreLines}
use Rattle.wt_lines.proofs.LineLaws.{lines_are}
use Rattle.wt_tiles.specs.declared.shape.Shape.{Shape}
use Rattle.wt_tiles.specs.declared.shape.TileKind.{TileKind}
use Rattle.wt_tiles.specs.declared.shape.TileKind.TheVariants as kind
use Rattle.wt_tiles.specs.Contexts.{in_line}
use Rattle.wt_tiles.specs.Cutting.{joined}
use Rattle.wt_tiles.specs.Tiles.{tiles}
use Rattle.wt_tiles.proofs.Joining.{tiles_join}
use Rattle.wt_text_edit_laws.specs.TextBlocks.{TextBlock, a_paragraph, a_heading}
use Rattle.wt_text_edit_laws.proofs.Between.ClosingTags.{Unclosed, ClosesNothing, unclosed_byte, not_less, not_slash, unclosed_untagged, unclosed_behind}
use Rattle.wt_text_edit_laws.proofs.Between.LineWords.{lacks}
use Rattle.wt_text_edit_laws.proofs.Texts.TypedItems.{wide_tame, tame_if}
use Rattle.wt_beside_laws.specs.FlatBlocks.{begins_at, signs_in, AreSealed}
use Rattle.wt_beside_laws.specs.PageSigns.{ends_break, tile_signs, signs_of_tiles, line_signs, signs_of_lines}
use Rattle.wt_beside_laws.specs.Stood.{things}
use Rattle.wt_beside_laws.proofs.Contents.{begin_letter}
use Rattle.wt_beside_laws.proofs.Each.{Each}
use Rattle.wt_beside_laws.proofs.SentNodes.{no_things}

-- ---- what is put closes none

pub guard_closes : (u : Bool) (name rest : List ℕ) → Unclosed name rest → Unclosed name (nowiki_if u ++ rest)
unfolding nowiki
guard_closes true name rest h =
    unclosed_byte name 60 (codes "nowiki/>" ++ rest) (not_slash 110 (codes "owiki/>" ++ rest) (omega arith)) (unclosed_untagged name (codes "nowiki/>") rest refl h)
guard_closes false name rest h = h

reference_untagged : (c : ℕ) → is_escapable c ≡ true → lacks (λ b. b == 60) (reference c) ≡ true
unfolding reference digits
reference_untagged c e = each_escapable (λ k. lacks (λ b. b == 60) (reference k) ≡ true) refl refl refl refl refl refl refl refl refl refl refl refl refl c e

reference_closes : (c : ℕ) → is_escapable c ≡ true → (name rest : List ℕ) → Unclosed name rest → Unclosed name (reference c ++ rest)
reference_closes c e name rest h = unclosed_untagged name (reference c) rest (reference_untagged c e) h

-- ---- a character

abbrev further : Setting → ℕ → List ContentSign → List ContentSign → List ℕ
further s c before after = spelled_from s (letter c ∷ before) after

wide_closes : (bs : List ℕ) → All IsWide bs → (name rest : List ℕ) → Unclosed name rest → Unclosed name (bs ++ rest)
wide_closes [] w name rest h = h
wide_closes (b ∷ bs) w name rest h =
    let big : 128 ≤ b = All-head IsWide b bs w in
    unclosed_byte name b (bs ++ rest) (not_less b (bs ++ rest) (omega (arith, big))) (wide_closes bs (All-tail IsWide b bs w) name rest h)

less_closes : (s : Setting) (before after : List ContentSign) → is_escaped s.within s.place before 60 after ≡ false → (name rest : List ℕ)
    → Unclosed name (further s 60 before after ++ rest) → Unclosed name (60 ∷ (further s 60 before after ++ rest))
unfolding is_escaped
less_closes s before [] e name rest h = cc
less_closes s before (thing t ∷ after) e name rest h = cc
less_closes s before (letter d ∷ after) e name rest h =
    let n = begin_letter IsTame s 60 d before after refl refl (refl, omega arith, omega arith) (tame_if d e) wide_tame in
    unclosed_byte name 60 (further s 60 before (letter d ∷ after) ++ rest)
    (subst (λ (bs : List ℕ). ClosesNothing (60 ∷ (bs ++ rest))) (sym n.is) (not_slash n.first (n.others ++ rest) n.fits.2)) h

small_closes : (s : Setting) (before : List ContentSign) (c : ℕ) (after : List ContentSign) → is_escaped s.within s.place before c after ≡ false → (name rest : List ℕ)
    → Unclosed name (further s c before after ++ rest) → Unclosed name (c ∷ (further s c before after ++ rest))
small_closes s before c after e name rest h =
    let P : ℕ → Type 0 = λ k. is_escaped s.within s.place before k after ≡ false → Unclosed name (further s k before after ++ rest)
    → Unclosed name (k ∷ (further s k before after ++ rest)) in
    elim (equal_or c 60) [
      | inl i ↦ subst P (sym i) (λ f g. less_closes s before after f name rest g) e h
      | inr l ↦ unclosed_byte name c (further s c before after ++ rest) (not_less c (further s c before after ++ rest) (apart c 60 l)) h
    ]

letter_closes : (s : Setting) (before : List ContentSign) (c : ℕ) (after : List ContentSign) (e : Bool) → is_escaped s.within s.place before c after ≡ e → (name rest : List ℕ)
    → Unclosed name (further s c before after ++ rest) → Unclosed name (written_by e c ++ (further s c before after ++ rest))
letter_closes s before c after true e name rest h =
    reference_closes c (escapable s.within s.place before c after e) name (further s c before after ++ rest) h
letter_closes s before c after false e name rest h = elim (cases_lt c 128) [
  | inl small ↦ subst (λ (bs : List ℕ). Unclosed name (bs ++ (further s c before after ++ rest))) (sym (encode_ascii c small)) (small_closes s before c after e name rest h)
  | inr wide ↦ wide_closes (encode_utf8 c) (encode_wide c wide) name (further s c before after ++ rest) h
]

-- ---- a content

-- a source that is somewhere before something in which no such tag closes
abbrev pub OpenFor : List ℕ → Thing → Type 0
OpenFor name t = (us : List ℕ) × Unclosed name (t.source ++ us)

three : (g w r rest : List ℕ) → (g ++ (w ++ r)) ++ rest ≡ g ++ (w ++ (r ++ rest))
three g w r rest = append_assoc g (w ++ r) rest ∙ ap (λ (bs : List ℕ). g ++ bs) (append_assoc w r rest)

pub content_closes : (s : Setting) (before signs : List ContentSign) (name rest : List ℕ) → Each (OpenFor name) (things signs) → AreSealed signs → Unclosed name rest
    → Unclosed name (spelled_from s before signs ++ rest)
content_closes s before [] name rest o a h = guard_closes (is_guarded s before []) name rest h
content_closes s before (letter c ∷ after) name rest o a h =
    let u : Bool = is_guarded s before (letter c ∷ after) in
    let e : Bool = is_escaped s.within s.place before c after in
    let more : List ℕ = further s c before after in
    let next : Unclosed name (more ++ rest) = content_closes s (letter c ∷ before) after name rest o a h in
    subst (Unclosed name) (sym (three (nowiki_if u) (written_by e c) more rest))
    (guard_closes u name (written_by e c ++ (more ++ rest)) (letter_closes s before c after e refl name rest next))
content_closes s before (thing t ∷ after) name rest o a h =
    let u : Bool = is_guarded s before (thing t ∷ after) in
    let more : List ℕ = spelled_from s (thing t ∷ before) after in
    let next : Unclosed name (more ++ rest) = content_closes s (thing t ∷ before) after name rest o.1 a.1 h in
    subst (Unclosed name) (sym (three (nowiki_if u) t.source more rest))
    (guard_closes u name (t.source ++ (more ++ rest)) (a.0.closes name o.0.0 (more ++ rest) o.0.1 next))

-- ---- the nodes of the page, each before what follows it there

pub each_both : (P : Thing → Type 0) (xs ys : List ContentSign) → Each P (things xs) → Each P (things ys) → Each P (things (xs ++ ys))
each_both P [] ys h k = k
each_both P (letter c ∷ xs) ys h k = each_both P xs ys h k
each_both P (thing t ∷ xs) ys h k = (h.0, each_both P xs ys h.1 k)

no_letters : (P : Thing → Type 0) (cs : List ℕ) → Each P (things (map letter cs))
no_letters P cs = subst (Each P) (sym (no_things cs)) tt

tile_open : (name us : List ℕ) (k : TileKind) (began : Bool) (at : ℕ) (xs : List Item) → Unclosed name (sources xs ++ us)
    → Each (OpenFor name) (things (tile_signs k began at xs))
tile_open name us kind.Link began at xs h = ((us, h), tt)
tile_open name us kind.Category began at xs h = ((us, h), tt)
tile_open name us kind.Media began at xs h = ((us, h), tt)
tile_open name us kind.ExtLink began at xs h = ((us, h), tt)
tile_open name us kind.BareUrl began at xs h = ((us, h), tt)
tile_open name us kind.Br began at xs h = ((us, h), tt)
tile_open name us kind.Pair began at xs h = ((us, h), tt)
tile_open name us kind.TagIsland began at xs h = ((us, h), tt)
tile_open name us kind.Switch began at xs h = ((us, h), tt)
tile_open name us kind.Atom began at xs h = ((us, h), tt)
tile_open name us kind.Mark began at xs h = ((us, h), tt)
tile_open name us kind.Chars began at xs h = no_letters (OpenFor name) (chars (sources xs))

before_both : (name : List ℕ) (xs ys : List Item) (us : List ℕ) → Unclosed name (sources (xs ++ ys) ++ us) → Unclosed name (sources xs ++ (sources ys ++ us))
before_both name xs ys us h =
    subst (Unclosed name) (ap (λ (bs : List ℕ). bs ++ us) (flat_map-append source xs ys) ∙ append_assoc (sources xs) (sources ys) us) h

tiles_open : (name us : List ℕ) (began : Bool) (at : ℕ) (ps : List (Shape × List Item)) → Unclosed name (sources (joined ps) ++ us) → Each (OpenFor name) (things (signs_of_tiles began at ps))
tiles_open name us began at [] h = tt
tiles_open name us began at ((w, xs) ∷ ps) h =
    let both : Unclosed name (sources xs ++ (sources (joined ps) ++ us)) = before_both name xs (joined ps) us h in
    each_both (OpenFor name) (tile_signs w.kind began at xs) (signs_of_tiles (ends_break (sources xs)) (at + length (sources xs)) ps)
    (tile_open name (sources (joined ps) ++ us) w.kind began at xs both)
    (tiles_open name us (ends_break (sources xs)) (at + length (sources xs)) ps (unclosed_behind name (sources xs) (sources (joined ps) ++ us) both))

line_open : (name us : List ℕ) (at : ℕ) (xs : List Item) → Unclosed name (sources xs ++ us) → Each (OpenFor name) (things (line_signs at xs))
line_open name us at xs h =
    tiles_open name us true at (tiles in_line xs) (subst (λ (ys : List Item). Unclosed name (sources ys ++ us)) (sym (tiles_join in_line xs)) h)

lines_open : (name us : List ℕ) (at : ℕ) (ls : List (List Item)) (xs : List Item) → AreLines ls xs → Unclosed name (sources xs ++ us)
    → Each (OpenFor name) (things (signs_of_lines at ls))
lines_open name us at [] xs a h = absurd a
lines_open name us at (l ∷ []) xs a h = line_open name us at l (subst (λ (ys : List Item). Unclosed name (sources ys ++ us)) a.1 h)
lines_open name us at (l ∷ m ∷ ls) xs a h =
    let others : List Item = a.2 in
    let both : Unclosed name (sources l ++ (sources (a.1 ∷ others) ++ us)) =
    before_both name l (a.1 ∷ others) us (subst (λ (ys : List Item). Unclosed name (sources ys ++ us)) a.4 h) in
    let behind : Unclosed name (source a.1 ++ (sources others ++ us)) =
    subst (Unclosed name) (append_assoc (source a.1) (sources others) us) (unclosed_behind name (sources l) (sources (a.1 ∷ others) ++ us) both) in
    each_both (OpenFor name) (line_signs at l) (letter 10 ∷ signs_of_lines (at + length (sources l) + 1) (m ∷ ls))
    (line_open name (sources (a.1 ∷ others) ++ us) at l both)
    (lines_open name us (at + length (sources l) + 1) (m ∷ ls) others a.5 (unclosed_behind name (source a.1) (sources others ++ us) behind))

as_items : (name q us : List ℕ) → Unclosed name (q ++ us) → Unclosed name (sources (page_items q) ++ us)
as_items name q us h = subst (λ (bs : List ℕ). Unclosed name (bs ++ us)) (sym (page_sources q)) h

pub block_open : (k : TextBlock) (q name us : List ℕ) → Unclosed name (q ++ us) → Each (OpenFor name) (things (signs_in k q))
block_open a_paragraph q name us h = lines_open name us 0 (lines (page_items q)) (page_items q) (lines_are (page_items q)) (as_items name q us h)
block_open (a_heading s) q name us h = line_open name us (begins_at (a_heading s)) (page_items q) (as_items name q us h)
