-- Braces that are side by side, two and two, in the nodes of a content of the page: they are some of those of the content.
use Rattle.std.proofs.Common.{◌≡◌, ◌⊎◌, inl, inr, ℕ, ◌+◌, ◌==◌, Bool, true, false, List, [], ◌∷◌, ◌++◌, length, map, refl, sym, ap, ◌∙◌, subst, append-nil, append_assoc, nat_eq, None}
use Rattle.std.specs.Prelude.{◌&&◌, codes, if◌then◌else◌}
use Rattle.std.proofs.lemmas.List.{map-append}
use Rattle.std.specs.Str.{chars}
use Rattle.wt_span.specs.declared.form.ItemForm.TheVariants as form
use Rattle.wt_span.specs.Bytes.{begins}
use Rattle.wt_span.specs.Items.{Item, whole, sources, sign}
use Rattle.wt_guards.specs.Content.{ContentSign, Thing, letter, thing}
use Rattle.wt_guards.specs.Guards.{nowiki}
use Rattle.wt_expand.specs.PageItems.{page_items}
use Rattle.wt_lines.specs.Lines.{lines, AreLines}
use Rattle.wt_lines.proofs.LineLaws.{lines_are}
use Rattle.wt_tiles.specs.declared.shape.Shape.{Shape}
use Rattle.wt_tiles.specs.declared.shape.TileKind.{TileKind}
use Rattle.wt_tiles.specs.declared.shape.TileKind.TheVariants as kind
use Rattle.wt_tiles.specs.Contexts.{in_line}
use Rattle.wt_tiles.specs.Cutting.{joined}
use Rattle.wt_tiles.specs.Tiles.{tiles}
use Rattle.wt_tiles.proofs.Joining.{tiles_join}
use Rattle.wt_text_edit_laws.specs.NoCalls.{Brace, opening, closing, braces, braces_of, IsSome}
use Rattle.wt_text_edit_laws.specs.TextBlocks.{TextBlock, a_paragraph, a_heading}
use Rattle.wt_text_edit_laws.proofs.Between.LessBraces.{all_some, some_more, some_both, some_some}
use Rattle.wt_beside_laws.specs.FlatBlocks.{lines_in, begins_at, signs_in}
use Rattle.wt_beside_laws.specs.NodeItems.{node_items}
use Rattle.wt_beside_laws.specs.PageSigns.{ends_break, tile_signs, signs_of_tiles, line_signs, signs_of_lines, IsFlatForm, IsFlatTile, AreFlatTiles, AreFlatLines}
use Rattle.wt_beside_laws.specs.Stood.{things}
use Rattle.wt_beside_laws.specs.Styled.{mark_source}
use Rattle.wt_beside_laws.specs.StyledNodes.{IsPut, AreSomeAndPut}
use Rattle.wt_beside_laws.proofs.CalmContents.{braces_in}
use Rattle.wt_beside_laws.proofs.Contents.{nowiki_reads}
use Rattle.wt_beside_laws.proofs.NodeItems.{node_as}
use Rattle.wt_beside_laws.proofs.SentNodes.{things_append, no_things}
use Rattle.wt_beside_laws.proofs.Styled.StyledLines.{mark_items}

-- ---- two parts have no more than both together

more_seam : (u v : Bool) (xs ys zs : List Brace) → IsSome (xs ++ ys) zs
    → IsSome ((if u then opening ∷ xs else (if v then closing ∷ xs else xs)) ++ ys) (if u then opening ∷ zs else (if v then closing ∷ zs else zs))
more_seam true v xs ys zs h = inl (refl, h)
more_seam false true xs ys zs h = inl (refl, h)
more_seam false false xs ys zs h = h

one_seam : (u v p q : Bool) (ys : List Brace) → IsSome ((if u && false then opening ∷ [] else (if v && false then closing ∷ [] else [])) ++ ys)
    (if u && p then opening ∷ ys else (if v && q then closing ∷ ys else ys))
one_seam true true true q ys = some_more ys opening ys (all_some ys)
one_seam true true false true ys = some_more ys closing ys (all_some ys)
one_seam true true false false ys = all_some ys
one_seam true false true q ys = some_more ys opening ys (all_some ys)
one_seam true false false q ys = all_some ys
one_seam false true p true ys = some_more ys closing ys (all_some ys)
one_seam false true p false ys = all_some ys
one_seam false false p q ys = all_some ys

signs_seam : (xs ys : List ℕ) → IsSome (braces xs ++ braces ys) (braces (xs ++ ys))
signs_seam [] ys = all_some (braces ys)
signs_seam (s ∷ []) [] = subst (λ (bs : List Brace). IsSome bs (braces (s ∷ []))) (sym (append-nil (braces (s ∷ [])))) (all_some (braces (s ∷ [])))
signs_seam (s ∷ []) (t ∷ ys) =
    one_seam (nat_eq 123 s) (nat_eq 125 s) (begins (codes "{") (t ∷ ys)) (begins (codes "}") (t ∷ ys)) (braces (t ∷ ys))
signs_seam (s ∷ t ∷ ss) ys =
    more_seam (begins (codes "{{") (s ∷ t ∷ ss)) (begins (codes "}}") (s ∷ t ∷ ss)) (braces (t ∷ ss)) (braces ys) (braces (t ∷ (ss ++ ys))) (signs_seam (t ∷ ss) ys)

items_seam : (xs ys : List Item) → IsSome (braces_of xs ++ braces_of ys) (braces_of (xs ++ ys))
items_seam xs ys =
    subst (λ (ss : List ℕ). IsSome (braces_of xs ++ braces_of ys) (braces ss)) (sym (map-append sign xs ys)) (signs_seam (map sign xs) (map sign ys))

-- of each some
both_some : (us vs : List Brace) (xs ys : List Item) → IsSome us (braces_of xs) → IsSome vs (braces_of ys) → IsSome (us ++ vs) (braces_of (xs ++ ys))
both_some us vs xs ys h k =
    some_some (us ++ vs) (braces_of xs ++ braces_of ys) (braces_of (xs ++ ys)) (some_both us (braces_of xs) vs (braces_of ys) h k) (items_seam xs ys)

braces_append : (ts us : List Thing) → braces_in (ts ++ us) ≡ braces_in ts ++ braces_in us
braces_append [] us = refl
braces_append (t ∷ ts) us =
    ap (λ (bs : List Brace). braces_of (node_items t.source) ++ bs) (braces_append ts us)
    ∙ sym (append_assoc (braces_of (node_items t.source)) (braces_in ts) (braces_in us))

things_both : (xs ys : List ContentSign) → braces_in (things (xs ++ ys)) ≡ braces_in (things xs) ++ braces_in (things ys)
things_both xs ys = ap braces_in (things_append xs ys) ∙ braces_append (things xs) (things ys)

signs_both : (ss us : List ContentSign) (xs ys : List Item) → IsSome (braces_in (things ss)) (braces_of xs) → IsSome (braces_in (things us)) (braces_of ys)
    → IsSome (braces_in (things (ss ++ us))) (braces_of (xs ++ ys))
signs_both ss us xs ys h k =
    subst (λ (bs : List Brace). IsSome bs (braces_of (xs ++ ys))) (sym (things_both ss us)) (both_some (braces_in (things ss)) (braces_in (things us)) xs ys h k)

-- ---- tiles

form_some : (xs : List Item) → IsFlatForm xs → IsSome (braces_of (node_items (sources xs)) ++ []) (braces_of xs)
form_some xs f =
    subst (λ (bs : List Brace). IsSome bs (braces_of xs)) (sym (append-nil (braces_of (node_items (sources xs)))))
    (subst (λ (ys : List Item). IsSome (braces_of ys) (braces_of xs)) (sym f.alone) (all_some (braces_of xs)))

tile_some : (k : TileKind) (began : Bool) (at : ℕ) (xs : List Item) → IsFlatTile k xs → IsSome (braces_in (things (tile_signs k began at xs))) (braces_of xs)
tile_some kind.Link began at xs f = form_some xs f
tile_some kind.Category began at xs f = form_some xs f
tile_some kind.Media began at xs f = form_some xs f
tile_some kind.ExtLink began at xs f = form_some xs f
tile_some kind.BareUrl began at xs f = form_some xs f
tile_some kind.Br began at xs f = form_some xs f
tile_some kind.Pair began at xs f = form_some xs f
tile_some kind.TagIsland began at xs f = form_some xs f
tile_some kind.Switch began at xs f = form_some xs f
tile_some kind.Atom began at xs f = form_some xs f
tile_some kind.Mark began at xs f = form_some xs f
tile_some kind.Chars began at xs f =
    subst (λ (ts : List Thing). IsSome (braces_in ts) (braces_of xs)) (sym (no_things (chars (sources xs)))) tt

tiles_some : (began : Bool) (at : ℕ) (ps : List (Shape × List Item)) → AreFlatTiles ps → IsSome (braces_in (things (signs_of_tiles began at ps))) (braces_of (joined ps))
tiles_some began at [] f = tt
tiles_some began at ((v, xs) ∷ ps) f =
    signs_both (tile_signs v.kind began at xs) (signs_of_tiles (ends_break (sources xs)) (at + length (sources xs)) ps) xs (joined ps)
    (tile_some v.kind began at xs f.0) (tiles_some (ends_break (sources xs)) (at + length (sources xs)) ps f.1)

line_some : (at : ℕ) (xs : List Item) → AreFlatTiles (tiles in_line xs) → IsSome (braces_in (things (line_signs at xs))) (braces_of xs)
line_some at xs f =
    subst (λ (ys : List Item). IsSome (braces_in (things (line_signs at xs))) (braces_of ys)) (tiles_join in_line xs) (tiles_some true at (tiles in_line xs) f)

lines_some : (at : ℕ) (ls : List (List Item)) (xs : List Item) → AreLines ls xs → AreFlatLines ls → IsSome (braces_in (things (signs_of_lines at ls))) (braces_of xs)
lines_some at [] xs a f = absurd a
lines_some at (x ∷ []) xs a f = subst (λ (ys : List Item). IsSome (braces_in (things (line_signs at x))) (braces_of ys)) (sym a.1) (line_some at x f.1)
lines_some at (x ∷ m ∷ ls) xs a f =
    let next : ℕ = at + length (sources x) + 1 in
    let more : List ContentSign = signs_of_lines next (m ∷ ls) in
    let rest : IsSome (braces_in (things more)) (braces_of (a.1 ∷ a.2)) =
    both_some [] (braces_in (things more)) (a.1 ∷ []) a.2 tt (lines_some next (m ∷ ls) a.2 a.5 f.2) in
    subst (λ (ys : List Item). IsSome (braces_in (things (signs_of_lines at (x ∷ m ∷ ls)))) (braces_of ys)) (sym a.4)
    (signs_both (line_signs at x) (letter 10 ∷ more) x (a.1 ∷ a.2) (line_some at x f.1) rest)

pub page_some : (k : TextBlock) (q : List ℕ) → AreFlatLines (lines_in k q) → IsSome (braces_in (things (signs_in k q))) (braces_of (page_items q))
page_some a_paragraph q f = lines_some (begins_at a_paragraph) (lines (page_items q)) (page_items q) (lines_are (page_items q)) f
page_some (a_heading s) q f = line_some (begins_at (a_heading s)) (page_items q) f.1

-- ---- some of them, and what is put

mark_none : (bold : Bool) → braces_of (node_items (mark_source bold)) ≡ []
mark_none true = ap braces_of (mark_items true)
mark_none false = ap braces_of (mark_items false)

nowiki_none : braces_of (node_items nowiki) ≡ []
nowiki_none = ap braces_of (node_as nowiki (whole form.Nowiki None nowiki ∷ []) nowiki_reads)

put_none : (t : Thing) → IsPut t → braces_of (node_items t.source) ≡ []
put_none t p = elim p [
  | inl m ↦ ap (λ (q : List ℕ). braces_of (node_items q)) m.2 ∙ mark_none m.0
  | inr n ↦ ap (λ (q : List ℕ). braces_of (node_items q)) n.1 ∙ nowiki_none
]

pub nodes_some : (news olds : List Thing) → AreSomeAndPut news olds → IsSome (braces_in news) (braces_in olds)
nodes_some [] olds h = tt
nodes_some (t ∷ ts) olds (inl h) =
    subst (λ (bs : List Brace). IsSome (bs ++ braces_in ts) (braces_in olds)) (sym (put_none t h.0)) (nodes_some ts olds h.1)
nodes_some (t ∷ ts) olds (inr h) =
    let gone : List Thing = h.0 in
    let later : List Thing = h.1 in
    let own : List Brace = braces_of (node_items t.source) in
    let all : braces_in olds ≡ braces_in gone ++ (own ++ braces_in later) = ap braces_in h.2 ∙ braces_append gone (t ∷ later) in
    subst (λ (bs : List Brace). IsSome (own ++ braces_in ts) bs) (sym all)
    (some_both [] (braces_in gone) (own ++ braces_in ts) (own ++ braces_in later) tt
    (some_both own own (braces_in ts) (braces_in later) (all_some own) (nodes_some ts later h.3)))
