-- A group of what a call gives has no fault: read alone it shows the same, its line has even toggles, and no text in it could go on after it.
use Rattle.std.proofs.Common.{arith, ◌≡◌, ℕ, Bool, true, false, None, Some, List, [], ◌∷◌, ◌++◌, map, refl, sym, ap, ap₂, ◌∙◌, subst, append-nil, All}
use Rattle.std.specs.Prelude.{◌&&◌, ◌||◌, if◌then◌else◌, is_some, slice_get}
use Rattle.std.proofs.lemmas.Bool.Decides.{Decides-eqb}
use Rattle.std.proofs.lemmas.List.Elements.{All-nil, All-cons}
use Rattle.wt_tree.specs.Plain.{Plain, Plains, ended, element, plains_before}
use Rattle.wt_tree.specs.Tree.{Trees}
use Rattle.wt_span.specs.Items.{Item, char}
use Rattle.wt_span.specs.Origins.{OuterCall, same_call}
use Rattle.wt_span.proofs.RunLaws.{runs_cut}
use Rattle.wt_expand.specs.Expansion.{opens_block}
use Rattle.wt_guards.specs.Guards.{nowiki}
use Rattle.wt_lines.specs.Lines.{lines}
use Rattle.wt_tiles.specs.declared.glyph.Glyph.{Glyph}
use Rattle.wt_tiles.specs.declared.glyph.Glyph.TheVariants as glyph
use Rattle.wt_tiles.specs.Contexts.{in_line}
use Rattle.wt_tiles.specs.Glyphs.{glyph_of}
use Rattle.wt_tiles.specs.Tiles.{Cut, cuts}
use Rattle.wt_inline.specs.declared.loose.Loose.TheVariants.{Text}
use Rattle.wt_inline.specs.ItemTree.{ItemTree, ItemTrees, further, forest}
use Rattle.wt_inline.specs.Parts.{Part, loose, node, one_leaf, child, children, parts, nowiki as nowiki_tree}
use Rattle.wt_context.specs.Line.{line_parts}
use Rattle.wt_context.specs.Styled.{with_styles}
use Rattle.wt_context.proofs.NestedContexts.{contexts_are}
use Rattle.wt_page.specs.Body.{meaning}
use Rattle.wt_annotated.specs.Annotated.{all_unplaced}
use Rattle.wt_annotated.specs.Labels.{label_at}
use Rattle.wt_isolation.specs.GroupItems.{given_first, is_template, break_before, break_of, with_break_anew, empty_nowiki}
use Rattle.wt_isolation.specs.OpenTexts.{has_open_text}
use Rattle.wt_isolation.specs.Toggles.{has_odd_line}
use Rattle.wt_selser.specs.GroupFaults.{trees_in, shown_by, shown_alone, paragraph_face, one_paragraph, shows_other, is_faulty}
use Rattle.wt_visible.specs.Children.{differing}
use Rattle.wt_visible.proofs.DifferingLaws.{same_none}
use Rattle.wt_part_laws.specs.CallPieces.{AreItemsOf}
use Rattle.wt_text_edit_laws.specs.ParagraphBetween.{body_with}
use Rattle.wt_text_edit_laws.specs.ParagraphParts.{joined_parts, para_with}
use Rattle.wt_text_edit_laws.proofs.Paragraphs.LineBlocks.{OwnBreaks}
use Rattle.wt_beside_laws.specs.Content.{guard_items}
use Rattle.wt_beside_laws.specs.Cuts.{guard_cut}
use Rattle.wt_beside_laws.specs.Given.{GivenSign, given_items, given_glyphs, given_cut, AreGivenSigns, GivenContent, signs_of, given_parts, opens_quoted, AreNestedSigns, GivesSigns}
use Rattle.wt_beside_laws.specs.Lines.{IsLineOfText}
use Rattle.wt_beside_laws.proofs.ContentTiles.{Follows, guard_follows}
use Rattle.wt_beside_laws.proofs.FlatLines.{own_meaning}
use Rattle.wt_beside_laws.proofs.LineItems.{unbroken_before}
use Rattle.wt_beside_laws.proofs.LineKinds.{opens_line}
use Rattle.wt_beside_laws.proofs.LineRows.{own_both, unbroken_own, guard_own}
use Rattle.wt_beside_laws.proofs.LineSegments.{segments_are}
use Rattle.wt_beside_laws.proofs.LineShown.{guard_tree}
use Rattle.wt_typed_blocks.proofs.TextKinds.{atom_opens}
use Rattle.wt_beside_laws.proofs.Groups.GivenParts.{alone_read, signs_line}
use Rattle.wt_beside_laws.proofs.Groups.GivenTiles.{given_are, none_last, given_follow}
use Rattle.wt_beside_laws.proofs.Styled.NestForests.{nests_read}
use Rattle.wt_beside_laws.proofs.Styled.StyledLines.{Read, guard_read}

-- ---- it begins no block, so no line break is put before it

same_self : (j : ℕ) → same_call (Some j) (Some j) ≡ true
same_self j = (Decides-eqb j j).1 refl

all_first : (j : ℕ) (xs : List Item) → AreItemsOf j xs → given_first j xs ≡ xs
all_first j [] h = refl
all_first j (x ∷ xs) h =
    ap (λ o. if same_call (Some j) o then x ∷ given_first j xs else []) h.0
    ∙ ap (λ (v : Bool). if v then x ∷ given_first j xs else []) (same_self j)
    ∙ ap (λ (ys : List Item). x ∷ ys) (all_first j xs h.1)

and_none : (u v : Bool) → v ≡ false → (u && v) ≡ false
and_none true v e = e
and_none false v e = refl

no_break : (calls : List OuterCall) (j : ℕ) (xs : List Item) → AreItemsOf j xs → opens_block xs ≡ false → break_before calls xs ≡ []
no_break calls j [] h e = refl
no_break calls j (x ∷ xs) h e =
    ap (λ o. break_of calls o (x ∷ xs)) h.0
    ∙ ap (λ (w : Bool). if w then char (Some j) 10 ∷ [] else [])
    (and_none (is_template (slice_get calls j)) (opens_block (given_first j (x ∷ xs))) (ap opens_block (all_first j (x ∷ xs) h) ∙ e))

pub given_anew : (calls : List OuterCall) (j : ℕ) (own : List Item) → GivesSigns j own → with_break_anew calls own ≡ own
given_anew calls j own h = ap (λ xs. xs ++ own) (no_break calls j own h.of_call h.unopened)

-- ---- what it shows alone

nowiki_first : (xs : List Item) → empty_nowiki ∷ xs ≡ guard_items true ++ xs
unfolding empty_nowiki nowiki
nowiki_first xs = refl

alone_line : (j : ℕ) (own : List Item) → GivesSigns j own → line_parts (guard_items true ++ own) ≡ parts Text (guard_items true) ++ line_parts own
alone_line j own h =
    let gs : List Glyph = given_glyphs h.signs in
    let c : Cut = given_cut h.signs (0, []) in
    let n : AreNestedSigns j h.signs = h.nested in
    let t : GivenContent = n.content in
    let xs : List Item = guard_items true ++ own in
    let glyphs : map glyph_of own ≡ gs = ap (map glyph_of) h.is ∙ given_are j h.signs in
    let f : Follows in_line false gs c =
    subst (λ hs. Follows in_line false hs c) (append-nil gs) (given_follow false h.signs [] (0, []) h.are (none_last h.signs) refl (λ a i. refl)) in
    let all : cuts in_line false 0 (map glyph_of xs) ≡ guard_cut true c =
    ap (λ hs. cuts in_line false 0 (glyph.Atom ∷ hs)) glyphs ∙ guard_follows in_line false true gs c f false (λ z. z) in
    let r : Read false false (opens_quoted t false) (given_cut (signs_of j t) (0, [])) (given_items j (signs_of j t)) [] (given_parts j t) =
    alone_read j t (subst (AreGivenSigns false) n.is h.are) n.nested in
    let q : Read false false (opens_quoted t false) c own [] (given_parts j t) =
    subst (λ (ys : List Item). Read false false (opens_quoted t false) c ys [] (given_parts j t)) (sym h.is)
    (subst (λ (ss : List GivenSign). Read false false (opens_quoted t false) (given_cut ss (0, [])) (given_items j ss) [] (given_parts j t)) (sym n.is) r) in
    let k = guard_read false false (opens_quoted t false) true c own [] (given_parts j t) q in
    let line : line_parts own ≡ given_parts j t = ap line_parts h.is ∙ signs_line j h.signs n h.are in
    contexts_are in_line xs (omega arith)
    ∙ ap with_styles (segments_are (guard_cut true c) xs all ∙ k.is)
    ∙ nests_read k.nest k.nested
    ∙ k.shows
    ∙ ap (λ ps. parts Text (guard_items true) ++ ps) (sym line)

one_line : (xs : List Item) → lines (xs ++ []) ≡ (xs ++ []) ∷ [] → lines xs ≡ xs ∷ []
one_line xs e = subst (λ ys. lines ys ≡ ys ∷ []) (append-nil xs) e

alone_means : (j : ℕ) (own : List Item) → GivesSigns j own
    → meaning (guard_items true ++ own) ≡ body_with (para_with (parts Text (guard_items true) ++ line_parts own) ∷ [])
alone_means j own h =
    let xs : List Item = guard_items true ++ own in
    let whole_line : lines xs ≡ xs ∷ [] =
    one_line xs (unbroken_before xs [] [] [] (refl, h.unbroken) refl) in
    let text : All (IsLineOfText 0) (lines xs) =
    subst (All (IsLineOfText 0)) (sym whole_line)
    (All-cons (IsLineOfText 0) xs [] (opens_line 0 xs atom_opens) (All-nil (IsLineOfText 0))) in
    let own_breaks : OwnBreaks xs = own_both (guard_items true) own (guard_own true) (unbroken_own own h.unbroken) in
    own_meaning xs own_breaks refl text
    ∙ ap (λ (ls : List (List Item)). body_with (para_with (joined_parts ls) ∷ [])) whole_line
    ∙ ap (λ (ps : List Part). body_with (para_with ps ∷ [])) (append-nil (line_parts xs) ∙ alone_line j own h)

-- ---- its nodes

pub node_first : (t : ItemTree) (qs : List Part) → children (node t ∷ qs) ≡ t ∷ children qs
unfolding children
node_first t [] = ap (map child) (runs_cut one_leaf (node t ∷ []) [] tt)
node_first t (loose k o b ∷ qs) = ap (map child) (runs_cut one_leaf (node t ∷ []) (loose k o b ∷ qs) refl)
node_first t (node u ∷ qs) = ap (map child) (runs_cut one_leaf (node t ∷ []) (node u ∷ qs) refl)

nowiki_hides : (ts : ItemTrees) (rest : Plains) → plains_before (all_unplaced (further (nowiki_tree None nowiki) ts)) rest ≡ plains_before (all_unplaced ts) rest
unfolding label_at
nowiki_hides ts rest = ap (λ (t : ItemTree). plains_before (all_unplaced (further t ts)) rest) guard_tree

alone_inside : (qs : List Part) → plains_before (all_unplaced (forest (children (parts Text (guard_items true) ++ qs)))) ended
    ≡ plains_before (all_unplaced (forest (children qs))) ended
alone_inside qs =
    ap (λ (ts : List ItemTree). plains_before (all_unplaced (forest ts)) ended) (node_first (nowiki_tree None nowiki) qs)
    ∙ nowiki_hides (forest (children qs)) ended

para_alone : (ps : List Part) → shown_by (all_unplaced (trees_in (body_with (para_with ps ∷ [])))) ≡ element paragraph_face (plains_before (all_unplaced (forest (children ps))) ended) ∷ []
unfolding label_at
para_alone ps = refl

given_same : (j : ℕ) (own : List Item) → GivesSigns j own → shows_other (empty_nowiki ∷ own) (all_unplaced (forest (children (line_parts own)))) ≡ false
given_same j own h =
    let qs : List Part = line_parts own in
    let ts : Trees = all_unplaced (forest (children qs)) in
    let is : shown_alone (empty_nowiki ∷ own) ≡ one_paragraph ts =
    ap shown_alone (nowiki_first own)
    ∙ ap (λ (t : ItemTree). shown_by (all_unplaced (trees_in t))) (alone_means j own h)
    ∙ para_alone (parts Text (guard_items true) ++ qs)
    ∙ ap (λ (ps : Plains). element paragraph_face ps ∷ []) (alone_inside qs) in
    ap (λ (xs : List Plain). is_some (differing 1 xs (one_paragraph ts))) is
    ∙ ap is_some (same_none 1 (one_paragraph ts))

-- ---- the group

pub no_fault : (calls : List OuterCall) (j : ℕ) (own : List Item) → GivesSigns j own
    → is_faulty (empty_nowiki ∷ with_break_anew calls own) (all_unplaced (forest (children (line_parts own)))) ≡ false
no_fault calls j own h =
    let ts : Trees = all_unplaced (forest (children (line_parts own))) in
    ap (λ xs. is_faulty (empty_nowiki ∷ xs) ts) (given_anew calls j own h)
    ∙ ap (λ (u : Bool). u || (has_odd_line (empty_nowiki ∷ own) || has_open_text [] ts)) (given_same j own h)
    ∙ ap₂ (λ (u w : Bool). u || w) h.even h.closed
