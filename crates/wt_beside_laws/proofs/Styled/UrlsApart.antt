-- No bare URL that ends with an apostrophe is directly before a delimiter in the page: at each place of a delimiter there is an apostrophe.
use Rattle.std.proofs.Common.{arith, ◌≡◌, ℕ, ◌+◌, ◌-◌, Bool, true, false, Option, Some, None, List, [], ◌∷◌, ◌++◌, length, refl, sym, ap, ◌∙◌, subst, inl, inr, append_assoc}
use Rattle.std.specs.Prelude.{◌==◌, ◌&&◌, not, min, if◌then◌else◌}
use Rattle.std.specs.Str.{chars}
use Rattle.std.proofs.lemmas.Bool.Decides.{nat_tests}
use Rattle.std.proofs.lemmas.List.{length-append}
use Rattle.wt_span.specs.Items.{Item, sources}
use Rattle.wt_tree.specs.declared.kind.Kind.{Kind}
use Rattle.wt_tree.specs.declared.kind.Kind.TheVariants as kind
use Rattle.wt_tree.specs.declared.edit_shape.InlineForm.{InlineForm}
use Rattle.wt_tree.specs.declared.edit_shape.InlineForm.TheVariants as inline
use Rattle.wt_tree.specs.EditShapes.{edit_shape}
use Rattle.wt_tree.specs.Kinds.{is_leaf}
use Rattle.wt_tree.specs.Source.{flat, flat_of_all}
use Rattle.wt_tree.specs.Tiling.{is_group, HasNoGroup, NoneIsGroup}
use Rattle.wt_tree.specs.Tree.{Label, Tree, tree, Trees, none, more, label}
use Rattle.wt_guards.specs.declared.role.Role.{Role}
use Rattle.wt_guards.specs.declared.role.Role.TheVariants.{Toggle, Node}
use Rattle.wt_guards.specs.declared.role.Stretch.{Stretch}
use Rattle.wt_guards.specs.Content.{ContentSign, Thing}
use Rattle.wt_guards.specs.Guards.{end_of, start_of, is_reached}
use Rattle.wt_original.specs.Kept.{Kept, kept_nodes, kept_with, items, visible, is_delimited, found_at, found_from, found_in}
use Rattle.wt_original.specs.Page.{Page}
use Rattle.wt_inline.specs.ItemTree.{ItemTrees, nothing, further, forest, tree_items, held_by_all}
use Rattle.wt_inline.specs.Parts.{children}
use Rattle.wt_inline.proofs.HeldLaws.{held_children, sources_append}
use Rattle.wt_annotated.specs.Numbering.{count}
use Rattle.wt_annotated.specs.WithoutCalls.{placed}
use Rattle.wt_link_spelling.specs.Spelling.{is_style, stretch, opening_place, closing_place, children_of}
use Rattle.wt_part_laws.specs.Standing.{standing}
use Rattle.wt_part_laws.proofs.Sources.{standing_source}
use Rattle.wt_typed_blocks.specs.Sent.{IsSentAsIs, StandsAsIs, AllStandAsIs}
use Rattle.wt_typed_blocks.specs.Edited.{Pieces, no_pieces, gone, written, kept, around, new_style, as_new, page_pieces, text_node, sent_pieces, PiecesStay}
use Rattle.wt_typed_blocks.proofs.SentGroups.{in_group, apart, apart_groups}
use Rattle.wt_text_edit_laws.specs.ParagraphParts.{joined_parts}
use Rattle.wt_text_edit_laws.specs.TextBlocks.{TextBlock}
use Rattle.wt_beside_laws.specs.Cuts.{own_glyphs}
use Rattle.wt_beside_laws.specs.Flat.{IsFlat}
use Rattle.wt_beside_laws.specs.FlatBlocks.{lines_in, begins_at, signs_in as signs_of}
use Rattle.wt_beside_laws.specs.PageBlocks.{IsBlockOfLines}
use Rattle.wt_beside_laws.specs.SentStyled.{text_then, found_then, or_nowiki, sent_by, sent_before, sent_content, KeptIsFlat, HasNoDelimiter}
use Rattle.wt_beside_laws.specs.Stood.{things}
use Rattle.wt_beside_laws.specs.Styled.{StyledContent, finished, sign, styled, delimiter, signs_before, signs_in}
use Rattle.wt_beside_laws.specs.StyledIn.{IsStyledIn}
use Rattle.wt_beside_laws.specs.StyledNodes.{IsPut, AreSomeAndPut, EndsUnquoted, AreUrlsApart}
use Rattle.wt_beside_laws.proofs.BlockNumbers.{block_counts}
use Rattle.wt_beside_laws.proofs.BlockSigns.{block_by, its_children, no_leaf, inside}
use Rattle.wt_beside_laws.proofs.Each.{Each}
use Rattle.wt_beside_laws.proofs.Made.Making.{known}
use Rattle.wt_beside_laws.proofs.Made.OldBlocks.{IsIn, block_begins}
use Rattle.wt_beside_laws.proofs.OwnSigns.{Every, every_left, every_right, Finds, all_found, own_found, inside_found}
use Rattle.wt_beside_laws.proofs.PageSigns.{lines_stood, lines_at}
use Rattle.wt_beside_laws.proofs.PartThings.{nodes_of}
use Rattle.wt_beside_laws.proofs.SentPieces.{not_group}
use Rattle.wt_beside_laws.proofs.Styled.OldStyled.{styled_of_lines}
use Rattle.wt_beside_laws.proofs.Styled.OwnNests.{BeginsQuoted, IsQuoted, QuotedBy, HaveQuoted}
use Rattle.wt_beside_laws.proofs.Styled.StyledNodes.{each_some}
use Rattle.wt_beside_laws.proofs.Styled.UrlEnds.{QuoteAt, quote_left, quote_right, bytes_in, EndsIn, urls_unquoted, lines_source}

-- ---- the places of a style's delimiters

-- if there is one, an apostrophe begins there
abbrev IsQuotedAt : ℕ → List ℕ → Option Stretch → Type 0
IsQuotedAt at bs o = (c : ℕ) → start_of o ≡ Some c → QuoteAt c at bs

abbrev StyleIsQuoted : ℕ → List ℕ → Option Kept → Type 0
StyleIsQuoted at bs k = IsQuotedAt at bs (opening_place k) × IsQuotedAt at bs (closing_place k)

abbrev OfStyle : InlineForm → Type 0 → Type 0 → Type 0
OfStyle inline.Nothing own inside = Unit {0}
OfStyle inline.Characters own inside = Unit {0}
OfStyle inline.Bold own inside = own × inside
OfStyle inline.Italic own inside = own × inside
OfStyle inline.Shown own inside = Unit {0}
OfStyle inline.PageLink own inside = Unit {0}
OfStyle inline.ExternalLink own inside = Unit {0}
OfStyle inline.Tag own inside = Unit {0}
OfStyle inline.Break own inside = Unit {0}
OfStyle inline.AsItStood own inside = Unit {0}

-- so it is of each style
abbrev mutual
  StandsQuoted : ℕ → List ℕ → Page → Tree → Type 0
  StandsQuoted at bs p (tree l ts) = OfStyle (edit_shape l.kind).inline (StyleIsQuoted at bs (kept_with l.id p.kept)) (AllStandQuoted at bs p ts)

  AllStandQuoted : ℕ → List ℕ → Page → Trees → Type 0
  AllStandQuoted at bs p none = Unit {0}
  AllStandQuoted at bs p (more t us) = StandsQuoted at bs p t × AllStandQuoted at bs p us

-- ---- in the page

stand_by : (w : InlineForm) (l : Label) (H own inside : Type 0) → QuotedBy w l H → (is_style w ≡ true → IsQuoted l → H → own × inside) → OfStyle w own inside
stand_by inline.Nothing l H own inside q f = tt
stand_by inline.Characters l H own inside q f = tt
stand_by inline.Bold l H own inside q f = f refl q.0 q.1
stand_by inline.Italic l H own inside q f = f refl q.0 q.1
stand_by inline.Shown l H own inside q f = tt
stand_by inline.PageLink l H own inside q f = tt
stand_by inline.ExternalLink l H own inside q f = tt
stand_by inline.Tag l H own inside q f = tt
stand_by inline.Break l H own inside q f = tt
stand_by inline.AsItStood l H own inside q f = tt

style_no_leaf : (k : Kind) → is_style (edit_shape k).inline ≡ true → is_leaf k ≡ false
style_no_leaf kind.Bold e = refl
style_no_leaf kind.Italic e = refl
style_no_leaf k e = cc

style_holds : (k : Kind) → is_style (edit_shape k).inline ≡ true → (not (is_leaf k) && is_delimited (edit_shape k).items) ≡ true
style_holds kind.Bold e = refl
style_holds kind.Italic e = refl
style_holds k e = cc

flat_whole : (l : Label) (ts : Trees) → is_leaf l.kind ≡ false → flat (tree l ts) ≡ l.opening ++ (flat_of_all ts ++ l.closing)
flat_whole l ts e = whole_by l ts e ∙ append_assoc l.opening (flat_of_all ts) l.closing
  where
    whole_by : (m : Label) (us : Trees) → is_leaf m.kind ≡ false → flat (tree m us) ≡ (m.opening ++ flat_of_all us) ++ m.closing
    whole_by m us z = rw z refl

some_same : (m n : ℕ) → Some m ≡ Some n → m ≡ n
some_same m n e = cc

-- what a place that isn't empty begins with
record BeginsAt (m n c : ℕ) : Type 0 where
  is : m ≡ c
  some : m ≡ n → ⊥

stretch_begins : (m n c : ℕ) (v : Bool) → (m == n) ≡ v → start_of (if v then None else Some (record { start = m; end = n })) ≡ Some c → BeginsAt m n c
stretch_begins m n c true e z = absurd (cc)
stretch_begins m n c false e z = record { is = some_same m c z; some = λ i. absurd (grind (arith, nat_tests, e, i)) }

begins_if : (v : Bool) (m n c : ℕ) → start_of (if v then stretch m n else None) ≡ Some c → BeginsAt m n c
begins_if true m n c z = stretch_begins m n c (m == n) refl z
begins_if false m n c z = absurd (cc)

opening_quote : (o rest : List ℕ) (at c : ℕ) → BeginsQuoted o → BeginsAt at (min (at + length o) (at + length (o ++ rest))) c → QuoteAt c at (o ++ rest)
opening_quote [] rest at c q b = absurd (b.some (omega arith))
opening_quote (x ∷ o) rest at c q b = inl (sym b.is, q)

closing_quote : (xs o : List ℕ) (at c : ℕ) → BeginsQuoted o → BeginsAt (at + length (xs ++ o) - length o) (at + length (xs ++ o)) c → QuoteAt c at (xs ++ o)
closing_quote xs [] at c q b = absurd (b.some (omega arith))
closing_quote xs (x ∷ o) at c q b =
    let sum = length-append xs (x ∷ o) in
    let is = b.is in
    quote_right c at xs (x ∷ o) (inl (omega (arith, sum, is), q))

-- a style, behind so many bytes of its block
own_stands : (block : Tree) (l : Label) (ts : Trees) (at from first : ℕ) (bs : List ℕ) → is_style (edit_shape l.kind).inline ≡ true → IsQuoted l
    → Finds block (found_at at from (tree l ts)) → flat (tree l ts) ≡ l.opening ++ (flat_of_all ts ++ l.closing)
    → ((c : ℕ) → QuoteAt c at (flat (tree l ts)) → QuoteAt c first bs) → StyleIsQuoted first bs (kept_with l.id (kept_nodes block))
own_stands block l ts at from first bs style i f whole put =
    let t : Tree = tree l ts in
    let inner : List ℕ = flat_of_all ts in
    let other : flat t ≡ (l.opening ++ inner) ++ l.closing = whole ∙ sym (append_assoc l.opening inner l.closing) in
    subst (StyleIsQuoted first bs) (sym f) (
      (λ c z.
          let b : BeginsAt at (min (at + length l.opening) (at + length (flat t))) c = begins_if (is_style (edit_shape l.kind).inline) at (min (at + length l.opening) (at + length (flat t))) c z in
          put c (subst (QuoteAt c at) (sym whole)
          (opening_quote l.opening (inner ++ l.closing) at c i.opening (subst (λ (xs : List ℕ). BeginsAt at (min (at + length l.opening) (at + length xs)) c) whole b)))),
      (λ c z.
          let b : BeginsAt (at + length (flat t) - length l.closing) (at + length (flat t)) c =
          begins_if (is_style (edit_shape l.kind).inline) (at + length (flat t) - length l.closing) (at + length (flat t)) c z in
          put c (subst (QuoteAt c at) (sym other)
          (closing_quote (l.opening ++ inner) l.closing at c i.closing (subst (λ (xs : List ℕ). BeginsAt (at + length xs - length l.closing) (at + length xs) c) other b)))),
    )

styles_stand : (us : Trees) (block : Tree) (at from first : ℕ) (bs : List ℕ) → Every (Finds block) (found_in at from us) → HaveQuoted us
    → ((c : ℕ) → QuoteAt c at (flat_of_all us) → QuoteAt c first bs) → AllStandQuoted first bs (known block) us
styles_stand none block at from first bs e q put = tt
styles_stand (more (tree l ts) us) block at from first bs e q put =
    let t : Tree = tree l ts in
    let own : Every (Finds block) (found_from at from t) = every_left (Finds block) (found_from at from t) _ e in
    let here : (c : ℕ) → QuoteAt c at (flat t) → QuoteAt c first bs = λ c z. put c (quote_left c at (flat t) (flat_of_all us) z) in (
      stand_by (edit_shape l.kind).inline l (HaveQuoted ts) (StyleIsQuoted first bs (kept_with l.id (kept_nodes block))) (AllStandQuoted first bs (known block) ts) q.0
          (λ style i h.
          let whole : flat t ≡ l.opening ++ (flat_of_all ts ++ l.closing) = flat_whole l ts (style_no_leaf l.kind style) in (
            own_stands block l ts at from first bs style i (own_found (Finds block) at from l ts i.number own) whole here,
            styles_stand ts block (at + length l.opening) (from + length l.opening) first bs (inside_found (Finds block) at from l ts (style_holds l.kind style) own) h
                (λ c z. here c (subst (QuoteAt c at) (sym whole)
                (quote_right c at l.opening (flat_of_all ts ++ l.closing) (quote_left c (at + length l.opening) (flat_of_all ts) l.closing z)))),
          )),
      styles_stand us block (at + length (flat t)) (from + length (visible (items t))) first bs (every_right (Finds block) (found_from at from t) _ e) q.1
          (λ c z. put c (quote_right c at (flat t) (flat_of_all us) z)),
    )

-- ---- the bytes of its content

nodes_source : (n : ℕ) (before : List Item) (ts : ItemTrees) → flat_of_all (nodes_of n before ts) ≡ sources (held_by_all ts)
nodes_source n before nothing = refl
nodes_source n before (further t ts) =
    ap (λ (bs : List ℕ). bs ++ flat_of_all (nodes_of (n + count (placed before t)) (before ++ tree_items t) ts)) (standing_source n before t)
    ∙ ap (λ (bs : List ℕ). sources (tree_items t) ++ bs) (nodes_source (n + count (placed before t)) (before ++ tree_items t) ts)
    ∙ sym (sources_append (tree_items t) (held_by_all ts))

-- of a block by its lines
lines_stand : (ls : List (List Item)) (block : Tree) (b : IsBlockOfLines ls block) → HaveQuoted (children_of block)
    → AllStandQuoted (0 + length (label block).opening) (sources (held_by_all (forest (children (joined_parts ls))))) (known block) (children_of block)
lines_stand ls block b q =
    let at : ℕ = 0 + length (label block).opening in
    let ts : ItemTrees = forest (children (joined_parts ls)) in
    let t : Tree = standing b.number b.before (block_by b.form b.opening (joined_parts ls) b.closing) in
    let leaf : is_leaf (label block).kind ≡ false =
    ap (λ (u : Tree). is_leaf (label u).kind) b.is ∙ no_leaf b.form b.number b.before b.opening b.closing (joined_parts ls) in
    let found : Every (Finds block) (found_from 0 0 block) =
    subst (λ (u : Tree). Every (Finds u) (found_from 0 0 u)) (sym b.is)
    (all_found t b.number b.some
    (block_counts b.number b.before (block_by b.form b.opening (joined_parts ls) b.closing) b.some (subst HasNoGroup b.is b.ungrouped))) in
    let bytes : flat_of_all (children_of block) ≡ sources (held_by_all ts) =
    ap (λ (u : Tree). flat_of_all (children_of u)) b.is
    ∙ ap flat_of_all (its_children b.form b.number b.before b.opening b.closing (joined_parts ls))
    ∙ nodes_source (b.number + 1) (b.before ++ b.opening) ts in
    styles_stand (children_of block) block at at at (sources (held_by_all ts)) (inside (Finds block) block leaf found) q
    (λ c z. subst (QuoteAt c at) bytes z)

page_stand : (k : TextBlock) (q : List ℕ) (block : Tree) → IsStyledIn k q → IsIn k q block → HaveQuoted (children_of block)
    → AllStandQuoted (begins_at k) (bytes_in (signs_of k q)) (known block) (children_of block)
page_stand k q block h i quoted =
    let ls : List (List Item) = lines_in k q in
    let b : IsBlockOfLines ls block = styled_of_lines k q block h i in
    let at : ℕ = 0 + length (label block).opening in
    let place : at ≡ begins_at k = (let e : length (label block).opening ≡ begins_at k = block_begins k q block i in omega (arith, e)) in
    let bytes : sources (held_by_all (forest (children (joined_parts ls)))) ≡ bytes_in (signs_of k q) =
    ap sources (held_children (joined_parts ls)) ∙ lines_source (begins_at k) ls h.flat in
    subst (λ (bs : List ℕ). AllStandQuoted (begins_at k) bs (known block) (children_of block)) bytes
    (subst (λ (n : ℕ). AllStandQuoted n (sources (held_by_all (forest (children (joined_parts ls))))) (known block) (children_of block)) place
    (lines_stand ls block b quoted))

-- ---- as they are sent

stays_by : (w : InlineForm) (own now A B : Type 0) → (own → now) → (A → B) → OfStyle w own A → OfStyle w now B
stays_by inline.Nothing own now A B f g h = tt
stays_by inline.Characters own now A B f g h = tt
stays_by inline.Bold own now A B f g h = (f h.0, g h.1)
stays_by inline.Italic own now A B f g h = (f h.0, g h.1)
stays_by inline.Shown own now A B f g h = tt
stays_by inline.PageLink own now A B f g h = tt
stays_by inline.ExternalLink own now A B f g h = tt
stays_by inline.Tag own now A B f g h = tt
stays_by inline.Break own now A B f g h = tt
stays_by inline.AsItStood own now A B f g h = tt

-- with the same kind and number
label_stays : (at : ℕ) (bs : List ℕ) (p : Page) (l m : Label) (A B : Type 0) → IsSentAsIs l m → (A → B)
    → OfStyle (edit_shape l.kind).inline (StyleIsQuoted at bs (kept_with l.id p.kept)) A → OfStyle (edit_shape m.kind).inline (StyleIsQuoted at bs (kept_with m.id p.kept)) B
label_stays at bs p l m A B h g s =
    subst (λ (k : Kind). OfStyle (edit_shape k).inline (StyleIsQuoted at bs (kept_with m.id p.kept)) B) (sym h.kind)
    (stays_by (edit_shape l.kind).inline (StyleIsQuoted at bs (kept_with l.id p.kept)) (StyleIsQuoted at bs (kept_with m.id p.kept)) A B
    (λ q. subst (λ (n : ℕ). StyleIsQuoted at bs (kept_with n p.kept)) (sym h.id) q) g s)

mutual
  tree_stays : (at : ℕ) (bs : List ℕ) (p : Page) (t u : Tree) → StandsAsIs t u → HasNoGroup t → StandsQuoted at bs p t → StandsQuoted at bs p u
  tree_stays at bs p (tree l ts) (tree m us) h g s =
      label_stays at bs p l m (AllStandQuoted at bs p ts) (AllStandQuoted at bs p us) h.0
      (λ a. in_group (is_group l.kind) h.1 (λ i x. not_group (is_group l.kind) i g.0 x) (λ i st. all_stay at bs p ts us st g.1 a)) s

  all_stay : (at : ℕ) (bs : List ℕ) (p : Page) (ts us : Trees) → AllStandAsIs ts us → NoneIsGroup ts → AllStandQuoted at bs p ts → AllStandQuoted at bs p us
  all_stay at bs p none none h g s = tt
  all_stay at bs p none (more u us) h g s = absurd h
  all_stay at bs p (more t ts) none h g s = absurd h
  all_stay at bs p (more t ts) (more u us) h g s = (tree_stays at bs p t u h.0 g.0 s.0, all_stay at bs p ts us h.1 g.1 s.1)

-- a new one has no place
new_stands : (at : ℕ) (bs : List ℕ) (ks : List Kept) → StyleIsQuoted at bs (kept_with 0 ks)
unfolding kept_with
new_stands at bs ks = ((λ c z. absurd (cc)), (λ c z. absurd (cc)))

new_by : (w : InlineForm) (own A : Type 0) → own → A → OfStyle w own A
new_by inline.Nothing own A f g = tt
new_by inline.Characters own A f g = tt
new_by inline.Bold own A f g = (f, g)
new_by inline.Italic own A f g = (f, g)
new_by inline.Shown own A f g = tt
new_by inline.PageLink own A f g = tt
new_by inline.ExternalLink own A f g = tt
new_by inline.Tag own A f g = tt
new_by inline.Break own A f g = tt
new_by inline.AsItStood own A f g = tt

text_stays : (at : ℕ) (bs : List ℕ) (p : Page) (x : Label) (text : List ℕ) (us : Trees) → AllStandQuoted at bs p us → AllStandQuoted at bs p (text_node x text us)
text_stays at bs p x [] us h = h
text_stays at bs p x (c ∷ cs) us h = (tt, h)

pieces_stand : (at : ℕ) (bs : List ℕ) (p : Page) (ps : Pieces) → NoneIsGroup (page_pieces ps) → PiecesStay ps → AllStandQuoted at bs p (page_pieces ps)
    → AllStandQuoted at bs p (sent_pieces ps)
pieces_stand at bs p no_pieces g h s = tt
pieces_stand at bs p (gone t ps) g h s = pieces_stand at bs p ps g.1 h s.1
pieces_stand at bs p (written x text ps) g h s = text_stays at bs p x text (sent_pieces ps) (pieces_stand at bs p ps g h s)
pieces_stand at bs p (kept t u ps) g h s = (tree_stays at bs p t u h.0 g.0 s.0, pieces_stand at bs p ps g.1 h.1 s.1)
pieces_stand at bs p (around l m is ps) g h s = (
  label_stays at bs p l m (AllStandQuoted at bs p (page_pieces is)) (AllStandQuoted at bs p (sent_pieces is)) h.1 (λ a. pieces_stand at bs p is g.0.1 h.2 a) s.0,
  pieces_stand at bs p ps g.1 h.3 s.1,
)
pieces_stand at bs p (new_style m is ps) g h s =
    let r = apart_groups (page_pieces is) (page_pieces ps) g in
    let d = apart (λ t. StandsQuoted at bs p t) (λ us. AllStandQuoted at bs p us) tt (λ t us x. x) (λ t us x. x) (page_pieces is) (page_pieces ps) s in (
      new_by (edit_shape m.kind).inline (StyleIsQuoted at bs (kept_with (as_new m).id p.kept)) (AllStandQuoted at bs p (sent_pieces is)) (new_stands at bs p.kept)
          (pieces_stand at bs p is r.0 h.1 d.0),
      pieces_stand at bs p ps r.1 h.2 d.1,
    )

-- ---- the delimiters that are sent

abbrev DelimitsQuoted : ℕ → List ℕ → Thing → Type 0
DelimitsQuoted at bs n = n.role ≡ Toggle → IsQuotedAt at bs n.place

-- whatever follows
abbrev AllDelimit : ℕ → List ℕ → StyledContent → Type 0
AllDelimit at bs t = (after : List ContentSign) → Each (DelimitsQuoted at bs) (things after) → Each (DelimitsQuoted at bs) (things (signs_before t after))

text_delimits : (at : ℕ) (bs cs : List ℕ) (t : StyledContent) → AllDelimit at bs t → AllDelimit at bs (text_then cs t)
text_delimits at bs [] t h = h
text_delimits at bs (c ∷ cs) t h = λ after k. text_delimits at bs cs t h after k

flat_role : (r : Role) → IsFlat r → r ≡ Toggle → ⊥
flat_role r f e = subst IsFlat e f

nowiki_delimits : (at : ℕ) (bs : List ℕ) (t : StyledContent) → AllDelimit at bs t → AllDelimit at bs (or_nowiki t)
nowiki_delimits at bs finished h = λ after k. ((λ e. absurd (flat_role Node tt e)), k)
nowiki_delimits at bs (sign c t) h = h
nowiki_delimits at bs (styled kind opening closing inside t) h = h

found_delimits : (at : ℕ) (bs : List ℕ) (o : Option Kept) (t : StyledContent) → KeptIsFlat o → AllDelimit at bs t → AllDelimit at bs (found_then o t)
found_delimits at bs None t f h = h
found_delimits at bs (Some k) t f h = λ after j. ((λ e. absurd (flat_role k.role f e)), h after j)

style_delimits : (at : ℕ) (bs : List ℕ) (kind : Bool) (o : Option Kept) (held t : StyledContent) → StyleIsQuoted at bs o → AllDelimit at bs held → AllDelimit at bs t
    → AllDelimit at bs (styled kind (opening_place o) (closing_place o) (or_nowiki held) t)
style_delimits at bs kind o held t q h k = λ after j.
    ((λ e. q.0), nowiki_delimits at bs held h (delimiter kind (closing_place o) ∷ signs_before t after) ((λ e. q.1), k after j))

one_delimits : (w : InlineForm) (at : ℕ) (bs : List ℕ) (p : Page) (l : Label) (held t : StyledContent) (A : Type 0) → KeptIsFlat (kept_with l.id p.kept)
    → OfStyle w (StyleIsQuoted at bs (kept_with l.id p.kept)) A → (A → AllDelimit at bs held) → AllDelimit at bs t
    → AllDelimit at bs (sent_by w (kept_with l.id p.kept) l held t)
one_delimits inline.Nothing at bs p l held t A f s g k = k
one_delimits inline.Characters at bs p l held t A f s g k = text_delimits at bs (chars l.shown) t k
one_delimits inline.Bold at bs p l held t A f s g k = style_delimits at bs true (kept_with l.id p.kept) held t s.0 (g s.1) k
one_delimits inline.Italic at bs p l held t A f s g k = style_delimits at bs false (kept_with l.id p.kept) held t s.0 (g s.1) k
one_delimits inline.Shown at bs p l held t A f s g k = found_delimits at bs (kept_with l.id p.kept) t f k
one_delimits inline.PageLink at bs p l held t A f s g k = found_delimits at bs (kept_with l.id p.kept) t f k
one_delimits inline.ExternalLink at bs p l held t A f s g k = found_delimits at bs (kept_with l.id p.kept) t f k
one_delimits inline.Tag at bs p l held t A f s g k = found_delimits at bs (kept_with l.id p.kept) t f k
one_delimits inline.Break at bs p l held t A f s g k = found_delimits at bs (kept_with l.id p.kept) t f k
one_delimits inline.AsItStood at bs p l held t A f s g k = found_delimits at bs (kept_with l.id p.kept) t f k

mutual
  tree_delimits : (at : ℕ) (bs : List ℕ) (p : Page) (t : Tree) (c : StyledContent) → HasNoDelimiter p → StandsQuoted at bs p t → AllDelimit at bs c
      → AllDelimit at bs (sent_before p t c)
  tree_delimits at bs p (tree l ts) c f s k =
      one_delimits (edit_shape l.kind).inline at bs p l (sent_content p ts) c (AllStandQuoted at bs p ts) (f l.id) s (λ a. all_delimit at bs p ts f a) k

  all_delimit : (at : ℕ) (bs : List ℕ) (p : Page) (us : Trees) → HasNoDelimiter p → AllStandQuoted at bs p us → AllDelimit at bs (sent_content p us)
  all_delimit at bs p none f s = λ after k. k
  all_delimit at bs p (more t us) f s = tree_delimits at bs p t (sent_content p us) f s.0 (all_delimit at bs p us f s.1)

-- ---- URLs and delimiters side by side

put_ends : (at : ℕ) (bs : List ℕ) (t : Thing) → IsPut t → EndsIn at bs t
put_ends at bs t p = elim p [
  | inl m ↦ (λ c q e. subst (λ (r : Role). EndsUnquoted r (own_glyphs t)) (sym m.1) tt)
  | inr w ↦ (λ c q e. subst (λ (r : Role). EndsUnquoted r (own_glyphs t)) (sym w.0) tt)
]

reached_at : (o s : Option ℕ) → is_reached o s ≡ true → (c : ℕ) × (o ≡ Some c) × (s ≡ Some c)
reached_at None s z = absurd (cc)
reached_at (Some m) None z = absurd (cc)
reached_at (Some m) (Some n) z = let is : n ≡ m = grind (arith, nat_tests, z) in (m, refl, ap (λ (i : ℕ). Some i) is)

all_apart : (at : ℕ) (bs : List ℕ) (ts : List Thing) → Each (EndsIn at bs) ts → Each (DelimitsQuoted at bs) ts → AreUrlsApart ts
all_apart at bs [] u d = tt
all_apart at bs (t ∷ []) u d = tt
all_apart at bs (t ∷ n ∷ ts) u d = (
  (λ e z. let r = reached_at (end_of t.place) (start_of n.place) z in u.0 r.0 (d.1.0 e r.0 r.2) r.1),
  all_apart at bs (n ∷ ts) u.1 d.1,
)

pub urls_apart : (k : TextBlock) (q : List ℕ) (block : Tree) (ps : Pieces) → IsStyledIn k q → IsIn k q block → HaveQuoted (children_of block)
    → page_pieces ps ≡ children_of block → NoneIsGroup (page_pieces ps) → PiecesStay ps → HasNoDelimiter (known block)
    → AreSomeAndPut (things (signs_in (sent_content (known block) (sent_pieces ps)))) (things (signs_of k q))
    → AreUrlsApart (things (signs_in (sent_content (known block) (sent_pieces ps))))
urls_apart k q block ps h i quoted old free stay f some =
    let p : Page = known block in
    let at : ℕ = begins_at k in
    let ls : List (List Item) = lines_in k q in
    let bs : List ℕ = bytes_in (signs_of k q) in
    let ts : List Thing = things (signs_in (sent_content p (sent_pieces ps))) in
    let stand : AllStandQuoted at bs p (sent_pieces ps) =
    pieces_stand at bs p ps free stay (subst (AllStandQuoted at bs p) (sym old) (page_stand k q block h i quoted)) in
    let page : Each (EndsIn at bs) (things (signs_of k q)) = urls_unquoted false at (signs_of k q) (lines_stood at ls h.flat) (lines_at at ls h.flat) in
    all_apart at bs ts (each_some (EndsIn at bs) (put_ends at bs) ts (things (signs_of k q)) some page) (all_delimit at bs p (sent_pieces ps) f stand [] tt)
