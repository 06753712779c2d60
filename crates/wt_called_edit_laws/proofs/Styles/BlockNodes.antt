-- A block of the page by the nodes of its tree: it is in pieces, and beside its calls, in bold and italic, too, texts may be typed.
use Rattle.std.proofs.Common.{◌≡◌, inl, inr, ℕ, Bool, true, false, Option, List, [], ◌∷◌, ◌++◌, append-nil, append_assoc, ap, ap₂, refl, subst, sym, ◌∙◌}
use Rattle.std.specs.Prelude.{◌||◌, if◌then◌else◌}
use Rattle.std.proofs.lemmas.List.{append_cancel_left, append_cancel_right}
use Rattle.wt_tree.specs.EditShapes.{edit_shape}
use Rattle.wt_tree.specs.Kinds.{is_leaf}
use Rattle.wt_tree.specs.Source.{flat, flat_of_all}
use Rattle.wt_tree.specs.Tiling.{is_group}
use Rattle.wt_tree.specs.Tree.{Label, Tree, Trees, more, none, tree}
use Rattle.wt_tree.specs.declared.edit_shape.InlineForm.{InlineForm}
use Rattle.wt_tree.specs.declared.edit_shape.InlineForm.TheVariants as inline
use Rattle.wt_tree.specs.declared.kind.Kind.{Kind}
use Rattle.wt_tree.specs.declared.kind.Kind.TheVariants as kind
use Rattle.wt_span.specs.Items.{Item, sources}
use Rattle.wt_guards.specs.Content.{Thing}
use Rattle.wt_original.specs.Kept.{Kept, kept_nodes}
use Rattle.wt_original.specs.Numbers.{counts_up}
use Rattle.wt_difference.specs.Insides.{is_block_part}
use Rattle.wt_isolation.specs.OpenTags.{any_ends_open, ends_open, node_ends_open, open_by}
use Rattle.wt_annotated.specs.CutTexts.{cut_texts}
use Rattle.wt_context.specs.Line.{line_parts}
use Rattle.wt_link_spelling.specs.Spelling.{children_of}
use Rattle.wt_expand.specs.PageCalls.{expanded_page}
use Rattle.wt_expand.specs.Work.{Pages}
use Rattle.wt_part_laws.specs.Expanded.{part_items}
use Rattle.wt_part_laws.specs.HeldCalls.{block_in}
use Rattle.wt_text_edit_laws.proofs.Blocks.BlockLeaves.{close_items, open_items}
use Rattle.wt_text_edit_laws.proofs.Blocks.TypedFacts.{framed}
use Rattle.wt_text_edit_laws.specs.TextBlocks.{TextBlock, source_of}
use Rattle.wt_beside_laws.proofs.Styled.BlockNodes.{with_append}
use Rattle.wt_beside_laws.proofs.Styled.SentNests.{IsStyleForm}
use Rattle.wt_beside_laws.specs.SentPieces.{IsNodeForm}
use Rattle.wt_beside_laws.specs.Shown.{parts_shown_at}
use Rattle.wt_beside_laws.specs.StyledBlocks.{all_numbers, found_thing, numbers_by, numbers_of, things_with}
use Rattle.wt_called_edit_laws.proofs.Beside.Counts.{block_bare, settled_counts}
use Rattle.wt_called_edit_laws.proofs.Beside.Making.{IsSettledIn, block_closing, block_kind, block_opening, no_leaf}
use Rattle.wt_called_edit_laws.proofs.Styles.Found.{AreFound, FoundBy, IsFound, nodes_found}
use Rattle.wt_called_edit_laws.proofs.Styles.NodeThings.{AreShutThings, calls_none, own_things_by, page_things_by, part_alone}
use Rattle.wt_called_edit_laws.proofs.Written.Joined.{calm_written}
use Rattle.wt_called_edit_laws.specs.BlockNodes.{AreBlockNodes, ArePiecesMet, IsBlockNode, IsNodeBy, IsOfNodes, IsUnbraced, ShowsAlone, all_node_pieces, node_pieces, pieces_by}
use Rattle.wt_called_edit_laws.specs.CalledContents.{tree_round}
use Rattle.wt_called_edit_laws.specs.CalledEdits.{FitsRound, IsChildBeside, page_things}
use Rattle.wt_called_edit_laws.specs.FoundGroups.{IsFoundAs}
use Rattle.wt_called_edit_laws.specs.InPieces.{AreInPieces, pieces_source}
use Rattle.wt_called_edit_laws.specs.PageThings.{ArePageThings, thing_sources}
use Rattle.wt_called_edit_laws.specs.StyledCallEdits.{AreNodesBeside, HaveNumbers, IsBesideBy, IsBesideStyles, IsNodeBeside}
use Rattle.wt_called_edit_laws.specs.Written.{IsOwnPart}
use Rattle.wt_called_edit_laws.specs.WrittenAnew.{StayButForOthers}

-- ---- kinds

abbrev IsTextForm : InlineForm → Type 0
IsTextForm inline.Nothing = Unit {0}
IsTextForm inline.Characters = Unit {0}
IsTextForm inline.Bold = ⊥
IsTextForm inline.Italic = ⊥
IsTextForm inline.Shown = ⊥
IsTextForm inline.PageLink = ⊥
IsTextForm inline.ExternalLink = ⊥
IsTextForm inline.Tag = ⊥
IsTextForm inline.Break = ⊥
IsTextForm inline.AsItStood = ⊥

text_part : (k : Kind) → IsTextForm (edit_shape k).inline → is_block_part k ≡ false
text_part kind.Sep s = refl
text_part kind.Text s = refl
text_part k s = absurd s

style_leaf : (k : Kind) → IsStyleForm (edit_shape k).inline → is_leaf k ≡ false
style_leaf kind.Bold s = refl
style_leaf kind.Italic s = refl
style_leaf k s = absurd s

group_part : (k : Kind) → is_group k ≡ true → is_block_part k ≡ false
group_part kind.Group e = refl
group_part k e = absurd (cc)

-- ---- its pieces are its source

pieces_both : (bs cs : List (List ℕ)) → pieces_source (bs ++ cs) ≡ pieces_source bs ++ pieces_source cs
pieces_both [] cs = refl
pieces_both (b ∷ bs) cs =
    ap (λ (q : List ℕ). b ++ q) (pieces_both bs cs) ∙ sym (append_assoc b (pieces_source bs) (pieces_source cs))

style_flat : (l : Label) (ts : Trees) (bs : List (List ℕ)) → is_leaf l.kind ≡ false → pieces_source bs ≡ flat_of_all ts
    → pieces_source (l.opening ∷ (bs ++ (l.closing ∷ []))) ≡ flat (tree l ts)
style_flat l ts bs leaf e =
    ap (λ (q : List ℕ). l.opening ++ q)
    (pieces_both bs (l.closing ∷ []) ∙ ap₂ (λ (x y : List ℕ). x ++ y) e (append-nil l.closing))
    ∙ sym (append_assoc l.opening (flat_of_all ts) l.closing)
    ∙ sym (ap (λ (v : Bool). if v then l.own else ((l.opening ++ flat_of_all ts) ++ l.closing)) leaf)

one_flat : (w : InlineForm) (l : Label) (ts : Trees) (bs : List (List ℕ)) → (edit_shape l.kind).inline ≡ w → pieces_source bs ≡ flat_of_all ts
    → pieces_source (pieces_by w l (flat (tree l ts)) bs) ≡ flat (tree l ts)
one_flat inline.Nothing l ts bs e h = append-nil (flat (tree l ts))
one_flat inline.Characters l ts bs e h = append-nil (flat (tree l ts))
one_flat inline.Bold l ts bs e h = style_flat l ts bs (style_leaf l.kind (subst IsStyleForm (sym e) tt)) h
one_flat inline.Italic l ts bs e h = style_flat l ts bs (style_leaf l.kind (subst IsStyleForm (sym e) tt)) h
one_flat inline.Shown l ts bs e h = append-nil (flat (tree l ts))
one_flat inline.PageLink l ts bs e h = append-nil (flat (tree l ts))
one_flat inline.ExternalLink l ts bs e h = append-nil (flat (tree l ts))
one_flat inline.Tag l ts bs e h = append-nil (flat (tree l ts))
one_flat inline.Break l ts bs e h = append-nil (flat (tree l ts))
one_flat inline.AsItStood l ts bs e h = append-nil (flat (tree l ts))

mutual
  tree_flat : (t : Tree) → pieces_source (node_pieces t) ≡ flat t
  tree_flat (tree l ts) = one_flat (edit_shape l.kind).inline l ts (all_node_pieces ts) refl (trees_flat ts)

  trees_flat : (ts : Trees) → pieces_source (all_node_pieces ts) ≡ flat_of_all ts
  trees_flat none = refl
  trees_flat (more t ts) = pieces_both (node_pieces t) (all_node_pieces ts) ∙ ap₂ (λ (x y : List ℕ). x ++ y) (tree_flat t) (trees_flat ts)

-- ---- its content is what its nodes are made of

content_is : (pages : Pages) (k : TextBlock) (q : List ℕ) (block : Tree) → IsSettledIn pages k q block → source_of k q ≡ flat block
    → q ≡ flat_of_all (children_of block)
content_is pages k q (tree l ts) i e =
    let front : List ℕ = sources (open_items k) in
    let behind : List ℕ = sources (close_items k) in
    let leaf : is_leaf l.kind ≡ false = ap is_leaf (block_kind pages k q (tree l ts) i) ∙ no_leaf k in
    let is : flat (tree l ts) ≡ l.opening ++ (flat_of_all ts ++ l.closing) =
    ap (λ (v : Bool). if v then l.own else ((l.opening ++ flat_of_all ts) ++ l.closing)) leaf ∙ append_assoc l.opening (flat_of_all ts) l.closing in
    let both : front ++ (q ++ behind) ≡ front ++ (flat_of_all ts ++ behind) =
    framed k q ∙ e ∙ is
    ∙ ap₂ (λ (x y : List ℕ). x ++ (flat_of_all ts ++ y)) (block_opening pages k q (tree l ts) i) (block_closing pages k q (tree l ts) i) in
    append_cancel_right q (flat_of_all ts) behind (append_cancel_left front (q ++ behind) (flat_of_all ts ++ behind) both)

-- ---- no node ends in an open tag

or_both : (u v : Bool) → (u || v) ≡ false → (u ≡ false) × (v ≡ false)
or_both true v e = let no : true ≡ false = e in absurd (cc)
or_both false v e = (refl, e)

shut_both : (xs ys : List Thing) → AreShutThings xs → AreShutThings ys → AreShutThings (xs ++ ys)
shut_both [] ys h k = k
shut_both (x ∷ xs) ys h k = (h.0, shut_both xs ys h.1 k)

found_shut : (ks : List Kept) (l : Label) (ts : Trees) → ends_open (flat (tree l ts)) ≡ false → IsFoundAs ks l ts → AreShutThings (things_with ks (l.id ∷ []))
found_shut ks l ts e f =
    subst (λ (o : Option Kept). AreShutThings (found_thing o ++ [])) (sym f.found) (ap (λ (t : Tree). ends_open (flat t)) f.node ∙ e, tt)

one_shut : (w : InlineForm) (ks : List Kept) (l : Label) (ts : Trees) (ns : List ℕ) (F : Type 0)
    → open_by w (flat (tree l ts)) (any_ends_open ts) ≡ false → FoundBy w ks l ts F
    → (any_ends_open ts ≡ false → F → AreShutThings (things_with ks ns)) → AreShutThings (things_with ks (numbers_by w l.id ns))
one_shut inline.Nothing ks l ts ns F e f k = tt
one_shut inline.Characters ks l ts ns F e f k = tt
one_shut inline.Bold ks l ts ns F e f k = k e f.1
one_shut inline.Italic ks l ts ns F e f k = k e f.1
one_shut inline.Shown ks l ts ns F e f k = found_shut ks l ts e f
one_shut inline.PageLink ks l ts ns F e f k = found_shut ks l ts e f
one_shut inline.ExternalLink ks l ts ns F e f k = found_shut ks l ts e f
one_shut inline.Tag ks l ts ns F e f k = found_shut ks l ts e f
one_shut inline.Break ks l ts ns F e f k = found_shut ks l ts e f
one_shut inline.AsItStood ks l ts ns F e f k = found_shut ks l ts e f

mutual
  tree_shut : (ks : List Kept) (t : Tree) → node_ends_open t ≡ false → IsFound ks t → AreShutThings (things_with ks (numbers_of t))
  tree_shut ks (tree l ts) e f =
      one_shut (edit_shape l.kind).inline ks l ts (all_numbers ts) (AreFound ks ts) e f (λ a c. trees_shut ks ts a c)

  trees_shut : (ks : List Kept) (ts : Trees) → any_ends_open ts ≡ false → AreFound ks ts → AreShutThings (things_with ks (all_numbers ts))
  trees_shut ks none e f = tt
  trees_shut ks (more t ts) e f =
      let r = or_both (node_ends_open t) (any_ends_open ts) e in
      subst AreShutThings (sym (with_append ks (numbers_of t) (all_numbers ts)))
      (shut_both (things_with ks (numbers_of t)) (things_with ks (all_numbers ts)) (tree_shut ks t r.0 f.0) (trees_shut ks ts r.1 f.1))

-- ---- its nodes are among its pieces, and what else is one calls nothing

stay_past : (pages : Pages) (b : List ℕ) (bs ds : List (List ℕ)) → (expanded_page pages b).outer ≡ [] → StayButForOthers pages bs ds
    → StayButForOthers pages (b ∷ bs) ds
stay_past pages b bs [] e h = (e, h)
stay_past pages b bs (d ∷ ds) e h = inr (e, h)

stay_join : (pages : Pages) (bs ds cs es : List (List ℕ)) → StayButForOthers pages bs ds → StayButForOthers pages cs es
    → StayButForOthers pages (bs ++ cs) (ds ++ es)
stay_join pages [] [] cs es h k = k
stay_join pages [] (d ∷ ds) cs es h k = absurd h
stay_join pages (b ∷ bs) [] cs es h k = stay_past pages b (bs ++ cs) es h.0 (stay_join pages bs [] cs es h.1 k)
stay_join pages (b ∷ bs) (d ∷ ds) cs es (inl h) k = inl (h.0, stay_join pages bs ds cs es h.1 k)
stay_join pages (b ∷ bs) (d ∷ ds) cs es (inr h) k = inr (h.0, stay_join pages bs (d ∷ ds) cs es h.1 k)

stay_last : (pages : Pages) (bs ds : List (List ℕ)) (c : List ℕ) → (expanded_page pages c).outer ≡ [] → StayButForOthers pages bs ds
    → StayButForOthers pages (bs ++ (c ∷ [])) ds
stay_last pages [] [] c e h = (e, tt)
stay_last pages [] (d ∷ ds) c e h = absurd h
stay_last pages (b ∷ bs) [] c e h = (h.0, stay_last pages bs [] c e h.1)
stay_last pages (b ∷ bs) (d ∷ ds) c e (inl h) = inl (h.0, stay_last pages bs ds c e h.1)
stay_last pages (b ∷ bs) (d ∷ ds) c e (inr h) = inr (h.0, stay_last pages bs (d ∷ ds) c e h.1)

sources_both : (xs ys : List Thing) → thing_sources (xs ++ ys) ≡ thing_sources xs ++ thing_sources ys
sources_both [] ys = refl
sources_both (x ∷ xs) ys = ap (λ (bs : List (List ℕ)). x.source ∷ bs) (sources_both xs ys)

found_among : (pages : Pages) (ks : List Kept) (l : Label) (ts : Trees) → IsFoundAs ks l ts
    → StayButForOthers pages (flat (tree l ts) ∷ []) (thing_sources (things_with ks (l.id ∷ [])))
found_among pages ks l ts f =
    subst (λ (o : Option Kept). StayButForOthers pages (flat (tree l ts) ∷ []) (thing_sources (found_thing o ++ []))) (sym f.found)
    (inl (sym (ap flat f.node), tt))

style_among : (pages : Pages) (l : Label) (bs ds : List (List ℕ)) → IsUnbraced l.opening → IsUnbraced l.closing → StayButForOthers pages bs ds
    → StayButForOthers pages (l.opening ∷ (bs ++ (l.closing ∷ []))) ds
style_among pages l bs ds o c h =
    stay_past pages l.opening (bs ++ (l.closing ∷ [])) ds (calls_none pages l.opening o) (stay_last pages bs ds l.closing (calls_none pages l.closing c) h)

one_among : (w : InlineForm) (pages : Pages) (ks : List Kept) (l : Label) (ts : Trees) (bs : List (List ℕ)) (ns : List ℕ) (I F : Type 0)
    → IsNodeBy w pages l ts I → FoundBy w ks l ts F → (I → F → StayButForOthers pages bs (thing_sources (things_with ks ns)))
    → StayButForOthers pages (pieces_by w l (flat (tree l ts)) bs) (thing_sources (things_with ks (numbers_by w l.id ns)))
one_among inline.Nothing pages ks l ts bs ns I F h f k = (calls_none pages (flat (tree l ts)) h, tt)
one_among inline.Characters pages ks l ts bs ns I F h f k = (calls_none pages (flat (tree l ts)) h.1, tt)
one_among inline.Bold pages ks l ts bs ns I F h f k = style_among pages l bs (thing_sources (things_with ks ns)) h.2 h.4 (k h.3 f.1)
one_among inline.Italic pages ks l ts bs ns I F h f k = style_among pages l bs (thing_sources (things_with ks ns)) h.2 h.4 (k h.3 f.1)
one_among inline.Shown pages ks l ts bs ns I F h f k = found_among pages ks l ts f
one_among inline.PageLink pages ks l ts bs ns I F h f k = found_among pages ks l ts f
one_among inline.ExternalLink pages ks l ts bs ns I F h f k = found_among pages ks l ts f
one_among inline.Tag pages ks l ts bs ns I F h f k = found_among pages ks l ts f
one_among inline.Break pages ks l ts bs ns I F h f k = found_among pages ks l ts f
one_among inline.AsItStood pages ks l ts bs ns I F h f k = found_among pages ks l ts f

mutual
  tree_among : (pages : Pages) (ks : List Kept) (t : Tree) → IsBlockNode pages t → IsFound ks t
      → StayButForOthers pages (node_pieces t) (thing_sources (things_with ks (numbers_of t)))
  tree_among pages ks (tree l ts) h f =
      one_among (edit_shape l.kind).inline pages ks l ts (all_node_pieces ts) (all_numbers ts) (AreBlockNodes pages ts) (AreFound ks ts) h f
      (λ a c. trees_among pages ks ts a c)

  trees_among : (pages : Pages) (ks : List Kept) (ts : Trees) → AreBlockNodes pages ts → AreFound ks ts
      → StayButForOthers pages (all_node_pieces ts) (thing_sources (things_with ks (all_numbers ts)))
  trees_among pages ks none h f = tt
  trees_among pages ks (more t ts) h f =
      let xs : List Thing = things_with ks (numbers_of t) in
      let ys : List Thing = things_with ks (all_numbers ts) in
      subst (λ (us : List Thing). StayButForOthers pages (node_pieces t ++ all_node_pieces ts) (thing_sources us)) (sym (with_append ks (numbers_of t) (all_numbers ts)))
      (subst (StayButForOthers pages (node_pieces t ++ all_node_pieces ts)) (sym (sources_both xs ys))
      (stay_join pages (node_pieces t) (thing_sources xs) (all_node_pieces ts) (thing_sources ys) (tree_among pages ks t h.0 f.0) (trees_among pages ks ts h.1 f.1)))

-- ---- each piece is a part by itself

abbrev AreAlone : Pages → List (List ℕ) → Type 0
AreAlone pages [] = Unit {0}
AreAlone pages (b ∷ bs) = IsOwnPart pages b × AreAlone pages bs

alone_both : (pages : Pages) (bs cs : List (List ℕ)) → AreAlone pages bs → AreAlone pages cs → AreAlone pages (bs ++ cs)
alone_both pages [] cs h k = k
alone_both pages (b ∷ bs) cs h k = (h.0, alone_both pages bs cs h.1 k)

abbrev AreThingsAlone : Pages → List Thing → Type 0
AreThingsAlone pages [] = Unit {0}
AreThingsAlone pages (t ∷ ts) = IsOwnPart pages t.source × AreThingsAlone pages ts

things_alone : (pages : Pages) (ts : List Thing) → ArePageThings pages ts → AreThingsAlone pages ts
things_alone pages [] h = tt
things_alone pages (t ∷ ts) h = (h.0.part, things_alone pages ts h.2)

alone_cut : (pages : Pages) (xs ys : List Thing) → AreThingsAlone pages (xs ++ ys) → AreThingsAlone pages xs × AreThingsAlone pages ys
alone_cut pages [] ys h = (tt, h)
alone_cut pages (x ∷ xs) ys h = let r = alone_cut pages xs ys h.1 in ((h.0, r.0), r.1)

found_alone : (pages : Pages) (ks : List Kept) (l : Label) (ts : Trees) → IsFoundAs ks l ts → AreThingsAlone pages (things_with ks (l.id ∷ []))
    → AreAlone pages (flat (tree l ts) ∷ [])
found_alone pages ks l ts f h =
    let own = subst (λ (o : Option Kept). AreThingsAlone pages (found_thing o ++ [])) f.found h in
    (subst (IsOwnPart pages) (ap flat f.node) own.0, tt)

style_alone : (pages : Pages) (l : Label) (bs : List (List ℕ)) → IsUnbraced l.opening → IsUnbraced l.closing → AreAlone pages bs
    → AreAlone pages (l.opening ∷ (bs ++ (l.closing ∷ [])))
style_alone pages l bs o c h = (part_alone pages l.opening o, alone_both pages bs (l.closing ∷ []) h (part_alone pages l.closing c, tt))

one_alone : (w : InlineForm) (pages : Pages) (ks : List Kept) (l : Label) (ts : Trees) (bs : List (List ℕ)) (ns : List ℕ) (I F : Type 0)
    → IsNodeBy w pages l ts I → FoundBy w ks l ts F → AreThingsAlone pages (things_with ks (numbers_by w l.id ns))
    → (I → F → AreThingsAlone pages (things_with ks ns) → AreAlone pages bs) → AreAlone pages (pieces_by w l (flat (tree l ts)) bs)
one_alone inline.Nothing pages ks l ts bs ns I F h f p k = (part_alone pages (flat (tree l ts)) h, tt)
one_alone inline.Characters pages ks l ts bs ns I F h f p k = (part_alone pages (flat (tree l ts)) h.1, tt)
one_alone inline.Bold pages ks l ts bs ns I F h f p k = style_alone pages l bs h.2 h.4 (k h.3 f.1 p)
one_alone inline.Italic pages ks l ts bs ns I F h f p k = style_alone pages l bs h.2 h.4 (k h.3 f.1 p)
one_alone inline.Shown pages ks l ts bs ns I F h f p k = found_alone pages ks l ts f p
one_alone inline.PageLink pages ks l ts bs ns I F h f p k = found_alone pages ks l ts f p
one_alone inline.ExternalLink pages ks l ts bs ns I F h f p k = found_alone pages ks l ts f p
one_alone inline.Tag pages ks l ts bs ns I F h f p k = found_alone pages ks l ts f p
one_alone inline.Break pages ks l ts bs ns I F h f p k = found_alone pages ks l ts f p
one_alone inline.AsItStood pages ks l ts bs ns I F h f p k = found_alone pages ks l ts f p

mutual
  tree_alone : (pages : Pages) (ks : List Kept) (t : Tree) → IsBlockNode pages t → IsFound ks t → AreThingsAlone pages (things_with ks (numbers_of t))
      → AreAlone pages (node_pieces t)
  tree_alone pages ks (tree l ts) h f p =
      one_alone (edit_shape l.kind).inline pages ks l ts (all_node_pieces ts) (all_numbers ts) (AreBlockNodes pages ts) (AreFound ks ts) h f p
      (λ a c d. trees_alone pages ks ts a c d)

  trees_alone : (pages : Pages) (ks : List Kept) (ts : Trees) → AreBlockNodes pages ts → AreFound ks ts → AreThingsAlone pages (things_with ks (all_numbers ts))
      → AreAlone pages (all_node_pieces ts)
  trees_alone pages ks none h f p = tt
  trees_alone pages ks (more t ts) h f p =
      let r = alone_cut pages (things_with ks (numbers_of t)) (things_with ks (all_numbers ts))
      (subst (AreThingsAlone pages) (with_append ks (numbers_of t) (all_numbers ts)) p) in
      alone_both pages (node_pieces t) (all_node_pieces ts) (tree_alone pages ks t h.0 f.0 r.0) (trees_alone pages ks ts h.1 f.1 r.1)

in_pieces : (pages : Pages) (bs : List (List ℕ)) → AreAlone pages bs → ArePiecesMet bs → AreInPieces pages bs
in_pieces pages [] h m = tt
in_pieces pages (b ∷ bs) h m = (h.0, m.0, in_pieces pages bs h.1 m.1)

-- ---- each node is such as texts are typed beside

text_beside : (pages : Pages) (l : Label) (ts : Trees) (w : InlineForm) → (edit_shape l.kind).inline ≡ w → IsTextForm w → (IsNodeForm w → ⊥)
    → IsChildBeside pages (tree l ts)
text_beside pages l ts w e t n = record {
  inline = text_part l.kind (subst IsTextForm (sym e) t);
  shows = λ f. absurd (n (subst IsNodeForm e f));
}

node_beside : (pages : Pages) (l : Label) (ts : Trees) → ShowsAlone pages l ts → IsChildBeside pages (tree l ts)
node_beside pages l ts (inl g) = record { inline = group_part l.kind g.0; shows = λ n. g.1 }
node_beside pages l ts (inr o) =
    let w = calm_written pages (flat (tree l ts)) o.unbraced in
    record {
      inline = o.inline;
      shows = λ n i rest. ap (λ (xs : List Item). parts_shown_at 0 [] (line_parts xs) rest) (w.items_are i) ∙ o.shows rest;
    }

one_beside : (w : InlineForm) (pages : Pages) (l : Label) (ts : Trees) (I B : Type 0) → (edit_shape l.kind).inline ≡ w → IsNodeBy w pages l ts I → (I → B)
    → IsBesideBy w pages l ts B
one_beside inline.Nothing pages l ts I B e h k = text_beside pages l ts inline.Nothing e tt (λ n. n)
one_beside inline.Characters pages l ts I B e h k = (h.0, text_beside pages l ts inline.Characters e tt (λ n. n))
one_beside inline.Bold pages l ts I B e h k = (h.0, h.1, k h.3)
one_beside inline.Italic pages l ts I B e h k = (h.0, h.1, k h.3)
one_beside inline.Shown pages l ts I B e h k = node_beside pages l ts h
one_beside inline.PageLink pages l ts I B e h k = node_beside pages l ts h
one_beside inline.ExternalLink pages l ts I B e h k = node_beside pages l ts h
one_beside inline.Tag pages l ts I B e h k = node_beside pages l ts h
one_beside inline.Break pages l ts I B e h k = node_beside pages l ts h
one_beside inline.AsItStood pages l ts I B e h k = node_beside pages l ts h

mutual
  tree_beside : (pages : Pages) (t : Tree) → IsBlockNode pages t → IsNodeBeside pages t
  tree_beside pages (tree l ts) h =
      one_beside (edit_shape l.kind).inline pages l ts (AreBlockNodes pages ts) (AreNodesBeside pages ts) refl h (λ a. trees_beside pages ts a)

  trees_beside : (pages : Pages) (ts : Trees) → AreBlockNodes pages ts → AreNodesBeside pages ts
  trees_beside pages none h = tt
  trees_beside pages (more t ts) h = (tree_beside pages t h.0, trees_beside pages ts h.1)

-- ---- the block

pub nodes_beside : (pages : Pages) (k : TextBlock) (q : List ℕ) (block : Tree) → IsSettledIn pages k q block → source_of k q ≡ flat block
    → HaveNumbers (children_of block) → any_ends_open (children_of block) ≡ false → IsOfNodes pages block → FitsRound pages k q (page_things block)
    → IsBesideStyles pages k q block
nodes_beside pages k q block i source numbers shut h round =
    let ts : Trees = children_of block in
    let ks : List Kept = kept_nodes block in
    let v : Tree = cut_texts (block_in i.calls (tree_round k (part_items pages i.before q))) in
    let counts : counts_up i.number ks ≡ true =
    subst (λ (t : Tree). counts_up i.number (kept_nodes t) ≡ true) (sym i.is)
    (settled_counts i.number i.at v i.some (block_bare i.calls (tree_round k (part_items pages i.before q)))) in
    let found : AreFound ks ts = nodes_found block i.number i.some counts (ap is_leaf (block_kind pages k q block i) ∙ no_leaf k) numbers in
    let closed : AreShutThings (page_things block) = trees_shut ks ts shut found in
    let things : ArePageThings pages (page_things block) = page_things_by pages (page_things block) h.things closed h.meet in
    record {
      pieces = all_node_pieces ts;
      is = trees_flat ts ∙ sym (content_is pages k q block i source);
      parts = in_pieces pages (all_node_pieces ts) (trees_alone pages ks ts h.nodes found (things_alone pages (page_things block) things)) h.met;
      numbers = numbers;
      children = trees_beside pages ts h.nodes;
      nest = h.nest;
      things = things;
      own = own_things_by pages (page_things block) h.things closed;
      among = trees_among pages ks ts h.nodes found;
      round = round;
    }
