-- A page that calls nothing is read part by part at each paragraph of its body that isn't tangled.
use Rattle.std.proofs.Common.{◌≡◌, inl, ℕ, List, [], ◌∷◌, ◌++◌, refl, sym, ap, ◌∙◌, subst}
use Rattle.std.specs.Str.{IsUtf8}
use Rattle.std.proofs.lemmas.Grind.{flat_map-append}
use Rattle.wt_span.specs.Items.{Item, source, sources}
use Rattle.wt_expand.specs.PageItems.{page_items}
use Rattle.wt_expand.proofs.PageLaws.{page_sources}
use Rattle.wt_inline.specs.ItemTree.{ItemTree}
use Rattle.wt_lines.specs.Lines.{lines}
use Rattle.wt_page.specs.Body.{meaning}
use Rattle.wt_page.specs.Rows.{Row}
use Rattle.wt_text_edit_laws.specs.BlockSpots.{AreRead}
use Rattle.wt_text_edit_laws.specs.BodyParagraphs.{IsParagraphAt, spot_at, IsFreeParagraph}
use Rattle.wt_text_edit_laws.specs.Contents.{IsContent}
use Rattle.wt_text_edit_laws.specs.NoCalls.{CallsNothing}
use Rattle.wt_text_edit_laws.specs.PageCuts.{EndsThere, IsSpotCut, IsUntangledAt}
use Rattle.wt_text_edit_laws.specs.ParagraphBetween.{EndsParagraph, body_with}
use Rattle.wt_text_edit_laws.specs.ParagraphParts.{joined_parts, para_with}
use Rattle.wt_text_edit_laws.specs.TextBlocks.{a_paragraph, block_items, block_tree}
use Rattle.wt_beside_laws.proofs.Derived.BlockContents.{ReadAlone, BlockRead, content_of}
use Rattle.wt_beside_laws.proofs.Derived.CutPages.{one_read}
use Rattle.wt_beside_laws.proofs.Derived.NodesHave.{child_nodes_have}

pub there_so : (xs : List Item) → EndsParagraph xs → EndsThere (sources xs)
there_so [] e = tt
there_so (x ∷ xs) e = subst (λ (y : Item). EndsThere (sources (y ∷ xs))) (sym e.0) refl

-- the page is its parts
pub parts_are : (page : List ℕ) (before own rest : List Item) → page_items page ≡ before ++ (own ++ rest) → sources before ++ (sources own ++ sources rest) ≡ page
parts_are page before own rest e =
    sym (flat_map-append source before (own ++ rest) ∙ ap (λ (bs : List ℕ). sources before ++ bs) (flat_map-append source own rest))
    ∙ sym (ap sources e) ∙ page_sources page

own_tree : (page : List ℕ) (r : Row) (rs : List Row) (p : IsParagraphAt (page_items page) r rs) → BlockRead a_paragraph (sources p.own) p.own
    → para_with (joined_parts (lines p.own)) ≡ block_tree a_paragraph (sources p.own)
own_tree page r rs p b = ap (λ (xs : List Item). para_with (joined_parts (lines xs))) (sym b.items)

own_content : (page : List ℕ) (r : Row) (rs : List Row) (p : IsParagraphAt (page_items page) r rs) → IsFreeParagraph page p.own p.rest
    → ReadAlone (sources p.own) p.own → BlockRead a_paragraph (sources p.own) p.own → CallsNothing p.own → IsContent a_paragraph (sources p.own)
own_content page r rs p f a b calm =
    let q : List ℕ = sources p.own in
    let tree : para_with (joined_parts (lines p.own)) ≡ block_tree a_paragraph q = own_tree page r rs p b in
    let us : List ItemTree = p.child.before in
    let vs : List ItemTree = p.child.behind in
    let means : meaning (page_items page) ≡ body_with (us ++ block_tree a_paragraph q ∷ vs) =
    p.child.is ∙ ap (λ (t : ItemTree). body_with (us ++ t ∷ vs)) (p.tree ∙ tree) in
    let calls : CallsNothing (block_items a_paragraph q) = subst CallsNothing (sym b.items) calm in
    content_of a_paragraph q p.own a b calm (child_nodes_have a_paragraph q page us vs b.utf8 b.is refl calls f.ungrouped means) (subst IsUntangledAt tree f.untangled)

pub body_read : (page : List ℕ) (r : Row) (rs : List Row) (p : IsParagraphAt (page_items page) r rs) → IsFreeParagraph page p.own p.rest
    → AreRead (spot_at p.before p.own ∷ []) (sources p.rest)
body_read page r rs p f =
    let same : sources p.before ++ (sources p.own ++ sources p.rest) ≡ page = parts_are page p.before p.own p.rest p.is in
    let c : IsSpotCut (spot_at p.before p.own) (page_items (sources p.before ++ (sources p.own ++ sources p.rest))) =
    record { before = p.before; own = p.own; rest = p.rest; is = ap page_items same ∙ p.is; source = refl; block = p.text } in
    one_read (spot_at p.before p.own) (sources p.rest) c (subst IsUtf8 (sym same) f.utf8) (subst CallsNothing (ap page_items (sym same)) f.calls_nothing)
    (inl p.ended) (there_so p.rest p.ends) f.closed (λ a b calm. own_content page r rs p f a b calm)
