-- The page round the body, and the law.
use Rattle.std.proofs.Common.{◌≡◌, ℕ, ◌+◌, ◌<◌, ◌^◌, true, false, Option, Some, None, List, [], ◌∷◌, ◌++◌, map, refl, sym, ap, ap₂, ◌∙◌, subst, append-nil, codes, arith}
use Rattle.std.specs.Prelude.{Result, Ok, is_some, not, ◌&&◌, if◌then◌else◌}
use Rattle.std.specs.Str.{bytes_eq}
use lib.Utf8.{encode}
use Rattle.wt_tree.specs.declared.kind.Kind.TheVariants as kind
use Rattle.wt_tree.specs.Opened.{opened, without_sections}
use Rattle.wt_tree.specs.Tree.{Label, Tree, tree, Trees}
use Rattle.wt_tree.specs.Kinds.{writing, spelling, element_name, texts_of_kind}
use Rattle.wt_tree.specs.Plain.{ended, plains_before}
use Rattle.wt_tree.specs.Tiling.{is_group}
use Rattle.wt_schema.specs.Html.{written, group_html, groups, groups_of_all, html, html_of_all, frame_start, frame_end, html_text}
use Rattle.wt_html_grammar.specs.Grammar.{plain, Attribute, slash, Element, element, void, none, child, spell, IsElement, Document, spell_document, IsDocument}
use Rattle.wt_html_grammar.specs.Markup.{Pair, Markup, Markups, node, empty, more, meaning, Stands}
use Rattle.wt_html_grammar.specs.Events.{Building}
use Rattle.wt_html_grammar.proofs.Steps.{if_true, if_false}
use Rattle.wt_html_grammar.proofs.Reading.{well_read}
use Rattle.wt_html_grammar.proofs.Telling.{stands_told}
use Rattle.wt_schema.specs.Attributes.{value_of, has}
use Rattle.wt_schema.specs.Groups.{Piece}
use Rattle.wt_schema.specs.Data.{Data, data_of}
use Rattle.wt_schema.specs.Rows.{shows_text}
use Rattle.wt_schema.specs.Fit.{Misfit, BodyElement, texts_in, label_for, held_as, with_children, text_fits, within, fit_nodes, fit_body_told, body_data, fit_body, body_of, fit}
use Rattle.wt_schema.specs.Sections.{all_bared, opened_if_fit}
use Rattle.wt_schema.specs.Unsourced.{is_marked, unsourced_body, unsourced}
use Rattle.wt_schema.specs.Read.{page, read_fit, read_tree, read_root, read_run, read}
use Rattle.wt_schema.specs.Written.{unranged, unranged_all, IsShown, IsElementLabel, PartsIn, IsWritten}
use Rattle.wt_schema.proofs.Said.{said_of}
use Rattle.wt_schema.proofs.Rows.{is_as_void, IsElementKind, body_is_kind}
use Rattle.wt_schema.proofs.Order.{pairs}
use Rattle.wt_schema.proofs.Labels.{IsTold, told, small_id}
use Rattle.wt_schema.proofs.Bare.{others_read}
use Rattle.wt_schema.proofs.Elements.{element_for, attributes_spelled, element_spelled, items_of, inside_groups, element_good, node_for, markups_of, element_stands}
use Rattle.wt_schema.proofs.Steps.{ungathered, gathered_again}
use Rattle.wt_schema.proofs.SectionItems.{parts_spelled, parts_good, parts_stand}
use Rattle.wt_schema.proofs.SectionBared.{parts_blank}
use Rattle.wt_schema.proofs.SectionFits.{parts_read, body_holds, parts_fit, parts_opened, parts_sourced}

-- ---- the document

abbrev charset : Attribute
charset = record { gap = 32 ∷ []; name = codes "charset"; left = []; right = []; quote = 34; value = map plain (codes "utf-8") }

abbrev meta : Element
meta = void (codes "meta") (charset ∷ []) [] slash

abbrev page_head : Element
page_head = element (codes "head") [] [] (child meta none) []

abbrev root : Element → Element
root body = element (codes "html") [] [] (child page_head (child body none)) []

abbrev document : Element → Document
document body = record { head = record { lead = []; doctype = codes "<!DOCTYPE html>"; gap = [] }; root = root body; end = [] }

document_spelled : (body : Element) → frame_start ++ (spell body ++ frame_end) ≡ spell_document (document body)
unfolding frame_start frame_end encode
document_spelled body =
    let ends : (x : List ℕ) → x ++ codes "</html>" ≡ ((x ++ []) ++ codes "</html>") ++ [] =
    λ x. sym (append-nil _ ∙ ap (λ y. y ++ codes "</html>") (append-nil x)) in
    ap (λ x. codes "<!DOCTYPE html><html><head><meta charset=\"utf-8\"/></head>" ++ x) (ends (spell body))

meta_good : IsElement 2 meta
meta_good = (
  omega arith,
  (refl, (refl, (refl, (refl, tt)))),
  (
    (
      (refl, tt),
      (refl, (refl, (refl, (refl, (refl, (refl, (refl, tt))))))),
      ((refl, refl), ((refl, refl), ((refl, refl), ((refl, refl), ((refl, refl), tt))))),
      refl,
      tt,
      tt,
    ),
    refl,
    tt,
  ),
  tt,
  refl,
)

head_good : IsElement 1 page_head
head_good = (omega arith, (refl, (refl, (refl, (refl, tt)))), tt, tt, (meta_good, tt), tt, refl)

document_good : (body : Element) → IsElement 1 body → IsDocument (document body)
document_good body h = ((tt, refl, tt), (omega arith, (refl, (refl, (refl, (refl, tt)))), tt, tt, (head_good, (h, tt)), tt, refl), tt)

-- ---- the tree of elements

abbrev head_markup : Markup
head_markup = node (codes "head") [] (more (node (codes "meta") ((codes "charset", codes "utf-8") ∷ []) empty) empty)

abbrev page_markup : Markup → Markup
page_markup body = node (codes "html") [] (more head_markup (more body empty))

document_stands : (body : Element) → meaning (root body) ≡ page_markup (meaning body)
unfolding encode
document_stands body = refl

abbrev found : Label → Markups → BodyElement
found l m = record { number = 4; attributes = pairs (said_of l); contents = all_bared m }

body_found : (l : Label) (m : Markups) → l.kind ≡ kind.Body → body_of (page_markup (node_for l m)) ≡ Some (found l m)
unfolding spelling
body_found l m e = if_true (bytes_eq (codes "head") (codes "head") && bytes_eq (element_name l.kind) (codes "body")) _ _
    (ap (λ k. bytes_eq (codes "head") (codes "head") && bytes_eq (element_name k) (codes "body")) e)

-- the body is in no group
body_data_is : (l : Label) (d : Data) → l.kind ≡ kind.Body → value_of (codes "about") (pairs (said_of l)) ≡ None
    → data_of l.kind (pairs (said_of l)) ≡ Some d → body_data (pairs (said_of l)) ≡ Some d
body_data_is l d e a f =
    ap (λ o. if is_some o && not (has (codes "data-mw") (pairs (said_of l))) then None else data_of kind.Body (pairs (said_of l))) a
    ∙ ap (λ k. data_of k (pairs (said_of l))) (sym e) ∙ f

body_whole : (n : ℕ) (ps : List Pair) (d : Data) (m : Markups) (us : Trees) (o : Option Data) (held : Result (List Piece) Misfit) → o ≡ Some d
    → text_fits kind.Body m ≡ true → held ≡ Ok (ungathered us)
    → fit_body_told n ps o m held ≡ Ok (tree (label_for kind.Body ps d (texts_in m)) (held_as (texts_of_kind kind.Body) us))
body_whole n ps d m us o held e f i =
    ap (λ x. fit_body_told n ps x m held) e ∙ if_true (text_fits kind.Body m) _ _ f
    ∙ ap (with_children false kind.Body (label_for kind.Body ps d (texts_in m))) i
    ∙ ap (λ ts. Ok (tree (label_for kind.Body ps d (texts_in m)) (held_as (texts_of_kind kind.Body) ts))) (gathered_again us)

body_fits : (l : Label) (ts : Trees) → l.kind ≡ kind.Body → IsElementLabel l → IsTold l → PartsIn 2 kind.Body ts → groups_of_all ts < 2 ^ 64
    → fit (page_markup (node_for l (markups_of 0 ts))) ≡ Ok (unranged (without_sections (tree l ts)))
body_fits l ts e w t h b =
    let ps : List Pair = pairs (said_of l) in
    let m : Markups = all_bared (markups_of 0 ts) in
    let s : [] ≡ l.shown = sym (subst (λ k. IsShown (shows_text k) l.shown) e w.shown) in
    ap fit_body (body_found l (markups_of 0 ts) e)
    ∙ ap opened_if_fit (body_whole 4 ps t.told m (parts_read ts) (body_data ps) (fit_nodes 5 (within kind.Body false) m)
    (body_data_is l t.told e t.alone t.data_is)
    (parts_blank ts 2 kind.Body 0 refl h) (parts_fit ts 2 kind.Body false 0 5 body_holds h (omega (arith, b))))
    ∙ ap (λ us. Ok (tree (label_for kind.Body ps t.told (texts_in m)) us)) (parts_opened ts)
    ∙ ap (λ x. Ok (tree x (unranged_all (opened ts))))
    (ap (λ k. label_for k ps t.told (texts_in m)) (sym e) ∙ t.label_is (texts_in m) (ap (λ k. if shows_text k then texts_in m else []) e ∙ s))
    ∙ ap Ok (sym (others_read l (opened ts) (ap is_group e)))

body_sourced : (l : Label) (ts : Trees) → l.kind ≡ kind.Body → IsTold l → PartsIn 2 kind.Body ts → groups_of_all ts < 2 ^ 64
    → unsourced (page_markup (node_for l (markups_of 0 ts))) ≡ None
body_sourced l ts e t h b =
    ap unsourced_body (body_found l (markups_of 0 ts) e)
    ∙ if_false (is_marked (pairs (said_of l))) _ _ t.marked ∙ parts_sourced ts 2 kind.Body 0 5 h (omega (arith, b))

-- ---- the law

pub written_stands : (t : Tree) → IsWritten t → groups t < 2 ^ 64
    → (m : Markup) × Stands (html_text t) m × (fit m ≡ Ok (unranged (without_sections t))) × (unsourced m ≡ None)
unfolding html_text
written_stands (tree l ts) h few =
    let b : groups_of_all ts < 2 ^ 64 = omega (arith, few, inside_groups l ts (ap writing h.0)) in
    let z : 0 + groups_of_all ts < 2 ^ 64 = omega (arith, b) in
    let k : IsElementKind l.kind l.attrs = body_is_kind l h.0 h.1 in
    let t : IsTold l = told l k h.1 in
    let e : Element = element_for l (items_of 0 ts) in
    let same : html 0 (tree l ts) ≡ spell e =
    ap (λ j. if is_group j then group_html 1 l (plains_before ts ended) else written (writing j) l (html_of_all 0 ts)) h.0
    ∙ sym (element_spelled l (items_of 0 ts) (html_of_all 0 ts) (attributes_spelled l t (small_id l h.1)) (parts_spelled ts 2 kind.Body 0 h.2 z)) in (
      page_markup (node_for l (markups_of 0 ts)),
      (
        document e,
        document_good e (element_good l 1 (items_of 0 ts) (omega arith) k (ap (λ j. is_as_void (writing j)) h.0) t (parts_good ts 2 kind.Body 0 h.2 z)),
        ap (λ x. frame_start ++ (x ++ frame_end)) same ∙ document_spelled e,
        document_stands e ∙ ap page_markup (element_stands l (items_of 0 ts) (markups_of 0 ts) t (parts_stand ts 2 kind.Body [] 0 h.2 z)),
      ),
      body_fits l ts h.0 h.1 t h.2 b,
      body_sourced l ts h.0 t h.2 b,
    )

-- what stands for a tree of elements that fits is read as its page
stands_read : (bytes : List ℕ) (m : Markup) (t : Tree) (u : Option ℕ) → Stands bytes m → fit m ≡ Ok t → unsourced m ≡ u → read bytes ≡ page t u
unfolding read read_tree
stands_read bytes m t u s f e =
    ap (read_run bytes) (well_read bytes (s.0, s.1, s.2))
    ∙ ap (λ (x : Building). read_root bytes x.root) (stands_told bytes m s)
    ∙ ap₂ read_fit e f

pub written_read : (t : Tree) → IsWritten t → groups t < 2 ^ 64 → read (html_text t) ≡ page (unranged (without_sections t)) None
written_read t h few = let w = written_stands t h few in stands_read (html_text t) w.0 (unranged (without_sections t)) None w.1 w.2 w.3
