-- Two bodies that show the same children have one plain view. The bodies of a page and of what is read have one face: no
-- attribute and no data.
use Rattle.std.proofs.Common.{◌≡◌, ℕ, suc, List, [], Bool, true, false, cond, refl, sym, ap, ◌∙◌}
use Rattle.std.specs.Prelude.{length, codes, Option, Some, None, Result, Ok, Err}
use Rattle.wt_tree.specs.declared.kind.Kind.TheVariants as kind
use Rattle.wt_tree.specs.declared.node.DataMw.{DataMw}
use Rattle.wt_tree.specs.Kinds.{showing, spelling}
use Rattle.wt_tree.specs.Opened.{without_sections}
use Rattle.wt_tree.specs.Plain.{Face, face, element, Plains, ended, along, shown_before, plains_before, plain}
use Rattle.wt_tree.specs.Tree.{Label, Tree, tree, Trees, label}
use Rattle.wt_expand.specs.Work.{Pages}
use Rattle.wt_page.specs.Body.{meaning}
use Rattle.wt_annotated.specs.Annotated.{annotated}
use Rattle.wt_page_round_trip.specs.PageTree.{page_tree}
use Rattle.wt_datamw.specs.declared.refusal.DataWhy.{DataWhy}
use Rattle.wt_datamw.specs.declared.sync.Sync.{Sync}
use Rattle.wt_datamw.specs.MwRead.{mw_told}
use Rattle.wt_html_grammar.specs.declared.why.HtmlWhy.{HtmlWhy}
use Rattle.wt_html_grammar.specs.declared.why.HtmlWhy.TheVariants as html_why
use Rattle.wt_html_grammar.specs.Events.{built}
use Rattle.wt_html_grammar.specs.Machine.{State, start, run}
use Rattle.wt_html_grammar.specs.Markup.{Pair, Markup, Markups, empty, more}
use Rattle.wt_html_grammar.specs.Places.{is_accepted}
use Rattle.wt_schema.specs.declared.why.FitWhy.TheVariants as why
use Rattle.wt_schema.specs.Attributes.{value_of}
use Rattle.wt_schema.specs.Data.{Data, data_of, both, sync_fits, mw_for, mw_fits}
use Rattle.wt_schema.specs.Fit.{Misfit, label_for, texts_in, text_fits, with_children, children_in, within, fit_nodes, BodyElement, body_of, fit_body_told, body_data, fit_body, fit}
use Rattle.wt_schema.specs.Groups.{Piece}
use Rattle.wt_schema.specs.Read.{page as as_page, ill, read_fit, read_tree, read_root, read_run, read}
use Rattle.wt_schema.specs.Sections.{opened_if_fit}
use Rattle.wt_schema.specs.Unsourced.{unsourced}
use Rattle.wt_visible.specs.Children.{listed, shown_children}

-- ---- from children to plain views

listed_same : (ps qs : Plains) → listed ps ≡ listed qs → ps ≡ qs
listed_same ended ended e = refl
listed_same ended (along q qs) e = cc
listed_same (along p ps) ended e = cc
listed_same (along p ps) (along q qs) e =
    let first : p ≡ q = cc in
    let rest : listed ps ≡ listed qs = cc in
    ap (λ x. along x ps) first ∙ ap (along q) (listed_same ps qs rest)

abbrev face_with : Option DataMw → Face
face_with m = record { kind = kind.Body; attrs = []; mw = m }

-- a body without attributes and data
abbrev pub IsBare : Tree → Type 0
IsBare t = face (label t) ≡ face_with None

body_plain : (l : Label) (ts : Trees) → l.kind ≡ kind.Body → plain (tree l ts) ≡ along (element (face l) (plains_before ts ended)) ended
body_plain l ts k = ap (λ x. shown_before (showing x) l (λ ps. plains_before ts ps) ended) k

pub same_shown : (t u : Tree) → IsBare t → IsBare u → shown_children t ≡ shown_children u → plain t ≡ plain u
same_shown (tree l ts) (tree m us) f g e =
    let k : l.kind ≡ kind.Body = ap (λ (x : Face). x.kind) f in
    let j : m.kind ≡ kind.Body = ap (λ (x : Face). x.kind) g in
    body_plain l ts k
    ∙ ap (λ ps. along (element (face l) ps) ended) (listed_same (plains_before ts ended) (plains_before us ended) e)
    ∙ ap (λ x. along (element x (plains_before us ended)) ended) (f ∙ sym g)
    ∙ sym (body_plain m us j)

pub shown_same : (t u : Tree) → IsBare t → IsBare u → plain t ≡ plain u → shown_children t ≡ shown_children u
shown_same (tree l ts) (tree m us) f g e =
    let k : l.kind ≡ kind.Body = ap (λ (x : Face). x.kind) f in
    let j : m.kind ≡ kind.Body = ap (λ (x : Face). x.kind) g in
    let one : along (element (face l) (plains_before ts ended)) ended ≡ along (element (face m) (plains_before us ended)) ended =
    sym (body_plain l ts k) ∙ e ∙ body_plain m us j in
    let inside : plains_before ts ended ≡ plains_before us ended = cc in
    ap listed inside

-- ---- the body of a page

pub page_face : (pages : Pages) (page : List ℕ) → IsBare (page_tree pages page)
unfolding meaning annotated
page_face pages page = refl

pub page_body : (pages : Pages) (page : List ℕ) → (label (page_tree pages page)).kind ≡ kind.Body
page_body pages page = ap (λ (x : Face). x.kind) (page_face pages page)

-- ---- the body of what is read

told_none : (r : Result DataMw DataWhy) (o : Option DataMw) → mw_for false r ≡ Some o → o ≡ None
told_none (Err w) o e = cc
told_none (Ok d) o e = cc

mw_none : (v : Option (List ℕ)) (o : Option DataMw) → mw_fits false v ≡ Some o → o ≡ None
mw_none None o e = cc
mw_none (Some v) o e = told_none (mw_told v) o e

both_mw : (s : Option (Option Sync)) (m : Option (Option DataMw)) (d : Data) → both s m ≡ Some d → m ≡ Some d.mw
both_mw None None d e = cc
both_mw None (Some m) d e = cc
both_mw (Some s) None d e = cc
both_mw (Some s) (Some m) d e = cc

data_step : (ps : List Pair) (d : Data) (v : Bool) → cond v None (data_of kind.Body ps) ≡ Some d → d.mw ≡ None
data_step ps d true e = cc
data_step ps d false e =
    mw_none (value_of (codes "data-mw") ps) d.mw
    (both_mw (sync_fits kind.Body (value_of (codes "data-parsoid") ps)) (mw_fits false (value_of (codes "data-mw") ps)) d e)

data_none : (ps : List Pair) (d : Data) → body_data ps ≡ Some d → d.mw ≡ None
data_none ps d e = data_step ps d _ e

abbrev data_with : Option Sync → Option DataMw → Data
data_with s m = record { sync = s; mw = m }

label_face : (ps : List Pair) (s : Option Sync) (m : Option DataMw) (shown : List ℕ) → m ≡ None
    → face (label_for kind.Body ps (data_with s m) shown) ≡ face_with None
unfolding spelling
label_face ps None m shown e = ap face_with e
label_face ps (Some s) m shown e = ap face_with e

held_face : (ps : List Pair) (d : Data) (shown : List ℕ) (held : Result (List Piece) Misfit) (t : Tree) → d.mw ≡ None
    → with_children false kind.Body (label_for kind.Body ps d shown) held ≡ Ok t → IsBare t
held_face ps d shown (Err x) t m e = cc
held_face ps d shown (Ok xs) t m e =
    let same : t ≡ tree (label_for kind.Body ps d shown) (children_in false kind.Body xs) = cc in
    ap (λ u. face (label u)) same ∙ label_face ps d.sync d.mw shown m

fits_face : (n : ℕ) (ps : List Pair) (d : Data) (shown : List ℕ) (held : Result (List Piece) Misfit) (t : Tree) (v : Bool) → d.mw ≡ None
    → cond v (with_children false kind.Body (label_for kind.Body ps d shown) held) (Err (n, why.Text)) ≡ Ok t → IsBare t
fits_face n ps d shown held t true m e = held_face ps d shown held t m e
fits_face n ps d shown held t false m e = cc

told_face : (n : ℕ) (ps : List Pair) (o : Option Data) (c : Markups) (held : Result (List Piece) Misfit) (t : Tree) → body_data ps ≡ o
    → fit_body_told n ps o c held ≡ Ok t → IsBare t
told_face n ps None c held t is e = cc
told_face n ps (Some d) c held t is e = fits_face n ps d (texts_in c) held t (text_fits kind.Body c) (data_none ps d is) e

-- without its sections a tree has the label that it has with them
opened_face : (t : Tree) → IsBare t → IsBare (without_sections t)
opened_face (tree l ts) h = h

if_fit_face : (r : Result Tree Misfit) (t : Tree) → ((u : Tree) → r ≡ Ok u → IsBare u) → opened_if_fit r ≡ Ok t → IsBare t
if_fit_face (Err x) t f e = cc
if_fit_face (Ok u) t f e =
    let same : t ≡ without_sections u = cc in
    ap (λ x. face (label x)) same ∙ opened_face u (f u refl)

fit_face : (o : Option BodyElement) (t : Tree) → fit_body o ≡ Ok t → IsBare t
fit_face None t e = cc
fit_face (Some f) t e =
    let held : Result (List Piece) Misfit = fit_nodes (suc f.number) (within kind.Body false) f.contents in
    if_fit_face (fit_body_told f.number f.attributes (body_data f.attributes) f.contents held) t
    (λ u is. told_face f.number f.attributes (body_data f.attributes) f.contents held u refl is) e

read_step : (m : Markup) (v : Option ℕ) (r : Result Tree Misfit) (t : Tree) (u : Option ℕ) → fit m ≡ r → read_fit v r ≡ as_page t u → IsBare t
read_step m v (Err x) t u is e = cc
read_step m v (Ok s) t u is e =
    let same : t ≡ s = cc in
    ap (λ x. face (label x)) same ∙ fit_face (body_of m) s is

tree_face : (m : Markup) (t : Tree) (u : Option ℕ) → read_tree m ≡ as_page t u → IsBare t
unfolding read_tree
tree_face m t u e = read_step m (unsourced m) (fit m) t u refl e

root_face : (bytes : List ℕ) (ms : Markups) (t : Tree) (u : Option ℕ) → read_root bytes ms ≡ as_page t u → IsBare t
root_face bytes empty t u e = cc
root_face bytes (more m ms) t u e = tree_face m t u e

end_face : (bytes : List ℕ) (v : Bool) (t : Tree) (u : Option ℕ)
    → cond v (read_root bytes (built bytes).root) (ill (length bytes) html_why.End) ≡ as_page t u → IsBare t
end_face bytes true t u e = root_face bytes (built bytes).root t u e
end_face bytes false t u e = cc

run_face : (bytes : List ℕ) (r : Result State HtmlWhy) (t : Tree) (u : Option ℕ) → read_run bytes r ≡ as_page t u → IsBare t
run_face bytes (Err w) t u e = cc
run_face bytes (Ok s) t u e = end_face bytes (is_accepted s) t u e

-- the root of what is read
pub read_face : (bytes : List ℕ) (t : Tree) (u : Option ℕ) → read bytes ≡ as_page t u → IsBare t
unfolding read
read_face bytes t u e = run_face bytes (run start bytes) t u e
