-- Nothing is wrong in a content of nodes that are sent as they are, and of texts.
use Rattle.std.proofs.Common.{◌≡◌, Bool, false, List, [], ◌++◌, refl, ap, ◌∙◌}
use Rattle.std.specs.Prelude.{if◌then◌else◌, Option, None}
use Rattle.wt_tree.specs.Tree.{Label, Tree, tree, Trees, none, more, label}
use Rattle.wt_tree.specs.EditShapes.{edit_shape}
use Rattle.wt_tree.specs.declared.edit_shape.InlineForm.{InlineForm}
use Rattle.wt_tree.specs.declared.edit_shape.InlineForm.TheVariants as inline
use Rattle.wt_original.specs.Kept.{Kept}
use Rattle.wt_original.specs.Page.{Page, page_of}
use Rattle.wt_content.specs.declared.reason.ContentWhy.{ContentWhy}
use Rattle.wt_content.specs.declared.content.Standing.{Standing}
use Rattle.wt_content.specs.declared.content.Standing.TheVariants as stands
use Rattle.wt_content.specs.Content.{changed_from, standing_of, standing, faults_by, holds_link, below, all_faults, is_paragraph, first_why, bad_content}
use Rattle.wt_beside_laws.specs.SentNodes.{IsUnchanged, IsSentBy, AreSent}
use Rattle.wt_beside_laws.specs.SentPieces.{FitsBy, TextsFit}

pub stays_same : (p : Page) (l : Label) (ts : Trees) → IsUnchanged p l ts → standing p (tree l ts) ≡ stands.Same
stays_same p l ts h =
    ap (λ (o : Option Kept). standing_of p o (tree l ts)) h.found
    ∙ ap (λ (b : Bool). if b then stands.Same else changed_from (edit_shape (label h.kept.node).kind).inline) h.same

one_fine : (w : InlineForm) (v : Bool) (p : Page) (l : Label) (ts : Trees) (holds : Bool) (inside : List ContentWhy) → IsSentBy w p l ts → FitsBy w v l
    → faults_by w (record { in_paragraph = v; in_link = false }) (standing p (tree l ts)) l holds inside ≡ []
one_fine inline.Nothing v p l ts holds inside h f = refl
one_fine inline.Characters v p l ts holds inside h f = ap (λ ws. ws ++ []) f
one_fine inline.Bold v p l ts holds inside h f = absurd h
one_fine inline.Italic v p l ts holds inside h f = absurd h
one_fine inline.Shown v p l ts holds inside h f =
    ap (λ (s : Standing). faults_by inline.Shown (record { in_paragraph = v; in_link = false }) s l holds inside) (stays_same p l ts h)
one_fine inline.PageLink v p l ts holds inside h f =
    ap (λ (s : Standing). faults_by inline.PageLink (record { in_paragraph = v; in_link = false }) s l holds inside) (stays_same p l ts h)
one_fine inline.ExternalLink v p l ts holds inside h f =
    ap (λ (s : Standing). faults_by inline.ExternalLink (record { in_paragraph = v; in_link = false }) s l holds inside) (stays_same p l ts h)
one_fine inline.Tag v p l ts holds inside h f =
    ap (λ (s : Standing). faults_by inline.Tag (record { in_paragraph = v; in_link = false }) s l holds inside) (stays_same p l ts h)
one_fine inline.Break v p l ts holds inside h f =
    ap (λ (s : Standing). faults_by inline.Break (record { in_paragraph = v; in_link = false }) s l holds inside) (stays_same p l ts h)
one_fine inline.AsItStood v p l ts holds inside h f =
    ap (λ (s : Standing). faults_by inline.AsItStood (record { in_paragraph = v; in_link = false }) s l holds inside) (stays_same p l ts h)

all_fine : (v : Bool) (p : Page) (us : Trees) → AreSent p us → TextsFit v us → all_faults p (record { in_paragraph = v; in_link = false }) us ≡ []
all_fine v p none h f = refl
all_fine v p (more (tree l ts) us) h f =
    let w : InlineForm = (edit_shape l.kind).inline in
    ap (λ ws. ws ++ all_faults p (record { in_paragraph = v; in_link = false }) us)
    (one_fine w v p l ts (holds_link (tree l ts)) (all_faults p (below (record { in_paragraph = v; in_link = false }) w) ts) h.0 f.0)
    ∙ all_fine v p us h.1 f.1

pub no_fault : (same : Tree → Tree → Bool) (block : Tree) (m : Label) (us : Trees) → AreSent (page_of same block) us
    → TextsFit (is_paragraph (edit_shape (label block).kind).form) us → bad_content same block (tree m us) ≡ None
unfolding bad_content
no_fault same block m us h f = ap first_why (all_fine (is_paragraph (edit_shape (label block).kind).form) (page_of same block) us h f)
