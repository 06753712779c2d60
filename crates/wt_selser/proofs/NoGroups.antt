-- A block without groups is tangled by text calls and open tags alone.
use Rattle.std.proofs.Common.{◌≡◌, ℕ, false, List, refl, sym, ap, ◌∙◌, subst}
use Rattle.std.specs.Prelude.{◌||◌, if◌then◌else◌}
use Rattle.wt_span.specs.Origins.{Expanded}
use Rattle.wt_tree.specs.Tiling.{HasNoGroup, NoneIsGroup}
use Rattle.wt_tree.specs.Tree.{Label, Tree, tree, Trees, none, more}
use Rattle.wt_tree.specs.View.{view, views}
use Rattle.wt_tree.specs.declared.node.Node.{Node, out-Node}
use Rattle.wt_tree.proofs.Views.{view_out}
use Rattle.wt_tree.specs.declared.edit_shape.InlineForm.{InlineForm}
use Rattle.wt_tree.specs.declared.edit_shape.InlineForm.TheVariants as inline
use Rattle.wt_tree.specs.EditShapes.{edit_shape}
use Rattle.wt_selser.specs.Edits.{is_tangled}
use Rattle.wt_selser.specs.GroupFaults.{faulty_at, has_faulty_group, is_faulty_node}
use Rattle.wt_isolation.specs.OpenTags.{before, touches_open_tag}
use Rattle.wt_isolation.specs.OpenTexts.{in_style}
use Rattle.wt_isolation.specs.TextCalls.{touches_text_call}

style_fine : (w : InlineForm) → in_style w false ≡ false
style_fine inline.Nothing = refl
style_fine inline.Characters = refl
style_fine inline.Bold = refl
style_fine inline.Italic = refl
style_fine inline.Shown = refl
style_fine inline.PageLink = refl
style_fine inline.ExternalLink = refl
style_fine inline.Tag = refl
style_fine inline.Break = refl
style_fine inline.AsItStood = refl

mutual
  node_fine : (items : Expanded) (t : Tree) → HasNoGroup t → is_faulty_node items t ≡ false
  node_fine items (tree l ts) h =
      ap (λ b. if b then faulty_at items l.ranges ts else in_style (edit_shape l.kind).inline (has_faulty_group items ts)) h.0
      ∙ ap (in_style (edit_shape l.kind).inline) (all_fine items ts h.1) ∙ style_fine (edit_shape l.kind).inline

  all_fine : (items : Expanded) (ts : Trees) → NoneIsGroup ts → has_faulty_group items ts ≡ false
  all_fine items none h = refl
  all_fine items (more t ts) h = ap (λ b. b || has_faulty_group items ts) (node_fine items t h.0) ∙ all_fine items ts h.1

pub untangled : (items : Expanded) (page : List ℕ) (l : Label) (ts : Trees) → NoneIsGroup ts → touches_text_call items.text_calls l.ranges ≡ false
    → touches_open_tag (before page l.ranges) (tree l ts) ≡ false → is_tangled items page (tree l ts) ≡ false
untangled items page l ts h e f =
    ap (λ b. b || (touches_open_tag (before page l.ranges) (tree l ts) || has_faulty_group items ts)) e
    ∙ ap (λ b. b || has_faulty_group items ts) f ∙ all_fine items ts h

-- a node without groups holds none
held_fine : (n : Node) → HasNoGroup (view n) → NoneIsGroup (views (out-Node n).children)
held_fine n h = (subst HasNoGroup (view_out n) h).1

pub none_held : (n : Node) (ns : List Node) → ns ≡ (out-Node n).children → HasNoGroup (view n) → NoneIsGroup (views ns)
none_held n ns is h = subst (λ (ms : List Node). NoneIsGroup (views ms)) (sym is) (held_fine n h)
