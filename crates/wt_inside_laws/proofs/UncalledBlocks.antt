-- A marked paragraph that may hold calls has a node that is none, and its texts show their sources.
use Rattle.std.proofs.Common.{◌≡◌, ℕ, ◌≤◌, false, Option, Some, None, List, [], ◌∷◌, length, map, sym, ap, subst, arith, inl, inr}
use Rattle.std.specs.List.{AllByRecursion}
use Rattle.std.specs.Str.{IsUtf8}
use Rattle.wt_span.specs.declared.limits.TheConstants.{PAGE_BYTES}
use Rattle.wt_tree.specs.declared.edit_shape.InlineForm.{InlineForm}
use Rattle.wt_tree.specs.declared.edit_shape.InlineForm.TheVariants as inline
use Rattle.wt_tree.specs.EditShapes.{edit_shape}
use Rattle.wt_tree.specs.Tiling.{is_group}
use Rattle.wt_tree.specs.Tree.{Label, Tree, tree, Trees, none, more}
use Rattle.wt_expand.specs.PageCalls.{expanded_page}
use Rattle.wt_expand.specs.Work.{Pages}
use Rattle.wt_link_spelling.specs.Spelling.{children_of}
use Rattle.wt_slices.specs.Changes.{Pair}
use Rattle.wt_visible.specs.SameNodes.{same_node}
use Rattle.wt_commands.specs.Answers.{refusal_of_page}
use Rattle.wt_text_edit_laws.specs.TextBlocks.{TextBlock, a_paragraph, a_heading}
use Rattle.wt_called_edit_laws.specs.Groups.{called_tree}
use Rattle.wt_called_edit_laws.specs.Uncalled.{SomeNoGroup}
use Rattle.wt_called_edit_laws.proofs.Whole.Uncalled.{whole_uncalled}
use Rattle.wt_inside_laws.specs.AsSent.{node_at}
use Rattle.wt_inside_laws.specs.BesideEdits.{IsBlockOf}
use Rattle.wt_inside_laws.specs.RetypedCalls.{OwnTextBy, AreOwnTexts, UncalledBy, HasUncalledChild, HoldsUncalled}
use Rattle.wt_inside_laws.specs.TextEdits.{IsRetyped}
use Rattle.wt_inside_laws.proofs.OwnTexts.{page_texts}
use Rattle.wt_inside_laws.proofs.Reached.{Reaches}
use Rattle.wt_inside_laws.proofs.ToldEdits.{first_same, rest_same}

-- ---- a node that is no call

by_form : (f : InlineForm) (l : Label) (ts : Trees) → OwnTextBy f l ts → is_group l.kind ≡ false → UncalledBy f l
by_form inline.Nothing l ts o e = absurd o
by_form inline.Characters l ts o e = tt
by_form inline.Bold l ts o e = tt
by_form inline.Italic l ts o e = tt
by_form inline.Shown l ts o e = e
by_form inline.PageLink l ts o e = e
by_form inline.ExternalLink l ts o e = e
by_form inline.Tag l ts o e = e
by_form inline.Break l ts o e = e
by_form inline.AsItStood l ts o e = e

uncalled_child : (ts : Trees) → AreOwnTexts ts → SomeNoGroup ts → HasUncalledChild ts
uncalled_child none o s = absurd s
uncalled_child (more (tree l us) ts) o (inl e) = inl (by_form (edit_shape l.kind).inline l us o.0 e)
uncalled_child (more (tree l us) ts) o (inr s) = inr (uncalled_child ts o.1 s)

pub block_uncalled : (pages : Pages) (page : List ℕ) (k : TextBlock) (q : List ℕ) (t : Tree) → IsBlockOf pages page k q t → AreOwnTexts (children_of t) → HoldsUncalled k t
block_uncalled pages page a_paragraph q t b own = (
  own,
  uncalled_child (children_of t) own
      (subst (λ (u : Tree). SomeNoGroup (children_of u)) (sym b.settled.is)
      (whole_uncalled pages (expanded_page pages page).outer b.settled.number b.settled.at b.before q b.holds b.whole)),
)
block_uncalled pages page (a_heading s) q t b own = tt

-- ---- its texts

abbrev HasOwnTexts : Pair → Type 0
HasOwnTexts p = AreOwnTexts (children_of p.old)

abbrev olds : List Pair → List (Option Tree)
olds ms = map (λ (p : Pair). Some p.old) ms

pub all_own_texts : (pages : Pages) (page : List ℕ) → IsUtf8 page → length page ≤ PAGE_BYTES → refusal_of_page pages page ≡ None → (qs : List (List ℕ)) (ms : List Pair)
    → AllByRecursion (Reaches (called_tree pages page)) qs → map (λ path. node_at path (called_tree pages page)) qs ≡ olds ms
    → AllByRecursion (IsRetyped same_node (expanded_page pages page) page) ms → AllByRecursion HasOwnTexts ms
all_own_texts pages page u le f qs [] w e r = tt
all_own_texts pages page u le f [] (m ∷ ms) w e r = absurd (let no = ap length e in omega (arith, no))
all_own_texts pages page u le f (q ∷ qs) (m ∷ ms) w e r =
    let t : Tree = called_tree pages page in
    let rest : List (Option Tree) = map (λ path. node_at path t) qs in (
      page_texts pages page q m.old u le f (w.0 m.old (first_same (node_at q t) (Some m.old) rest (olds ms) e)) r.0.block,
      all_own_texts pages page u le f qs ms w.1 (rest_same (node_at q t) (Some m.old) rest (olds ms) e) r.1,
    )
