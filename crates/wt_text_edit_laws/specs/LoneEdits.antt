-- What an editor sends for such a page: the paragraph, marked, with another text in it.
use Rattle.std.specs.Prelude.{ℕ, false, None, List, [], ◌∷◌}
use Rattle.wt_tree.specs.declared.kind.Kind.TheVariants as kind
use Rattle.wt_tree.specs.declared.kind.Mark.TheVariants as marks
use Rattle.wt_tree.specs.Tree.{Label, Tree, tree, Trees, none, more}
use Rattle.wt_tree.specs.declared.edit_shape.Place.TheVariants as place
use Rattle.wt_guards.specs.Content.{letters}
use Rattle.wt_guards.specs.Guards.{spelled}

-- one text, and no node where nothing was typed
abbrev pub text_in : Label → List ℕ → Trees
text_in t [] = none
text_in t (b ∷ bs) = more (tree (record t { kind = kind.Text; id = 0; shown = b ∷ bs; mark = marks.Nothing }) none) none

-- Of the body, the paragraph and the text all else may be anything: where they say that they are in the page, and their source.
abbrev pub sent : Label → Label → Label → List ℕ → Tree
sent b p t text =
    tree (record b { kind = kind.Body; id = 0; attrs = []; mark = marks.Nothing })
    (more (tree (record p { kind = kind.Para; id = 1; attrs = []; mark = marks.Content; mw = None }) (text_in t text)) none)

-- The new page: the text, spelled as the whole of a paragraph whose source was this page.
abbrev pub typed_in : List ℕ → List ℕ → List ℕ
typed_in page text = spelled (record { within = false; place = place.Paragraph; source = page }) (letters text)
