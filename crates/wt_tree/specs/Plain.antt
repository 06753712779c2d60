-- The plain view of a tree: what it shows, without numbers, ranges, delimiters, separators, marks
-- and skips.
use Rattle.std.specs.Prelude.{ℕ, List, [], ◌∷◌, ◌++◌}
use Rattle.std.specs.declared.option.Option.{Option}
use Rattle.wt_tree.specs.declared.kind.Kind.{Kind}
use Rattle.wt_tree.specs.declared.kind.AttrName.{AttrName}
use Rattle.wt_tree.specs.declared.node.DataMw.{DataMw}
use Rattle.wt_tree.specs.declared.kind.Showing.{Showing}
use Rattle.wt_tree.specs.declared.kind.Showing.TheVariants.{Characters, Inside, Nothing, Element}
use Rattle.wt_tree.specs.Kinds.{showing}
use Rattle.wt_tree.specs.Tree.{Label, Tree, tree, Trees, none, more}

-- an element's kind with its attributes, and what an extension has beside
pub record Face : Type 0 where
  pub kind : Kind
  pub attrs : List (AttrName × List ℕ)
  pub mw : Option DataMw

abbrev pub face : Label → Face
face l = record { kind = l.kind; attrs = l.attrs; mw = l.mw }

mutual
  pub data Plain : Type 0 where
    text : List ℕ → Plain
    element : Face → Plains → Plain

  pub data Plains : Type 0 where
    ended : Plains
    along : Plain → Plains → Plains

-- A text before others: it is joined with a text that follows, and left out where it is empty.
abbrev pub text_before : List ℕ → Plains → Plains
text_before [] ps = ps
text_before (b ∷ bs) ended = along (text (b ∷ bs)) ended
text_before (b ∷ bs) (along (text cs) ps) = along (text ((b ∷ bs) ++ cs)) ps
text_before (b ∷ bs) (along (element f qs) ps) = along (text (b ∷ bs)) (along (element f qs) ps)

-- a node by what its kind shows, before what follows it
abbrev pub shown_before : Showing → Label → (Plains → Plains) → Plains → Plains
shown_before Characters l held rest = text_before l.shown rest
shown_before Inside l held rest = held rest
shown_before Nothing l held rest = rest
shown_before Element l held rest = along (element (face l) (held ended)) rest

-- Texts and entities by their characters, a nowiki and a group by what they hold, separators, marks
-- and skips by nothing, and any other node by an element; neighbouring texts are joined.
abbrev mutual
  pub plain_before : Tree → Plains → Plains
  plain_before (tree l ts) rest = shown_before (showing l.kind) l (λ ps. plains_before ts ps) rest

  pub plains_before : Trees → Plains → Plains
  plains_before none rest = rest
  plains_before (more t ts) rest = plain_before t (plains_before ts rest)

abbrev pub plain : Tree → Plains
plain t = plain_before t ended

-- The same joining of a list that may have empty and neighbouring texts, at every level.
abbrev mutual
  pub joined : Plains → Plains
  joined ended = ended
  joined (along p ps) = joined_before p (joined ps)

  pub joined_before : Plain → Plains → Plains
  joined_before (text bs) ps = text_before bs ps
  joined_before (element f qs) ps = along (element f (joined qs)) ps
