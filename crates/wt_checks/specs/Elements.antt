-- The elements that are written for what a group shows, and those that are read in it.
use Rattle.std.specs.Prelude.{None, List, [], ◌∷◌, ◌++◌, map}
use Rattle.wt_tree.specs.declared.row.Writing.{Writing}
use Rattle.wt_tree.specs.declared.row.Writing.TheVariants.{AsText, AsVoid, RoundCharacter, RoundChildren, AsSection, Unwritten}
use Rattle.wt_tree.specs.declared.kind.Showing.{Showing}
use Rattle.wt_tree.specs.declared.kind.Showing.TheVariants.{Characters, Inside, Nothing, Element}
use Rattle.wt_tree.specs.Elements.{as_elements, or_empty_span}
use Rattle.wt_tree.specs.Kinds.{showing, writing}
use Rattle.wt_tree.specs.Plain.{Face, face, Plain, text, element, Plains, ended, along, plains_before}
use Rattle.wt_tree.specs.Stream.{opens, closes, StreamToken, byte, bracket}
use Rattle.wt_tree.specs.Tree.{Label, Tree, tree, Trees, none, more}

-- ---- as they are written

-- inside a group an extension has no data
abbrev pub without_data : Face → Face
without_data f = record f { mw = None }

abbrev mutual
  pub bare : Plain → Plain
  bare (text bs) = text bs
  bare (element f qs) = element (without_data f) (all_bare qs)

  pub all_bare : Plains → Plains
  all_bare ended = ended
  all_bare (along p ps) = along (bare p) (all_bare ps)

-- the elements that are written for a group that holds these nodes: their plain view
abbrev pub written_for : Trees → Plains
written_for ts = or_empty_span (as_elements (all_bare (plains_before ts ended)))

-- ---- as they are read

-- An element of a group that was read, as it is: its texts, and the elements in it; what is a
-- separator there doesn't count, a mark does.
abbrev pub read_by : Writing → Showing → Label → Plains → Plains → Plains
read_by AsText Characters l held rest = along (text l.shown) rest
read_by AsText Inside l held rest = rest
read_by AsText Nothing l held rest = rest
read_by AsText Element l held rest = rest
read_by AsVoid s l held rest = along (element (face l) held) rest
read_by RoundCharacter s l held rest = along (element (face l) (along (text l.shown) held)) rest
read_by RoundChildren s l held rest = along (element (face l) held) rest
read_by (AsSection n) s l held rest = along (element (face l) held) rest
read_by Unwritten s l held rest = along (element (face l) held) rest

abbrev mutual
  pub read_before : Tree → Plains → Plains
  read_before (tree l ts) rest = read_by (writing l.kind) (showing l.kind) l (all_read ts) rest

  pub all_read : Trees → Plains
  all_read none = ended
  all_read (more t ts) = read_before t (all_read ts)

-- ---- from left to right

-- the characters of elements, and where elements open and close among them
abbrev mutual
  pub signs_in : Plains → List StreamToken
  signs_in ended = []
  signs_in (along p ps) = signs_of p ++ signs_in ps

  pub signs_of : Plain → List StreamToken
  signs_of (text bs) = map byte bs
  signs_of (element f qs) = bracket (opens f) ∷ (signs_in qs ++ (bracket closes ∷ []))
