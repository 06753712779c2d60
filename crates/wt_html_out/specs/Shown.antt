-- What a group shows, as it is written node after node, without its plain view.
use Rattle.std.specs.Prelude.{ℕ, List, [], ◌∷◌, ◌++◌, Bool, true, false, codes}
use Rattle.wt_tree.specs.declared.kind.Showing.{Showing}
use Rattle.wt_tree.specs.declared.kind.Showing.TheVariants.{Characters, Inside, Nothing, Element}
use Rattle.wt_tree.specs.Kinds.{showing, writing, fixed_attributes}
use Rattle.wt_tree.specs.Tree.{Label, Tree, tree, Trees, none, more}
use Rattle.wt_schema.specs.Escapes.{escaped}
use Rattle.wt_schema.specs.Html.{attributes, tag_of, end_tag_of, element_by, face_attributes, group_attributes, group_element}
use Rattle.wt_tree.specs.Elements.{span}
use Rattle.wt_html_out.specs.declared.groups.Progress.{Progress}
use Rattle.wt_html_out.specs.declared.groups.Progress.TheVariants as at

-- ---- inside an element of a group

abbrev pub shown_by : Showing → Label → List ℕ → List ℕ
shown_by Characters l inside = escaped l.shown
shown_by Inside l inside = inside
shown_by Nothing l inside = []
shown_by Element l inside = element_by (writing l.kind) l.kind (attributes (fixed_attributes l.kind ++ l.attrs)) inside

abbrev mutual
  pub shown_html : Tree → List ℕ
  shown_html (tree l ts) = shown_by (showing l.kind) l (shown_html_of_all ts)

  pub shown_html_of_all : Trees → List ℕ
  shown_html_of_all none = []
  shown_html_of_all (more t ts) = shown_html t ++ shown_html_of_all ts

-- ---- at its top: where the writer is, at the start, in the element of a text or after an element

abbrev pub is_start : Progress → Bool
is_start at.Start = true
is_start at.InText = false
is_start at.Behind = false

-- the start of a text's element, where none is open
unfoldable pub span_start : Bool → ℕ → Label → List ℕ
span_start first k g = tag_of span.kind (group_attributes first k g (face_attributes span)) (codes ">")

abbrev pub text_start : Progress → ℕ → Label → List ℕ
text_start at.Start k g = span_start true k g
text_start at.InText k g = []
text_start at.Behind k g = span_start false k g

-- the end of a text's element, where one is open
unfoldable pub span_end : List ℕ
span_end = end_tag_of span.kind

abbrev pub text_end : Progress → List ℕ
text_end at.Start = []
text_end at.InText = span_end
text_end at.Behind = []

-- what is written at the end of a group: where it shows nothing, an empty element
abbrev pub ending : Progress → ℕ → Label → List ℕ
ending at.Start k g = span_start true k g ++ span_end
ending at.InText k g = span_end
ending at.Behind k g = []

abbrev pub text_part : Progress → ℕ → Label → List ℕ → List ℕ
text_part p k g [] = []
text_part p k g (b ∷ bs) = text_start p k g ++ escaped (b ∷ bs)

abbrev pub after_text : Progress → List ℕ → Progress
after_text p [] = p
after_text p (b ∷ bs) = at.InText

abbrev pub part_by : Showing → Progress → ℕ → Label → Label → List ℕ → List ℕ → List ℕ
part_by Characters p k g l parts inside = text_part p k g l.shown
part_by Inside p k g l parts inside = parts
part_by Nothing p k g l parts inside = []
part_by Element p k g l parts inside = text_end p ++ group_element (is_start p) k g l.kind (fixed_attributes l.kind ++ l.attrs) inside

abbrev pub after_by : Showing → Progress → Label → Progress → Progress
after_by Characters p l within = after_text p l.shown
after_by Inside p l within = within
after_by Nothing p l within = p
after_by Element p l within = at.Behind

abbrev mutual
  pub after : Progress → Tree → Progress
  after p (tree l ts) = after_by (showing l.kind) p l (after_all p ts)

  pub after_all : Progress → Trees → Progress
  after_all p none = p
  after_all p (more t ts) = after_all (after p t) ts

-- in group k, which has the label g
abbrev mutual
  pub part : Progress → ℕ → Label → Tree → List ℕ
  part p k g (tree l ts) = part_by (showing l.kind) p k g l (parts p k g ts) (shown_html_of_all ts)

  pub parts : Progress → ℕ → Label → Trees → List ℕ
  parts p k g none = []
  parts p k g (more t ts) = part p k g t ++ parts (after p t) k g ts
