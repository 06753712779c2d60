-- What the code gathers of the elements of a group.
use Rattle.std.specs.Prelude.{ℕ, Bool, true, false, List, [], ◌∷◌, ◌++◌, map, if◌then◌else◌}
use Rattle.wt_tree.specs.declared.kind.Showing.{Showing}
use Rattle.wt_tree.specs.declared.kind.Showing.TheVariants.{Characters, Inside, Nothing, Element}
use Rattle.wt_tree.specs.declared.node.Node.{out-Node}
use Rattle.wt_tree.specs.declared.row.Writing.{Writing}
use Rattle.wt_tree.specs.declared.row.Writing.TheVariants.{AsText, AsVoid, RoundCharacter, RoundChildren, AsSection, Unwritten}
use Rattle.wt_tree.specs.Kinds.{showing, writing}
use Rattle.wt_checks.specs.Unmarked.{own_character}
use Rattle.wt_tree.specs.Plain.{face}
use Rattle.wt_tree.specs.Stream.{Bracket, opens, closes, StreamToken, byte, bracket, signs_by, signs_of_all}
use Rattle.wt_tree.specs.Tree.{Label, Tree, tree, Trees, none, more}
use Rattle.wt_tree.specs.View.{label_of}
use Rattle.wt_checks.specs.declared.written.Written.{Written}
use Rattle.wt_checks.specs.declared.written.Written.TheVariants as written
use Rattle.wt_checks.specs.declared.read.Read.{Read}
use Rattle.wt_checks.specs.declared.read.Read.TheVariants as read
use Rattle.wt_checks.specs.Elements.{without_data}
use Rattle.wt_tree.specs.Elements.{span}

abbrev pub written_sign : Written → StreamToken
written_sign (written.Byte b) = byte b
written_sign (written.Element n) = bracket (opens (without_data (face (label_of (out-Node n.now)))))
written_sign written.Span = bracket (opens span)
written_sign written.Close = bracket closes

abbrev pub written_signs : List Written → List StreamToken
written_signs ts = map written_sign ts

abbrev pub read_sign : Read → StreamToken
read_sign (read.Byte b) = byte b
read_sign (read.Element n) = bracket (opens (face (label_of (out-Node n.now))))
read_sign read.Close = bracket closes

abbrev pub read_signs : List Read → List StreamToken
read_signs ts = map read_sign ts

-- without the data of extensions
abbrev pub bare_bracket : Bracket → Bracket
bare_bracket (opens f) = opens (without_data f)
bare_bracket closes = closes

abbrev pub bare_sign : StreamToken → StreamToken
bare_sign (byte b) = byte b
bare_sign (bracket k) = bracket (bare_bracket k)

abbrev pub all_bare_signs : List StreamToken → List StreamToken
all_bare_signs ss = map bare_sign ss

-- ---- the texts at the top in a `span` each; the Boolean says whether one is open

abbrev pub open_span : Bool → List StreamToken
open_span true = []
open_span false = bracket (opens span) ∷ []

abbrev pub close_span : Bool → List StreamToken
close_span true = bracket closes ∷ []
close_span false = []

abbrev pub text_in_span : Bool → List ℕ → List StreamToken
text_in_span within [] = []
text_in_span within (b ∷ bs) = open_span within ++ map byte (b ∷ bs)

abbrev pub open_after : Bool → List ℕ → Bool
open_after within [] = within
open_after within (b ∷ bs) = true

abbrev pub top_by : Showing → Bool → Label → List StreamToken → List StreamToken → List StreamToken
top_by Characters within l held at_top = text_in_span within l.shown
top_by Inside within l held at_top = at_top
top_by Nothing within l held at_top = []
top_by Element within l held at_top = close_span within ++ all_bare_signs (signs_by Element l held)

abbrev pub open_by : Showing → Bool → Label → Bool → Bool
open_by Characters within l held = open_after within l.shown
open_by Inside within l held = held
open_by Nothing within l held = within
open_by Element within l held = false

abbrev mutual
  pub top_open : Bool → Tree → Bool
  top_open within (tree l ts) = open_by (showing l.kind) within l (all_top_open within ts)

  pub all_top_open : Bool → Trees → Bool
  all_top_open within none = within
  all_top_open within (more t ts) = all_top_open (top_open within t) ts

abbrev mutual
  pub top_signs : Bool → Tree → List StreamToken
  top_signs within (tree l ts) = top_by (showing l.kind) within l (signs_of_all ts) (all_top_signs within ts)

  pub all_top_signs : Bool → Trees → List StreamToken
  all_top_signs within none = []
  all_top_signs within (more t ts) = top_signs within t ++ all_top_signs (top_open within t) ts

-- with nothing shown an empty `span`
abbrev pub span_if_none : List StreamToken → List StreamToken
span_if_none [] = bracket (opens span) ∷ bracket closes ∷ []
span_if_none (s ∷ ss) = s ∷ ss

-- ---- what was read, one node at a time

abbrev pub is_text : Writing → Bool
is_text AsText = true
is_text AsVoid = false
is_text RoundCharacter = false
is_text RoundChildren = false
is_text (AsSection n) = false
is_text Unwritten = false

abbrev pub shows_characters : Showing → Bool
shows_characters Characters = true
shows_characters Inside = false
shows_characters Nothing = false
shows_characters Element = false

abbrev pub leaf_signs : Showing → List ℕ → List StreamToken
leaf_signs s bs = if shows_characters s then map byte bs else []

abbrev pub element_signs : Label → List StreamToken → List StreamToken
element_signs l held = bracket (opens (face l)) ∷ ((map byte (own_character (writing l.kind) l.shown) ++ held) ++ (bracket closes ∷ []))
