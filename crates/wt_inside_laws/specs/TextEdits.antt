-- A text edit: in paragraphs and headings somebody typed other texts between elements that nobody touched. It is never to be refused.
use Rattle.std.specs.Prelude.{◌≡◌, ◌⊎◌, ◌≤◌, ◌==◌, ◌&&◌, ℕ, Bool, true, false, Option, Some, None, List, [], ◌∷◌, length, nat_eq, count_by, zip}
use Rattle.std.specs.List.{AllByRecursion, ends_with}
use Rattle.wt_span.specs.Origins.{Expanded}
use Rattle.wt_span.specs.Characters as byte
use Rattle.wt_tree.specs.Tree.{Tree, tree, Trees, none, more, label}
use Rattle.wt_tree.specs.Plain.{face}
use Rattle.wt_tree.specs.Tiling.{is_group, numbers}
use Rattle.wt_guards.specs.declared.role.Role.{Role}
use Rattle.wt_guards.specs.declared.role.Role.TheVariants as role
use Rattle.wt_guards.specs.Content.{ends_line}
use Rattle.wt_tree.specs.declared.edit_shape.BlockForm.{BlockForm}
use Rattle.wt_tree.specs.declared.edit_shape.BlockForm.TheVariants as block
use Rattle.wt_tree.specs.EditShapes.{edit_shape}
use Rattle.wt_original.specs.Kept.{Kept, kept_nodes, kept_with}
use Rattle.wt_original.specs.Page.{Page, page_of, is_unchanged}
use Rattle.wt_link_spelling.specs.Spelling.{children_of}
use Rattle.wt_checks.specs.Checked.{checked}
use Rattle.wt_content.specs.Content.{has_break}
use Rattle.wt_slices.specs.Changes.{Pair, marked, AllStay}
use Rattle.wt_slices.specs.BodySlices.{slices}
use Rattle.wt_selser.specs.Edits.{is_tangled, most_bytes}
use Rattle.wt_splice.specs.Splice.{spliced}
use Rattle.wt_text_edit_laws.specs.Unclosed.{holds_unclosed}
use Rattle.wt_inside_laws.specs.Contents.{Border, element, bold, italic, end, borders, elements, styles, Slot, slots}

-- ---- a text

-- the page's element at a border
abbrev pub element_at : List Kept → Option Border → Option Kept
element_at ks None = None
element_at ks (Some (element n)) = kept_with n ks
element_at ks (Some (bold n)) = None
element_at ks (Some (italic n)) = None
element_at ks (Some end) = None

-- the text comes directly before a mark that ends a line
abbrev pub is_line_mark : Option Kept → Bool
is_line_mark None = false
is_line_mark (Some k) = ends_line k.role

-- a group that is between two `=` of the page
abbrev pub is_between_equals : Role → Bool
is_between_equals role.Link = false
is_between_equals role.External = false
is_between_equals (role.Bare ends) = false
is_between_equals role.Switch = false
is_between_equals role.Toggle = false
is_between_equals (role.Mark ends began) = false
is_between_equals (role.Group g) = g.between_equals
is_between_equals role.Function = false
is_between_equals role.Node = false

-- two groups that are next to each other in the page, and the visible items nearest to the place between them are both `=`
abbrev pub are_tied : Option Kept → Option Kept → Bool
are_tied None right = false
are_tied (Some k) None = false
are_tied (Some k) (Some j) = is_group (label k.node).kind && (is_group (label j.node).kind && (k.place.end == j.place.start && is_between_equals j.role))

abbrev pub ends_in_break : List ℕ → Bool
ends_in_break text = ends_with nat_eq text (byte.line_break ∷ [])

abbrev pub breaks_of : List ℕ → ℕ
breaks_of text = count_by (λ b. b == byte.line_break) text

-- What was typed in place of a text of the page: with as many line breaks; before a mark that ends a line it ends with a line break
-- where the old text did, and is empty where that was; and between two groups that `=` tie it stays empty.
pub record IsTyped (ks : List Kept) (old new : Slot) : Type 0 where
  pub breaks : breaks_of new.text ≡ breaks_of old.text
  pub stays_empty : is_line_mark (element_at ks old.right) ≡ true → old.text ≡ [] → new.text ≡ []
  pub stays_ended : is_line_mark (element_at ks old.right) ≡ true → ends_in_break old.text ≡ true → ends_in_break new.text ≡ true
  pub stays_tied : are_tied (element_at ks old.left) (element_at ks old.right) ≡ true → new.text ≡ []

-- the page's text, or what was typed in place of it
abbrev pub IsRetypedText : List Kept → Slot × Slot → Type 0
IsRetypedText ks (old, new) = (new.text ≡ old.text) ⊎ IsTyped ks old new

-- ---- a block

-- paragraphs and headings
abbrev pub takes_text : BlockForm → Bool
takes_text block.Paragraph = true
takes_text (block.Heading n) = true
takes_text block.Rule = false
takes_text block.Item = false
takes_text block.NoBlock = false

abbrev pub IsOneLine : BlockForm → List Slot → Type 0
IsOneLine block.Paragraph ss = Unit {0}
IsOneLine (block.Heading n) ss = AllByRecursion (λ s. has_break s.text ≡ false) ss
IsOneLine block.Rule ss = Unit {0}
IsOneLine block.Item ss = Unit {0}
IsOneLine block.NoBlock ss = Unit {0}

-- a group of the block
abbrev pub IsGroupThere : Option Kept → Type 0
IsGroupThere None = ⊥
IsGroupThere (Some k) = is_group (label k.node).kind ≡ true

-- of a node, whether it is a group
abbrev pub OwnBy : Bool → Option Kept → Type 0 → Type 0
OwnBy true there inside = IsGroupThere there
OwnBy false there inside = inside

-- each group stands for the block's group with its number, and for no other node
abbrev mutual
  pub HasOwnGroups : List Kept → Tree → Type 0
  HasOwnGroups ks (tree l ts) = OwnBy (is_group l.kind) (kept_with l.id ks) (HaveOwnGroups ks ts)

  pub HaveOwnGroups : List Kept → Trees → Type 0
  HaveOwnGroups ks none = Unit {0}
  HaveOwnGroups ks (more t ts) = HasOwnGroups ks t × HaveOwnGroups ks ts

-- The page's element with its number: of its kind, unchanged, and with the same elements in it. A group, it or one in it, is the page's.
pub record IsUntouched (page : Page) (t : Tree) : Type 0 where
  pub kept : Kept
  pub found : kept_with (label t).id page.kept ≡ Some kept
  pub kind : (label t).kind ≡ (label kept.node).kind
  pub unchanged : is_unchanged page kept t ≡ true
  pub inside : numbers t ≡ numbers kept.node
  pub groups : HasOwnGroups page.kept t

-- the page's bold or italic node with its number: with its attributes and data, whatever is in it
pub record IsSameStyle (ks : List Kept) (t : Tree) : Type 0 where
  pub kept : Kept
  pub found : kept_with (label t).id ks ≡ Some kept
  pub alike : face (label t) ≡ face (label kept.node)

-- A paragraph or heading of the page that isn't tangled and holds no unclosed mark, and what it was edited to: its elements are
-- untouched and in their order, bold and italic are the page's but for what is in them, and each text between them is the page's or was typed.
pub record IsRetyped (same : Tree → Tree → Bool) (items : Expanded) (page : List ℕ) (p : Pair) : Type 0 where
  pub block : takes_text (edit_shape (label p.old).kind).form ≡ true
  pub untangled : is_tangled items page p.old ≡ false
  pub closed : holds_unclosed items.items page (label p.old).ranges ≡ false
  pub in_order : borders (children_of p.new) ≡ borders (children_of p.old)
  pub untouched : AllByRecursion (IsUntouched (page_of same p.old)) (elements (children_of p.new))
  pub styled : AllByRecursion (IsSameStyle (kept_nodes p.old)) (styles (children_of p.new))
  pub texts : AllByRecursion (IsRetypedText (kept_nodes p.old)) (zip (slots (children_of p.old)) (slots (children_of p.new)))
  pub one_line : IsOneLine (edit_shape (label p.old).kind).form (slots (children_of p.new))

-- ---- a page

-- The edit of a page with these items and this tree passes all checks of marks and numbers, no blocks come or go, each marked block
-- was retyped, and the new page isn't too long.
pub record IsTextEdit (same : Tree → Tree → Bool) (items : Expanded) (page : List ℕ) (t edited : Tree) : Type 0 where
  pub checks : checked false t edited ≡ None
  pub stays : AllStay edited
  pub blocks : AllByRecursion (IsRetyped same items page) (marked t edited)
  pub room : length (spliced page (slices same t edited)) ≤ most_bytes
