-- What calls give among what is the page's own, whatever it is: what one call gives side by side is one group.
use Rattle.std.specs.Prelude.{◌≡◌, ◌⊎◌, ℕ, ◌==◌, Bool, true, false, Option, Some, None, List, [], ◌∷◌, if◌then◌else◌, slice_get}
use Rattle.std.specs.List.{list_all, list_any}
use Rattle.wt_tree.specs.declared.row.Texts.{Texts}
use Rattle.wt_tree.specs.declared.row.Texts.TheVariants.{Separators, Page, Bordered, OwnCharacter}
use Rattle.wt_tree.specs.Kinds.{is_leaf, texts_of_kind}
use Rattle.wt_tree.specs.Tree.{Tree, tree, Trees, none, more}
use Rattle.wt_span.specs.Items.{Item, call_of}
use Rattle.wt_span.specs.Origins.{OuterCall}
use Rattle.wt_span.specs.Cuts.{source_of_call}
use Rattle.wt_inline.specs.ItemTree.{ItemTree, inner, ItemTrees, nothing, further, forest, tree_items}
use Rattle.wt_inline.specs.Parts.{Part, loose, node}
use Rattle.wt_annotated.specs.Annotated.{group_label, all_unplaced}
use Rattle.wt_annotated.specs.Clean.{is_body, is_page}
use Rattle.wt_annotated.specs.GroupData.{group_data}
use Rattle.wt_annotated.specs.GroupParts.{called}
use Rattle.wt_annotated.specs.Seams.{first_of}
use Rattle.wt_annotated.specs.Walked.{walked}
use Rattle.wt_part_laws.specs.Placeless.{placeless}
use Rattle.wt_part_laws.specs.Rounded.{IsOwn}

-- ---- nodes that a call gives

abbrev pub AreItemsOf : ℕ → List Item → Type 0
AreItemsOf j [] = Unit {0}
AreItemsOf j (x ∷ xs) = (call_of x ≡ Some j) × AreItemsOf j xs

abbrev pub IsNoBody : ItemTree → Type 0
IsNoBody (inner h opening ts closing) = is_body h.kind ≡ false

-- texts are cut anew in such a node: it is an item, a term, a cell or a caption
abbrev pub is_cut_anew : Texts → Bool
is_cut_anew Separators = false
is_cut_anew Page = false
is_cut_anew Bordered = true
is_cut_anew OwnCharacter = false

-- no text in it is
abbrev mutual
  pub IsUncut : ItemTree → Type 0
  IsUncut (inner h opening ts closing) = (is_cut_anew (texts_of_kind h.kind) ≡ false) × AreUncut ts

  pub AreUncut : ItemTrees → Type 0
  AreUncut nothing = Unit {0}
  AreUncut (further t ts) = IsUncut t × AreUncut ts

-- It has items, all of this call: a text, a link, a style with what is in it, or the mark of a call that gives nothing.
pub record IsOfCall (j : ℕ) (t : ItemTree) : Type 0 where
  pub first : Item
  pub others : List Item
  pub is : tree_items t ≡ first ∷ others
  pub of_call : AreItemsOf j (first ∷ others)
  pub no_body : IsNoBody t
  pub uncut : IsUncut t

abbrev pub AreOfCall : ℕ → List ItemTree → Type 0
AreOfCall j [] = Unit {0}
AreOfCall j (t ∷ ts) = IsOfCall j t × AreOfCall j ts

-- the page's, or a call's
abbrev pub IsOwnOrGiven : ItemTree → Type 0
IsOwnOrGiven t = IsOwn t ⊎ ((j : ℕ) × IsOfCall j t)

-- a node of the page round whatever calls give: it is no leaf, and its delimiters are the page's own
abbrev pub IsRoundNode : ItemTree → Type 0
IsRoundNode (inner h opening ts closing) =
    (is_leaf h.kind ≡ false) × (list_all is_page opening ≡ true) × (list_any is_page opening ≡ true) × (list_all is_page closing ≡ true)
    × (list_any is_page closing ≡ true)

abbrev pub IsPieceNode : ItemTree → Type 0
IsPieceNode t = IsOwnOrGiven t ⊎ IsRoundNode t

-- characters of any origin, and nodes that are such
abbrev pub EachNode : (ItemTree → Type 0) → List Part → Type 0
EachNode P [] = Unit {0}
EachNode P (loose k o b ∷ ps) = EachNode P ps
EachNode P (node t ∷ ps) = P t × EachNode P ps

abbrev pub ArePieceNodes : List Part → Type 0
ArePieceNodes ps = EachNode IsPieceNode ps

-- of which none is round others
abbrev pub AreOwnOrGiven : List Part → Type 0
AreOwnOrGiven [] = Unit {0}
AreOwnOrGiven (loose k o b ∷ ps) = AreOwnOrGiven ps
AreOwnOrGiven (node t ∷ ps) = IsOwnOrGiven t × AreOwnOrGiven ps

-- ---- side by side

-- a node of the page, whatever is in it; or what one call gives, a node at least
pub data CallPiece : Type 0 where
  own : ItemTree → CallPiece
  given : ℕ → ItemTree → List ItemTree → CallPiece

-- with a node of this call before them
abbrev pub given_before : ℕ → ItemTree → List CallPiece → List CallPiece
given_before j t [] = given j t [] ∷ []
given_before j t (own u ∷ ps) = given j t [] ∷ own u ∷ ps
given_before j t (given k u us ∷ ps) = if j == k then given j t (u ∷ us) ∷ ps else given j t [] ∷ given k u us ∷ ps

abbrev pub piece_before : Option ℕ → ItemTree → List CallPiece → List CallPiece
piece_before None t ps = own t ∷ ps
piece_before (Some j) t ps = given_before j t ps

-- by the call of each node's first item
abbrev pub call_pieces : List ItemTree → List CallPiece
call_pieces [] = []
call_pieces (t ∷ ts) = piece_before (first_of (tree_items t) None) t (call_pieces ts)

-- ---- what they are in the page's tree, but for numbers and places

-- the group of this call, with these nodes
abbrev pub group_of_call : List OuterCall → ℕ → ItemTrees → Tree
group_of_call calls j ts =
    placeless (tree (group_label 0 (source_of_call (slice_get calls j)) (group_data calls (called j ∷ []))) (all_unplaced ts))

-- a node of the page, with the groups of the calls in it
abbrev pub node_in : List OuterCall → ItemTree → Tree
node_in calls t = placeless (walked calls (group_data calls) None 0 None t)

abbrev pub piece_in_page : List OuterCall → CallPiece → Tree
piece_in_page calls (own t) = node_in calls t
piece_in_page calls (given j t ts) = group_of_call calls j (further t (forest ts))

abbrev pub pieces_in_page : List OuterCall → List CallPiece → Trees
pieces_in_page calls [] = none
pieces_in_page calls (p ∷ ps) = more (piece_in_page calls p) (pieces_in_page calls ps)
