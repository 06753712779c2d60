-- Contents that can be read by themselves, with the calls in them: what these give may be a group, and no node ends in an open tag.
use Rattle.std.specs.Prelude.{◌≡◌, ◌⊎◌, ℕ, zero, suc, Bool, true, false, None, Some, List, [], ◌∷◌, if◌then◌else◌}
use Rattle.std.specs.List.{list_all}
use Rattle.wt_tree.specs.Tiling.{HasNoGroup}
use Rattle.wt_guards.specs.Content.{ContentSign, Thing, letter, thing, is_group}
use Rattle.wt_span.specs.Items.{Item, call_of}
use Rattle.wt_span.specs.Origins.{OuterCall, same_call}
use Rattle.wt_inline.specs.declared.loose.Loose.TheVariants.{Text, Sep}
use Rattle.wt_inline.specs.ItemTree.{ItemTree, tree_items}
use Rattle.wt_inline.specs.Parts.{Part, loose, node, children}
use Rattle.wt_context.specs.Line.{line_parts}
use Rattle.wt_annotated.specs.Clean.{is_page}
use Rattle.wt_annotated.specs.Seams.{text_from}
use Rattle.wt_isolation.specs.OpenTags.{ends_open, node_ends_open}
use Rattle.wt_expand.specs.PageCalls.{expanded_page}
use Rattle.wt_expand.specs.Work.{Pages}
use Rattle.wt_part_laws.specs.CallPieces.{IsOwnOrGiven, IsRoundNode, EachNode, CallPiece, own, given, call_pieces}
use Rattle.wt_part_laws.specs.Expanded.{part_items}
use Rattle.wt_part_laws.specs.Standing.{standing}
use Rattle.wt_text_edit_laws.specs.BlockSpots.{BlockSpot}
use Rattle.wt_text_edit_laws.specs.Contents.{IsContent, content_parts_of}
use Rattle.wt_text_edit_laws.specs.NoCalls.{CallsNothing}
use Rattle.wt_text_edit_laws.specs.TextBlocks.{TextBlock, source_of, block_items}
use Rattle.wt_beside_laws.specs.Given.{GivesSigns}
use Rattle.wt_beside_laws.specs.Nests.{style_tree}
use Rattle.wt_beside_laws.specs.NodeItems.{node_items}
use Rattle.wt_beside_laws.specs.RoundCalls.{IsUnstyled, AreShutCalls}
use Rattle.wt_called_edit_laws.specs.PartTexts.{AreSourcesAt}

-- ---- what a call gives

-- the items of this call
abbrev pub of_call : ℕ → List Item → List Item
of_call j [] = []
of_call j (x ∷ xs) = if same_call (call_of x) (Some j) then x ∷ of_call j xs else of_call j xs

-- what each call gives side by side may be a group, and is what its items are on a line by themselves
abbrev pub AreGroups : List Item → List CallPiece → Type 0
AreGroups xs [] = Unit {0}
AreGroups xs (own t ∷ ps) = AreGroups xs ps
AreGroups xs (given j t ts ∷ ps) = GivesSigns j (of_call j xs) × (t ∷ ts ≡ children (line_parts (of_call j xs))) × AreGroups xs ps

-- ---- open tags

-- a node of the page doesn't end in one, and has no group
abbrev pub IsShutNode : ItemTree → Type 0
IsShutNode t = list_all is_page (tree_items t) ≡ true → (node_ends_open (standing 0 [] t) ≡ false) × HasNoGroup (standing 0 [] t)

-- so of characters of texts and nodes
abbrev pub AreShutParts : List Part → Type 0
AreShutParts [] = Unit {0}
AreShutParts (loose Text o b ∷ ps) = AreShutParts ps
AreShutParts (loose Sep o b ∷ ps) = ⊥
AreShutParts (node t ∷ ps) = IsShutNode t × AreShutParts ps

-- nor does the source of a node that stays, nor what it is on a line
abbrev pub IsShut : Thing → Type 0
IsShut t = (ends_open t.source ≡ false) × (is_group t.role ≡ false → AreShutParts (line_parts (node_items t.source)))

abbrev pub AreShut : List ContentSign → Type 0
AreShut [] = Unit {0}
AreShut (letter c ∷ after) = AreShut after
AreShut (thing t ∷ after) = IsShut t × AreShut after

-- ---- what calls give in bold and italic

-- A node of the page round whatever calls give, neither bold nor italic. With these calls it ends in no open tag.
pub record IsShutRound (calls : List OuterCall) (t : ItemTree) : Type 0 where
  pub round : IsRoundNode t
  pub plain : IsUnstyled t
  pub shut : ends_open (text_from calls None (tree_items t)) ≡ false

-- a node of the page, or of a call, or of the page round calls
abbrev pub IsAnyNode : List OuterCall → ItemTree → Type 0
IsAnyNode calls t = IsOwnOrGiven t ⊎ IsShutRound calls t

-- Such a node; or bold or italic of the page round such, to this depth, where what each call gives side by side is a group, and no node of the page ends in
-- an open tag.
abbrev pub IsPartIn : ℕ → List OuterCall → List Item → ItemTree → Type 0
IsPartIn zero calls xs t = IsAnyNode calls t
IsPartIn (suc n) calls xs t =
    IsAnyNode calls t
    ⊎ ((bold : Bool) × (ps : List Part) × (t ≡ style_tree bold ps) × EachNode (IsPartIn n calls xs) ps × AreGroups xs (call_pieces (children ps)) × AreShutParts ps)

-- two deep, as bold in italic
abbrev pub ArePartsIn : List OuterCall → List Item → List Part → Type 0
ArePartsIn calls xs ps = EachNode (IsPartIn 2 calls xs) ps

-- ---- a content in a folder

-- Text and nodes of the page, side by side with calls that give what may be a group, and bold and italic round these. The calls of the page are any among
-- which its own are.
pub record HoldsGroups (pages : Pages) (k : TextBlock) (q : List ℕ) : Type 0 where
  pub parts : (calls : List OuterCall) (i : ℕ) → AreSourcesAt calls i (expanded_page pages (source_of k q)).outer
      → ArePartsIn calls (part_items pages i q) (content_parts_of k (part_items pages i q))
  pub groups : (i : ℕ) → AreGroups (part_items pages i q) (call_pieces (children (content_parts_of k (part_items pages i q))))
  pub shut : (i : ℕ) → AreShutParts (content_parts_of k (part_items pages i q))
  pub shut_calls : AreShutCalls (expanded_page pages (source_of k q)).outer

-- so is one that calls nothing
abbrev pub IsWholeIn : Pages → TextBlock → List ℕ → Type 0
IsWholeIn pages k q = (IsContent k q × CallsNothing (block_items k q)) ⊎ HoldsGroups pages k q

abbrev pub EachWhole : Pages → List BlockSpot → Type 0
EachWhole pages [] = Unit {0}
EachWhole pages (s ∷ ss) = IsWholeIn pages s.block s.text × EachWhole pages ss
