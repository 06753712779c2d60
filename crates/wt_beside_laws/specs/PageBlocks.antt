-- A paragraph or a heading of the page by its lines.
use Rattle.std.specs.Prelude.{◌≡◌, ℕ, ◌<◌, false, nat_eq, Option, Some, None, List, [], ◌∷◌, length}
use Rattle.std.specs.List.{ends_with}
use Rattle.wt_span.specs.Characters as byte
use Rattle.wt_span.specs.Items.{Item}
use Rattle.wt_tree.specs.Tiling.{HasNoGroup}
use Rattle.wt_tree.specs.EditShapes.{edit_shape}
use Rattle.wt_tree.specs.Tree.{Tree, Trees, none, more, label}
use Rattle.wt_isolation.specs.OpenTags.{ends_open}
use Rattle.wt_guards.specs.declared.role.Role.{Role}
use Rattle.wt_guards.specs.declared.role.Role.TheVariants.{Link, External, Bare, Switch, Toggle, Mark, Group, Function, Node}
use Rattle.wt_guards.specs.declared.role.Stretch.{Stretch}
use Rattle.wt_guards.specs.Content.{ContentSign, Thing, letter, thing}
use Rattle.wt_tiles.specs.Contexts.{in_line}
use Rattle.wt_inline.specs.ItemTree.{plain, inner, forest}
use Rattle.wt_inline.specs.Parts.{children}
use Rattle.wt_context.specs.Line.{context_parts}
use Rattle.wt_context.specs.Nodes.{segments}
use Rattle.wt_context.specs.RunCuts.{has_run}
use Rattle.wt_part_laws.specs.Standing.{standing}
use Rattle.wt_original.specs.declared.block.Extent.{Extent}
use Rattle.wt_original.specs.Kept.{began_line}
use Rattle.wt_original.specs.Page.{Page}
use Rattle.wt_typed_blocks.specs.Sent.{Block, kind_of}
use Rattle.wt_text_edit_laws.specs.ParagraphParts.{joined_parts}
use Rattle.wt_beside_laws.specs.PageSigns.{signs_of_lines}
use Rattle.wt_beside_laws.specs.SentPieces.{IsNodeForm, ShowsItsSource}
use Rattle.wt_beside_laws.specs.Stood.{things}

-- In no line two apostrophes are side by side, except in its forms: so no style begins there.
abbrev pub AreUnstyled : List (List Item) → Type 0
AreUnstyled [] = Unit {0}
AreUnstyled (l ∷ ls) = (has_run (segments context_parts in_line l) ≡ false) × AreUnstyled ls

-- no source of a node ends in a tag that nothing ends
abbrev pub AreShut : List ContentSign → Type 0
AreShut [] = Unit {0}
AreShut (letter c ∷ after) = AreShut after
AreShut (thing t ∷ after) = (ends_open t.source ≡ false) × AreShut after

-- each node of the page shows what its source shows by itself
abbrev pub ShowSources : Page → Trees → Type 0
ShowSources p none = Unit {0}
ShowSources p (more t us) = (IsNodeForm (edit_shape (label t).kind).inline → ShowsItsSource p t) × ShowSources p us

-- What a mark's role says of it is so in its block, where so many bytes come before it: whether a line break ends its source, and whether it began its
-- line.
abbrev pub IsRoleAt : Role → Tree → ℕ → List ℕ → Type 0
IsRoleAt Link block at source = Unit {0}
IsRoleAt External block at source = Unit {0}
IsRoleAt (Bare ends) block at source = Unit {0}
IsRoleAt Switch block at source = Unit {0}
IsRoleAt Toggle block at source = Unit {0}
IsRoleAt (Mark ends began) block at source = (ends_with nat_eq source (byte.line_break ∷ []) ≡ ends) × ((s : Extent) → s.start ≡ at → began_line block s ≡ began)
IsRoleAt (Group g) block at source = Unit {0}
IsRoleAt Function block at source = Unit {0}
IsRoleAt Node block at source = Unit {0}

abbrev pub IsSoAt : Tree → Role → List ℕ → Option Stretch → Type 0
IsSoAt block r source None = ⊥
IsSoAt block r source (Some s) = IsRoleAt r block s.start source

-- so of each of these nodes
abbrev pub AreSoIn : Tree → List Thing → Type 0
AreSoIn block [] = Unit {0}
AreSoIn block (t ∷ ts) = IsSoAt block t.role t.source t.place × AreSoIn block ts

-- Such a block of the page: it has a number, what its lines mean is in it, between its delimiters, and no group is.
pub record IsBlockOfLines (ls : List (List Item)) (block : Tree) : Type 0 where
  pub number : ℕ
  pub before : List Item
  pub form : Block
  pub opening : List Item
  pub closing : List Item
  pub some : 0 < number
  pub is : block ≡ standing number before (inner (plain (kind_of form)) opening (forest (children (joined_parts ls))) closing)
  pub ungrouped : HasNoGroup block
  pub marks : AreSoIn block (things (signs_of_lines (length (label block).opening) ls))
