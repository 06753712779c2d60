-- What is sent where a text is typed in one paragraph of a page, wherever it is.
use Rattle.std.specs.Prelude.{◌≡◌, ◌≢◌, ◌≤◌, ℕ, zero, suc, List, [], ◌∷◌, ◌++◌, length}
use Rattle.std.specs.Str.{IsUtf8}
use Rattle.wt_span.specs.declared.limits.TheConstants.{PAGE_BYTES}
use Rattle.wt_devices.specs.Device.{Pages}
use Rattle.wt_tree.specs.declared.kind.Kind.TheVariants as kind
use Rattle.wt_tree.specs.Tree.{Label, Tree, tree, Trees, none, more, label}
use Rattle.wt_checks.specs.Kept.{children}
use Rattle.wt_checks.specs.WithoutMarks.{mark_off, unmarked}
use Rattle.wt_expand.specs.PageItems.{page_items}
use Rattle.wt_commands.specs.Answers.{done, edit_to}
use Rattle.wt_typed_blocks.specs.Sent.{paragraph, Sent, stands, typed, holds, Sents, none_sent, more_sent, old_children, AreSent, new_body}
use Rattle.wt_text_edit_laws.specs.BlockEdits.{typed_as}
use Rattle.wt_text_edit_laws.specs.NoCalls.{CallsNothing}
use Rattle.wt_text_edit_laws.specs.Parts.{part_tree, HasNoGroups}
use Rattle.wt_text_edit_laws.specs.TextBetween.{StandsBefore, StandsBehind}
use Rattle.wt_text_edit_laws.specs.TypedPages.{IsTypedPage}
use Rattle.wt_called_edit_laws.specs.InCells.{IsInCell}

-- a node that stays
abbrev pub IsKept : Sent → Type 0
IsKept (stands t u) = Unit {0}
IsKept (typed k l ts m x text) = ⊥
IsKept (holds l m ss) = ⊥

abbrev pub AllKept : Sents → Type 0
AllKept none_sent = Unit {0}
AllKept (more_sent s ss) = IsKept s × AllKept ss

-- This text is typed in the paragraph at this path, and all else stays. A path tells which child of its parent a node is, from the
-- outermost parent on.
abbrev mutual
  pub TypesAt : List ℕ → List ℕ → Sent → Type 0
  TypesAt path text (stands t u) = ⊥
  TypesAt path text (typed k l ts m x bs) = (path ≡ []) × (k ≡ paragraph) × (bs ≡ text)
  TypesAt [] text (holds l m ss) = ⊥
  TypesAt (i ∷ is) text (holds l m ss) = TypesIn i is text ss

  pub TypesIn : ℕ → List ℕ → List ℕ → Sents → Type 0
  TypesIn i is text none_sent = ⊥
  TypesIn zero is text (more_sent s ss) = TypesAt is text s × AllKept ss
  TypesIn (suc i) is text (more_sent s ss) = IsKept s × TypesIn i is text ss

abbrev pub TypesByPath : List ℕ → List ℕ → Sents → Type 0
TypesByPath [] text ss = ⊥
TypesByPath (i ∷ is) text ss = TypesIn i is text ss

-- ---- pages with a typed paragraph in a cell

-- what comes before it, its source, and what follows it
pub record CellPage : Type 0 where
  pub before : List ℕ
  pub text : List ℕ
  pub behind : List ℕ

abbrev pub page_with : CellPage → List ℕ → List ℕ
page_with c q = c.before ++ (q ++ c.behind)

-- What is before it and behind it may be any lines that call nothing and in which what begins there ends there, so that the paragraph is in a
-- cell; and no node of the page can only be kept as a whole.
pub record IsCellPage (c : CellPage) : Type 0 where
  pub stands : StandsBefore c.before
  pub follows : StandsBehind c.behind
  pub before_utf8 : IsUtf8 c.before
  pub behind_utf8 : IsUtf8 c.behind
  pub calls_nothing : CallsNothing (page_items c.before ++ page_items c.behind)
  pub in_cell : IsInCell (page_items c.before) (page_items c.behind)
  pub is_typed : IsTypedPage c.text
  pub ungrouped : HasNoGroups (page_with c c.text)

-- the page with this text in the paragraph, as it is spelled
abbrev pub new_page : CellPage → List ℕ → List ℕ
new_page c text = page_with c (typed_as paragraph c.text text)

-- What is sent for the children of the body types this text in the paragraph at this path, and is the page's own in all else.
pub record IsCellEdit (c : CellPage) (path text : List ℕ) (ss : Sents) : Type 0 where
  pub utf8 : IsUtf8 text
  pub old : old_children ss ≡ children (part_tree (page_with c c.text))
  pub sent : AreSent ss
  pub types : TypesByPath path text ss

-- At this path is a paragraph with a number.
abbrev mutual
  pub Leads : List ℕ → Tree → Type 0
  Leads [] (tree l ts) = (l.kind ≡ kind.Para) × (l.id ≢ 0)
  Leads (i ∷ is) (tree l ts) = LeadsIn i is ts

  pub LeadsIn : ℕ → List ℕ → Trees → Type 0
  LeadsIn i is none = ⊥
  LeadsIn zero is (more t ts) = Leads is t
  LeadsIn (suc i) is (more t ts) = LeadsIn i is ts

abbrev pub LeadsFrom : List ℕ → Trees → Type 0
LeadsFrom [] ts = ⊥
LeadsFrom (i ∷ is) ts = LeadsIn i is ts

-- The paragraph is at a path at which any text may be typed: the edit is done, and the new page is the same with this text in it.
pub record TakesText (c : CellPage) : Type 0 where
  pub path : List ℕ
  pub leads : LeadsFrom path (children (part_tree (page_with c c.text)))
  pub takes : (pages : Pages) (b : Label) (text : List ℕ) (ss : Sents) → IsCellEdit c path text ss → length (new_page c text) ≤ PAGE_BYTES
      → edit_to pages (page_with c c.text) (new_body (label (part_tree (page_with c c.text))) b ss) ≡ done (new_page c text)

-- ---- the edit that sends every other node as it is in the page, without marks

abbrev pub own_kept : Trees → Sents
own_kept none = none_sent
own_kept (more t ts) = more_sent (stands t (unmarked t)) (own_kept ts)

abbrev mutual
  pub own_sent : List ℕ → Label → List ℕ → Tree → Sent
  own_sent [] m text (tree l ts) = typed paragraph l ts m m text
  own_sent (i ∷ is) m text (tree l ts) = holds l (mark_off l) (own_in i is m text ts)

  pub own_in : ℕ → List ℕ → Label → List ℕ → Trees → Sents
  own_in i is m text none = none_sent
  own_in zero is m text (more t ts) = more_sent (own_sent is m text t) (own_kept ts)
  own_in (suc i) is m text (more t ts) = more_sent (stands t (unmarked t)) (own_in i is m text ts)

abbrev pub own_sents : List ℕ → Label → List ℕ → Trees → Sents
own_sents [] m text ts = own_kept ts
own_sents (i ∷ is) m text ts = own_in i is m text ts
