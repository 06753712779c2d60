-- Each paragraph and heading of a page's tree, with calls in it or without, by the lines of the expanded page: by these it may be edited, at its path.
use Rattle.std.specs.Prelude.{◌≡◌, ◌⊎◌, ℕ, ◌+◌, true, false, None, List, [], ◌∷◌, ◌++◌}
use Rattle.std.specs.List.{AllByRecursion}
use Rattle.wt_span.specs.Items.{Item, is_mark, call_of}
use Rattle.wt_span.specs.Origins.{Expanded}
use Rattle.wt_tree.specs.Tree.{Tree, label}
use Rattle.wt_annotated.specs.Seams.{last_of, text_from}
use Rattle.wt_expand.specs.PageCalls.{expanded_page}
use Rattle.wt_expand.specs.Work.{Pages}
use Rattle.wt_lines.specs.declared.kind.LineKind.TheVariants as line
use Rattle.wt_lines.specs.Lines.{content, full_lines, is_break_item}
use Rattle.wt_page.specs.Lines.{kind_at}
use Rattle.wt_page.specs.Rows.{is_unseen}
use Rattle.wt_tables.specs.Parts.{joined}
use Rattle.wt_typed_blocks.specs.Sent.{kind_of}
use Rattle.wt_text_edit_laws.specs.ParagraphBetween.{tables_behind}
use Rattle.wt_text_edit_laws.specs.ParagraphParts.{break}
use Rattle.wt_text_edit_laws.specs.SignParts.{IsLedTo}
use Rattle.wt_text_edit_laws.specs.TextBlocks.{TextBlock, block_of}
use Rattle.wt_called_edit_laws.specs.AllTold.{IsExceptedAt, IsOneOf}
use Rattle.wt_called_edit_laws.specs.CallingContents.{TakesContentsIn}
use Rattle.wt_called_edit_laws.specs.LinedAmong.{spots_of_lines, end_of_lines, AreOfPage}
use Rattle.wt_called_edit_laws.specs.LinedCalling.{BeginsAlone, AreCallingLined, IsLinedCalling}
use Rattle.wt_called_edit_laws.specs.PlacedLines.{LinedBlock, all_lines}
use Rattle.wt_called_edit_laws.specs.RowBlocks.{StandsIn, opened_len, end_sign, past_end, begins_past}
use Rattle.wt_called_edit_laws.specs.ToldLines.{Told, lined, AreTold}
use Rattle.wt_called_edit_laws.specs.ToldTogether.{start_of}

-- The contents of this block, told by the page's lines, may be edited at its path, which is this one.
pub record TakesThere (pages : Pages) (page : List ℕ) (p : List ℕ) (b : LinedBlock) (behind : List (List Item)) : Type 0 where
  pub taken : TakesContentsIn pages (spots_of_lines pages page (b ∷ [])) (end_of_lines pages page (b ∷ []) behind)
  pub there : IsOneOf p taken.paths

-- some lines as a block: those before it, the sign and the marks that begin its first line, its own behind these
abbrev pub as_block : List (List Item) → List Item → List Item → List Item → List (List Item) → TextBlock → List ℕ → LinedBlock
as_block before sign marks first others k q = record { before = before; sign = sign; marks = marks; block = k; text = q; first = first; more = others }

-- A node of the page's tree begins where some lines of the expanded page do, behind the sign of a table's end and marks, or these alone. These stand as a block of its kind does. Where this block, as
-- these lines tell it, may be edited with its calls, whatever its source is said to be, it is this node.
pub record IsOnLines (pages : Pages) (page : List ℕ) (p : List ℕ) (t : Tree) : Type 0 where
  pub before : List (List Item)
  pub sign : List Item
  pub marks : List Item
  pub first : List Item
  pub others : List (List Item)
  pub behind : List (List Item)
  pub stands : StandsIn pages page t
  pub are : full_lines (expanded_page pages page).items ≡ before ++ ((((sign ++ marks) ++ first) ∷ others) ++ behind)
  pub begins : opened_len stands.before ≡ opened_len (joined before) + opened_len (sign ++ marks)
  pub lined : (k : TextBlock) (q : List ℕ) → kind_of (block_of k) ≡ (label t).kind → AreCallingLined (as_block before sign marks first others k q ∷ []) behind
  pub takes : (k : TextBlock) (q : List ℕ) → IsLinedCalling pages page (as_block before sign marks first others k q ∷ []) behind
      → TakesThere pages page p (as_block before sign marks first others k q) behind

-- or it is one that lines don't tell
pub record IsExceptedByLines (pages : Pages) (page : List ℕ) (t : Tree) : Type 0 where
  pub stands : StandsIn pages page t
  pub by_lines : IsExceptedAt (full_lines (expanded_page pages page).items) (opened_len stands.before)

-- ---- what calls except

-- behind these items neither the line break before a block's lines, nor the marks that begin them come from a call
pub record IsOwnBegun (front : List Item) (t : Told) : Type 0 where
  pub ends : last_of None front ≡ None
  pub marks : AreOfPage (lined t).marks

-- Or its first item comes from none, and behind these the page is ended for it, as behind a line break, or the end of a call.
pub record IsLedBegun (e : Expanded) (front : List Item) (t : Told) : Type 0 where
  pub first : BeginsAlone (content (joined ((lined t).first ∷ (lined t).more)))
  pub led : IsLedTo (text_from e.outer None (front ++ (lined t).marks)) (lined t).block (text_from e.outer None (content (joined ((lined t).first ∷ (lined t).more))))

-- so it begins, and no line break in it comes from a call
pub record IsBesideOwn (e : Expanded) (front : List Item) (t : Told) : Type 0 where
  pub begun : IsOwnBegun front t ⊎ IsLedBegun e front t
  pub breaks : AllByRecursion (λ x. is_break_item x ≡ true → x ≡ break) (joined ((lined t).first ∷ (lined t).more))

-- it is no line break and no mark that a call gives
abbrev pub IsNoBreakOfCall : Item → Type 0
IsNoBreakOfCall x = (is_break_item x ≡ true → x ≡ break) × (is_mark x ≡ true → call_of x ≡ None)

-- Behind so many items of these lines: one that they don't tell, or a text behind the `|}` of a table's end on its line.
pub data IsExceptedSigned (ls : List (List Item)) (at : ℕ) : Type 0 where
  untold : IsExceptedAt ls at → IsExceptedSigned ls at
  text_on_an_end : (before : List (List Item)) (own : List Item) (others behind : List (List Item)) → ls ≡ before ++ ((own ∷ others) ++ behind)
      → kind_at (tables_behind 0 before) own ≡ line.TableEnd → is_unseen (past_end own) ≡ false → at ≡ begins_past before (end_sign own) (past_end own)
      → IsExceptedSigned ls at

-- Of an expanded page, behind so many items: one of these, or a block for which a call gives one of those.
pub data IsExceptedWithCalls (e : Expanded) (at : ℕ) : Type 0 where
  on_a_sign : IsExceptedSigned (full_lines e.items) at → IsExceptedWithCalls e at
  broken_by_a_call : (t : Told) (behind : List (List Item)) → full_lines e.items ≡ all_lines (lined t ∷ []) behind → AreTold (t ∷ []) behind → at ≡ start_of 0 t
      → (lined t).sign ≡ [] → (IsBesideOwn e (joined (lined t).before) t → ⊥) → IsExceptedWithCalls e at

-- a node of a page's tree that begins so, with calls in it or without
pub record IsExceptedCalling (pages : Pages) (page : List ℕ) (t : Tree) : Type 0 where
  pub stands : StandsIn pages page t
  pub begins_so : IsExceptedWithCalls (expanded_page pages page) (opened_len stands.before)
