-- Each paragraph and heading of a page's tree that holds no call is told by the lines of the expanded page; and those that these don't tell.
use Rattle.std.specs.Prelude.{◌≡◌, ◌⊎◌, ℕ, zero, suc, ◌+◌, false, None, List, [], ◌∷◌, ◌++◌, length, drop, map}
use Rattle.wt_span.specs.Items.{Item, sources}
use Rattle.wt_span.specs.Origins.{Expanded}
use Rattle.wt_tree.specs.Source.{flat}
use Rattle.wt_tree.specs.Tiling.{HasNoGroup}
use Rattle.wt_tree.specs.Tree.{Tree, tree, Trees, none, more, label}
use Rattle.wt_annotated.specs.Seams.{text_from}
use Rattle.wt_expand.specs.PageCalls.{expanded_page}
use Rattle.wt_expand.specs.Work.{Pages}
use Rattle.wt_lines.specs.declared.kind.LineKind.TheVariants as line
use Rattle.wt_lines.specs.Lines.{content, full_lines}
use Rattle.wt_tables.specs.Parts.{joined}
use Rattle.wt_page.specs.Lines.{ending, kind_at}
use Rattle.wt_page.specs.Rows.{marks_len, is_unseen}
use Rattle.wt_selser.specs.Edits.{is_tangled}
use Rattle.wt_text_edit_laws.specs.ParagraphBetween.{tables_behind}
use Rattle.wt_text_edit_laws.specs.ReadContents.{BeginsUnclosed}
use Rattle.wt_text_edit_laws.specs.SignParts.{IsLedTo}
use Rattle.wt_text_edit_laws.specs.Unclosed.{holds_unclosed}
use Rattle.wt_called_edit_laws.specs.ContentsTaken.{TakesContents}
use Rattle.wt_called_edit_laws.specs.Groups.{called_tree}
use Rattle.wt_called_edit_laws.specs.LinedAmong.{spots_of_lines, end_of_lines, IsNoFunction, AreOfPage, AreBeside}
use Rattle.wt_called_edit_laws.specs.PlacedLines.{lead_of, all_lines}
use Rattle.wt_called_edit_laws.specs.RowBlocks.{IsTextBlock, IsReachedAt, StandsIn, opened_len, end_sign, past_end, rule_sign, past_rule, begins_past}
use Rattle.wt_called_edit_laws.specs.ToldAmong.{IsToldAmong}
use Rattle.wt_called_edit_laws.specs.ToldLines.{Told, lined, AreTold}
use Rattle.wt_called_edit_laws.specs.ToldTogether.{AreSome, start_of}

-- the byte at which the node at this path begins, where the tree begins at this one
abbrev mutual
  pub starts_at : ℕ → List ℕ → Tree → ℕ
  starts_at at [] t = at
  starts_at at (i ∷ is) (tree l ts) = starts_in (at + length l.opening) i is ts

  pub starts_in : ℕ → ℕ → List ℕ → Trees → ℕ
  starts_in at i is none = at
  starts_in at zero is (more t ts) = starts_at at is t
  starts_in at (suc i) is (more t ts) = starts_in (at + length (flat t)) i is ts

-- ---- what lines don't tell

-- Behind so many items begins text behind the `-` of a rule, on the same line; or behind the `|}` of a table's end text that begins with `}`.
pub data IsExceptedAt (ls : List (List Item)) (at : ℕ) : Type 0 where
  text_on_a_rule : (before : List (List Item)) (own : List Item) (behind : List (List Item)) → ls ≡ before ++ own ∷ behind
      → kind_at (tables_behind 0 before) own ≡ line.Rule → is_unseen (past_rule own) ≡ false → at ≡ begins_past before (rule_sign own) (past_rule own) → IsExceptedAt ls at
  a_brace_on_an_end : (before : List (List Item)) (own : List Item) (others behind : List (List Item)) → ls ≡ before ++ ((own ∷ others) ++ behind)
      → kind_at (tables_behind 0 before) own ≡ line.TableEnd → is_unseen (past_end own) ≡ false
      → (BeginsUnclosed (sources (content (joined (drop (marks_len (past_end own)) (past_end own) ∷ others)))) → ⊥) → at ≡ begins_past before (end_sign own) (past_end own) → IsExceptedAt ls at

-- Behind these items and what begins a block's lines the page is ended for it: by a line break, a comment or a tag, or by a table's end or that of a call, where
-- no `<` is behind the last `>` and the last line break and the block begins with no `}`. And the line break behind it comes from no call.
pub record IsBesideNoCall (e : Expanded) (front : List Item) (t : Told) : Type 0 where
  pub led : IsLedTo (text_from e.outer None (front ++ lead_of (lined t))) (lined t).block (lined t).text
  pub ending : AreOfPage (ending (joined ((lined t).first ∷ (lined t).more)))

-- none of them is a function that is kept
abbrev pub AreNoFunctions : List Item → Type 0
AreNoFunctions [] = Unit {0}
AreNoFunctions (x ∷ xs) = IsNoFunction x × AreNoFunctions xs

-- no call that is text has a byte of a block's lines behind these items and the marks that begin them
abbrev pub IsBesideTexts : Expanded → List Item → Told → Type 0
IsBesideTexts e front t =
    let from = length (text_from e.outer None (front ++ lead_of (lined t))) in
    AreBeside from (from + length (sources (joined ((lined t).first ∷ (lined t).more)))) e.text_calls

-- So of an expanded page: one of these by its lines; or a block for which a call gives the line break behind it, or directly behind a call, if it begins
-- with a `}`, or the call has a `<` on its last line that no `>` follows; or in which a function is kept.
pub data IsExceptedIn (e : Expanded) (at : ℕ) : Type 0 where
  by_its_lines : IsExceptedAt (full_lines e.items) at → IsExceptedIn e at
  beside_a_call : (t : Told) (behind : List (List Item)) → full_lines e.items ≡ all_lines (lined t ∷ []) behind → AreTold (t ∷ []) behind → at ≡ start_of 0 t
      → (IsBesideNoCall e (joined (lined t).before) t → ⊥) → IsExceptedIn e at
  holds_a_function : (t : Told) (behind : List (List Item)) → full_lines e.items ≡ all_lines (lined t ∷ []) behind → AreTold (t ∷ []) behind → at ≡ start_of 0 t
      → (AreNoFunctions (content (joined ((lined t).first ∷ (lined t).more))) → ⊥) → IsExceptedIn e at

-- a node of a page's tree that begins so
pub record IsExcepted (pages : Pages) (page : List ℕ) (t : Tree) : Type 0 where
  pub stands : StandsIn pages page t
  pub begins_so : IsExceptedIn (expanded_page pages page) (opened_len stands.before)

-- ---- all that they tell

abbrev pub IsOneOf : List ℕ → List (List ℕ) → Type 0
IsOneOf p [] = ⊥
IsOneOf p (q ∷ qs) = (p ≡ q) ⊎ IsOneOf p qs

-- The page is one that these tell, with the paths at which its blocks may be edited.
pub record ToldAtPaths (pages : Pages) (page : List ℕ) (ts : List Told) (behind : List (List Item)) : Type 0 where
  pub told : IsToldAmong pages page ts behind
  pub taken : TakesContents pages (spots_of_lines pages page (map lined ts)) (end_of_lines pages page (map lined ts) behind)

-- Some blocks are told by their lines, if there is one. Each paragraph and heading of the page's tree, outside of groups, that holds no group isn't
-- tangled and holds no mark that nothing ends is at the path of one of these, or it is one of the excepted.
pub record AllBlocksTold (pages : Pages) (page : List ℕ) : Type 0 where
  pub ts : List Told
  pub behind : List (List Item)
  pub told : AreSome ts → ToldAtPaths pages page ts behind
  pub complete : (p : List ℕ) (t : Tree) → IsReachedAt p (called_tree pages page) t → IsTextBlock (label t).kind → HasNoGroup t
      → is_tangled (expanded_page pages page) page t ≡ false → holds_unclosed (expanded_page pages page).items page (label t).ranges ≡ false
      → ((s : AreSome ts) × IsOneOf p (told s).taken.paths) ⊎ IsExcepted pages page t
