-- Comments among the nodes that stay in a content beside text that is typed.
use Rattle.std.specs.Prelude.{◌≡◌, ◌⊎◌, ℕ, suc, false, Some, List, [], ◌∷◌, ◌++◌, length}
use Rattle.wt_span.specs.Bytes.{is_blank, is_break}
use Rattle.wt_span.specs.Characters as byte
use Rattle.wt_span.specs.Comments.{comment_len, comment_line_len}
use Rattle.wt_span.specs.declared.form.ItemForm.{ItemForm}
use Rattle.wt_span.specs.declared.form.ItemForm.TheVariants as form
use Rattle.wt_span.specs.Items.{Item, char, whole}
use Rattle.wt_expand.specs.PageItems.{page_items}
use Rattle.wt_guards.specs.declared.role.Role.{Role}
use Rattle.wt_guards.specs.declared.role.Role.TheVariants.{Link, External, Bare, Switch, Toggle, Mark, Group, Function, Node}
use Rattle.wt_text_edit_laws.specs.ReadContents.{BeginsUnjoined}
use Rattle.wt_text_edit_laws.specs.TextBetween.{EndsBy, HasNoTag}
use Rattle.wt_beside_laws.specs.Kept.{is_lexeme_end, IsKept}
use Rattle.wt_beside_laws.specs.PageSigns.{ends_break, HasNoBreak}
use Rattle.wt_beside_laws.specs.References.{ReferencesEnd}

-- These bytes behind a `<` are a comment with it, whatever is written behind them. It ends with its `>`.
pub record IsComment (q : List ℕ) : Type 0 where
  pub len : (rest : List ℕ) → comment_len (byte.less_than ∷ (q ++ rest)) ≡ Some (suc (length q))
  pub ends : EndsBy is_lexeme_end (byte.less_than ∷ q)

pub record IsCommentSource (source : List ℕ) : Type 0 where
  pub others : List ℕ
  pub is : source ≡ byte.less_than ∷ others
  pub comment : IsComment others

-- Where a line begins this is a line of comments, with the blanks and the line break of this line, whatever is written behind it. Behind the last
-- comment, which ends with its `>`, is no `<`.
pub record IsCommentLine (source : List ℕ) : Type 0 where
  pub first : ℕ
  pub others : List ℕ
  pub is : source ≡ first ∷ others
  pub len : (rest : List ℕ) → comment_line_len (first ∷ (others ++ rest)) ≡ Some (suc (length others))
  pub ends : EndsBy is_break (first ∷ others)
  pub before : List ℕ
  pub behind : List ℕ
  pub closed : source ≡ before ++ (byte.greater_than ∷ behind)
  pub untagged : HasNoTag behind

-- each lexeme among these that is one item ends with its `>` or `;`
abbrev pub LexemesEnd : List Item → Type 0
LexemesEnd [] = Unit {0}
LexemesEnd (char o b ∷ xs) = LexemesEnd xs
LexemesEnd (whole f o bs ∷ xs) = EndsBy is_lexeme_end bs × LexemesEnd xs

abbrev pub IsNoComment : ItemForm → Type 0
IsNoComment form.Chars = Unit {0}
IsNoComment (form.Entity c) = Unit {0}
IsNoComment form.Nowiki = Unit {0}
IsNoComment form.Extension = Unit {0}
IsNoComment form.Function = Unit {0}
IsNoComment form.Comment = ⊥
IsNoComment form.Include = Unit {0}
IsNoComment form.Hidden = Unit {0}
IsNoComment form.EmptyCall = Unit {0}

-- no line could begin with them as with a blank or a comment
abbrev pub BeginsShown : List Item → Type 0
BeginsShown [] = ⊥
BeginsShown (char o b ∷ xs) = (is_blank b ≡ false) × (is_break b ≡ false)
BeginsShown (whole f o bs ∷ xs) = IsNoComment f

-- A node on one line that begins with no comment, though comments may be in it: whatever is read behind it, it is read as it is by itself, and so is
-- what is behind it. If a reference may begin at its end, as in a URL that ends with `&copy`, what is behind it is to go on with none.
pub record IsReadInLine (source : List ℕ) : Type 0 where
  pub reads : (rest : List ℕ) → ReferencesEnd source ⊎ BeginsUnjoined rest → page_items (source ++ rest) ≡ page_items source ++ page_items rest
  pub begins : BeginsShown (page_items source)
  pub unbroken : HasNoBreak (page_items source)
  pub ends : LexemesEnd (page_items source)

-- another node on one line that stands whatever is written behind it, by its parts, a comment, a line of comments, or such a node
abbrev pub IsHeld : List ℕ → Type 0
IsHeld source = (IsKept source × HasNoBreak (page_items source)) ⊎ (IsCommentSource source ⊎ (IsCommentLine source ⊎ IsReadInLine source))

-- what a mark's role says of its end is so
abbrev pub EndsAsSaid : Role → List ℕ → Type 0
EndsAsSaid Link source = Unit {0}
EndsAsSaid External source = Unit {0}
EndsAsSaid (Bare ends) source = Unit {0}
EndsAsSaid Switch source = Unit {0}
EndsAsSaid Toggle source = Unit {0}
EndsAsSaid (Mark ends began) source = ends_break source ≡ ends
EndsAsSaid (Group g) source = Unit {0}
EndsAsSaid Function source = Unit {0}
EndsAsSaid Node source = Unit {0}
