-- An inside from left to right, as an editor sees it: texts, and elements by their numbers.
use Rattle.std.specs.Prelude.{ℕ, ◌==◌, ◌&&◌, Bool, true, false, List, [], ◌∷◌, ◌++◌, if◌then◌else◌}
use Rattle.std.specs.Str.{bytes_eq}
use Rattle.wt_tree.specs.Kinds.{showing, writing}
use Rattle.wt_tree.specs.Tiling.{is_group}
use Rattle.wt_tree.specs.Tree.{Label, Tree, tree, Trees, none, more}
use Rattle.wt_checks.specs.Alike.{same_kind, same_attrs, same_data}
use Rattle.wt_checks.specs.Tokens.{is_text}
use Rattle.wt_checks.specs.Unmarked.{is_compared, own_character}

-- a text by its characters; where an element opens, with its label; and where one closes
pub data Token : Type 0 where
  characters : List ℕ → Token
  opens : Label → Token
  closes : Token

-- What shows nothing is passed over. A group stands for itself: what it shows is the template's.
abbrev mutual
  pub tokens : Tree → List Token
  tokens (tree l ts) = if is_compared (showing l.kind) then
      (if is_text (writing l.kind) then characters l.shown ∷ []
      else if is_group l.kind then opens l ∷ closes ∷ []
      else opens l ∷ (all_tokens ts ++ closes ∷ [])) else []

  pub all_tokens : Trees → List Token
  all_tokens none = []
  all_tokens (more t ts) = tokens t ++ all_tokens ts

-- the same number, kind, attributes, data and, of an entity, the same character
abbrev pub same_label : Label → Label → Bool
same_label l m = (l.id == m.id) && (same_kind l.kind m.kind && (same_attrs l.attrs m.attrs
    && (same_data l.mw m.mw && bytes_eq (own_character (writing l.kind) l.shown) (own_character (writing m.kind) m.shown))))

abbrev pub same_token : Token → Token → Bool
same_token (characters xs) (characters ys) = bytes_eq xs ys
same_token (characters xs) (opens m) = false
same_token (characters xs) closes = false
same_token (opens l) (characters ys) = false
same_token (opens l) (opens m) = same_label l m
same_token (opens l) closes = false
same_token closes (characters ys) = false
same_token closes (opens m) = false
same_token closes closes = true

abbrev pub same_tokens : List Token → List Token → Bool
same_tokens [] [] = true
same_tokens [] (b ∷ ys) = false
same_tokens (a ∷ xs) [] = false
same_tokens (a ∷ xs) (b ∷ ys) = same_token a b && same_tokens xs ys
