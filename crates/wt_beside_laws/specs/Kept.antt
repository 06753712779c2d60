-- The source of a node that stays in a content beside text that is typed: its parts are read so whatever is written behind it.
use Rattle.std.specs.Prelude.{◌≡◌, ℕ, suc, Bool, not, ◌||◌, ◌==◌, true, false, Some, None, List, [], ◌∷◌, ◌++◌, length}
use Rattle.wt_span.specs.declared.form.Mode.TheVariants.{Page}
use Rattle.wt_span.specs.declared.form.LexKind.{LexKind}
use Rattle.wt_span.specs.Bytes.{is_blank}
use Rattle.wt_span.specs.Characters as byte
use Rattle.wt_span.specs.Comments.{comment_len}
use Rattle.wt_span.specs.Items.{Item}
use Rattle.wt_span.specs.Lexemes.{form_at}
use Rattle.wt_expand.specs.PageItems.{items_of_word}
use Rattle.wt_text_edit_laws.specs.LonePages.{page_chars}
use Rattle.wt_text_edit_laws.specs.TextBetween.{EndsBy}

-- Characters, a `<` or `&` of which no lexeme is made, with characters behind it, or a lexeme.
pub data Part : Type 0 where
  characters : List ℕ → Part
  sign : ℕ → List ℕ → Part
  lexeme : LexKind → ℕ → List ℕ → Part

-- no `<`, `&` or brace: of these it hangs on what follows what they are
abbrev pub is_firm : ℕ → Bool
is_firm b = not (b == byte.less_than || (b == byte.ampersand || (b == byte.opening_brace || b == byte.closing_brace)))

abbrev pub AreFirm : List ℕ → Type 0
AreFirm [] = Unit {0}
AreFirm (b ∷ bs) = (is_firm b ≡ true) × AreFirm bs

-- it begins no lexeme, whatever is written behind these bytes
pub record IsSign (b : ℕ) (q : List ℕ) : Type 0 where
  pub none : (rest : List ℕ) → form_at Page false (b ∷ (q ++ rest)) ≡ None
  pub uncommented : (rest : List ℕ) → comment_len (b ∷ (q ++ rest)) ≡ None

-- a `>` or a `;`
abbrev pub is_lexeme_end : ℕ → Bool
is_lexeme_end b = b == byte.greater_than || b == byte.semicolon

-- these bytes are one, whatever is written behind them, and no comment
pub record IsLexeme (kind : LexKind) (b : ℕ) (q : List ℕ) : Type 0 where
  pub form : (rest : List ℕ) → form_at Page false (b ∷ (q ++ rest)) ≡ Some (kind, suc (length q))
  pub uncommented : (rest : List ℕ) → comment_len (b ∷ (q ++ rest)) ≡ None
  pub begins : is_blank b ≡ false
  pub ends : EndsBy is_lexeme_end (b ∷ q)

abbrev pub IsPart : Part → Type 0
IsPart (characters bs) = AreFirm bs
IsPart (sign b q) = IsSign b q × AreFirm q
IsPart (lexeme kind b q) = IsLexeme kind b q

abbrev pub AreParts : List Part → Type 0
AreParts [] = Unit {0}
AreParts (p ∷ ps) = IsPart p × AreParts ps

-- ---- what they are

abbrev pub part_source : Part → List ℕ
part_source (characters bs) = bs
part_source (sign b q) = b ∷ q
part_source (lexeme kind b q) = b ∷ q

abbrev pub parts_source : List Part → List ℕ
parts_source [] = []
parts_source (p ∷ ps) = part_source p ++ parts_source ps

abbrev pub part_items : Part → List Item
part_items (characters bs) = page_chars bs
part_items (sign b q) = page_chars (b ∷ q)
part_items (lexeme kind b q) = items_of_word kind (b ∷ q)

abbrev pub parts_items : List Part → List Item
parts_items [] = []
parts_items (p ∷ ps) = part_items p ++ parts_items ps

pub record IsKept (source : List ℕ) : Type 0 where
  pub parts : List Part
  pub are : AreParts parts
  pub is : parts_source parts ≡ source
