-- What comes before a text on a line with the sign of a table's end or a rule, or with the end of a call.
use Rattle.std.specs.Prelude.{◌≡◌, ◌⊎◌, ◌≤◌, ◌==◌, ◌&&◌, ◌||◌, ℕ, not, Bool, true, List, [], ◌∷◌, length}
use Rattle.wt_span.specs.Characters as byte
use Rattle.wt_text_edit_laws.specs.ReadContents.{BeginsUnclosed}
use Rattle.wt_text_edit_laws.specs.TextBetween.{EndsBy, is_end, AreEnded}
use Rattle.wt_text_edit_laws.specs.TextBlocks.{TextBlock, a_paragraph, a_heading}

-- the last `}` of a table's end or a call, or the last `-` of a rule
abbrev pub is_sign_end : ℕ → Bool
is_sign_end b = b == byte.closing_brace || b == byte.hyphen

-- where what is before them ends so or not: no `<` is behind the last `>` and the last line break
abbrev pub ends_unopened : Bool → List ℕ → Bool
ends_unopened v [] = v
ends_unopened v (b ∷ bs) = ends_unopened (is_end b || (v && not (b == byte.less_than))) bs

-- The last byte ends such a sign, and no `<` is behind the last `>` and the last line break.
pub record AreSigned (bs : List ℕ) : Type 0 where
  pub some : 1 ≤ length bs
  pub sign : EndsBy is_sign_end bs
  pub unopened : ends_unopened true bs ≡ true

-- behind it a block may be that begins with no `}`
abbrev pub IsOnSign : TextBlock → List ℕ → Type 0
IsOnSign a_paragraph q = BeginsUnclosed q
IsOnSign (a_heading s) q = 1 ≤ s.level

-- What comes before a block: lines, comments and tags; or such a sign.
abbrev pub IsLedTo : List ℕ → TextBlock → List ℕ → Type 0
IsLedTo bs k q = AreEnded bs ⊎ (AreSigned bs × IsOnSign k q)
