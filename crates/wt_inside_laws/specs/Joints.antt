-- How the source of a block lies in its page, and how what was typed in its place may: by the bytes on both sides of its edges.
use Rattle.std.specs.Prelude.{◌≡◌, ◌-◌, ◌==◌, ◌&&◌, ◌||◌, ℕ, Bool, true, false, not, Option, Some, None, List, [], ◌∷◌, ◌++◌, length, slice_get, codes}
use Rattle.wt_span.specs.declared.form.LexKind.TheVariants.{Chars, Opens, Closes}
use Rattle.wt_span.specs.declared.form.Mode.TheVariants.{Page}
use Rattle.wt_span.specs.Bytes.{is_blank, is_break, begins}
use Rattle.wt_span.specs.Lexemes.{Word, form_at}
use Rattle.wt_span.specs.Tags.{is_raw_name, to_closing}
use Rattle.wt_span.specs.Characters as byte
use Rattle.wt_guards.specs.Guards.{has_brace_last}
use Rattle.wt_part_laws.specs.Scans.{Scanner, after_all, Passes}
use Rattle.wt_isolation.specs.OpenTags.{ends_open}
use Rattle.wt_inside_laws.specs.TextEdits.{ends_in_break}

-- ---- lexemes without braces, whose runs may go over an edge

abbrev pub unbraced : Option Word → Option Word
unbraced None = None
unbraced (Some (Opens, n)) = None
unbraced (Some (Closes, n)) = None
unbraced (Some (kind, n)) = Some (kind, n)

abbrev pub unbraced_lexer : Scanner ℕ Word
unbraced_lexer = record { form = λ after bs. unbraced (form_at Page after bs); size = λ w. w.1; run = λ n. (Chars, n); mark = is_break }

-- ---- bytes at the edges

abbrev pub last_byte : List ℕ → Option ℕ
last_byte bs = slice_get bs (length bs - 1)

-- nothing comes before the block, or a line break, a mark or an extension, a call or a table's end, or a rule
abbrev pub may_end_before : Option ℕ → Bool
may_end_before None = true
may_end_before (Some b) = is_break b || (b == byte.greater_than || (b == byte.closing_brace || b == byte.hyphen))

-- nothing comes after it, or a line break, or the call that gives its line break
abbrev pub may_begin_behind : List ℕ → Bool
may_begin_behind [] = true
may_begin_behind (b ∷ bs) = is_break b || b == byte.opening_brace

abbrev pub is_dash : Option ℕ → Bool
is_dash None = false
is_dash (Some b) = b == byte.hyphen

-- no blank, line break or `}`, and after a `-` no `-`
abbrev pub may_begin : Option ℕ → List ℕ → Bool
may_begin last [] = false
may_begin last (b ∷ bs) = not (is_blank b || (is_break b || b == byte.closing_brace)) && not (b == byte.hyphen && is_dash last)

-- ---- a block and its page

-- What comes before the block, its old and its new source, and what comes after it. No form but a run of braces goes over an edge of
-- the old source; the new one ends with a `{` before a `{` only where the old one did; and it closes no raw tag of the page that was
-- open.
pub record Joints (before old new behind : List ℕ) : Type 0 where
  pub left : may_end_before (last_byte before) ≡ true
  pub left_closed : ends_open before ≡ false
  pub first : may_begin (last_byte before) new ≡ true
  pub last : ends_in_break new ≡ false
  pub last_brace : has_brace_last new ≡ true → begins (codes "{") behind ≡ true → has_brace_last old ≡ true
  pub right : may_begin_behind behind ≡ true
  pub passes_left : Passes unbraced_lexer (old ++ behind) false 0 before
  pub passes_right : Passes unbraced_lexer behind (after_all unbraced_lexer false before) 0 old
  pub closes_no_more : (name : List ℕ) → is_raw_name name ≡ true → to_closing name (old ++ behind) ≡ None → to_closing name (new ++ behind) ≡ None
