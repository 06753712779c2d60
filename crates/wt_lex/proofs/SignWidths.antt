-- Signs are as wide as they should be.
use Rattle.std.proofs.Common.{◌≡◌, ℕ, ◌-◌, ◌<◌, ◌==◌, Bool, true, false, Option, Some, None, List, [], ◌∷◌, drop, nat_lt, refl, subst, arith, codes}
use Rattle.std.specs.Prelude.{if◌then◌else◌, slice_index, All}
use Rattle.std.specs.Option.{option_or}
use Rattle.std.specs.List.{prefix_len}
use Rattle.std.proofs.lemmas.List.Elements.{All-nil, All-cons}
use Rattle.wt_span.specs.declared.form.Mode.{Mode}
use Rattle.wt_span.specs.declared.form.LexKind.{LexKind}
use Rattle.wt_span.specs.declared.form.LexKind.TheVariants.{Chars, CommentLine, Comment, Raw, Include, Hidden, Entity, Opens, Closes, LinkOpen, LinkClose, Pipe, Equals}
use Rattle.wt_span.specs.Bytes.{is_break, begins}
use Rattle.wt_span.specs.Comments.{comment_len, comment_line_len}
use Rattle.wt_span.specs.Tags.{raw_len, include_at}
use Rattle.wt_span.specs.Entities.{entity_at}
use Rattle.wt_span.specs.Lexemes.{Word, as_word, run_at, sign_at, sign_word, entity_word, comment_line_word, form_at, words}
use Rattle.wt_lex.specs.SignWidths.{HasSignWidth}
use Rattle.wt_lex.specs.Reading.{Stands, AreLexemes}
use Rattle.wt_lex.proofs.Begins.{lt_is}
use Rattle.wt_lex.proofs.WholeTags.{include_kind}
use Rattle.wt_lex.proofs.Readings.{words_are}

abbrev OptWidth : Option Word → Type 0
OptWidth None = Unit {0}
OptWidth (Some w) = HasSignWidth w

or_width : (a b : Option Word) → OptWidth a → OptWidth b → OptWidth (option_or a b)
or_width None b f g = g
or_width (Some w) b f g = f

if_width : (t : Bool) (w : Word) → (t ≡ true → HasSignWidth w) → OptWidth (if t then Some w else None)
if_width true w f = f refl
if_width false w f = tt

run_width : (kind : LexKind) (byte : ℕ) (bs : List ℕ) → ((n : ℕ) → 1 < n → HasSignWidth (kind, n)) → OptWidth (run_at kind byte bs)
run_width kind byte bs f =
    let n = prefix_len (λ b. b == byte) bs in if_width (nat_lt 1 n) (kind, n) (λ e. f n (lt_is 1 n e))

sign_width : (bs : List ℕ) → OptWidth (sign_word bs)
unfolding sign_word
sign_width bs =
    or_width (run_at Opens 123 bs) _ (run_width Opens 123 bs (λ n h. omega arith))
    (or_width (run_at Closes 125 bs) _ (run_width Closes 125 bs (λ n h. omega arith))
    (or_width (sign_at LinkOpen (codes "[[") 2 bs) _ (if_width (begins (codes "[[") bs) (LinkOpen, 2) (λ e. refl))
    (or_width (sign_at LinkClose (codes "]]") 2 bs) _ (if_width (begins (codes "]]") bs) (LinkClose, 2) (λ e. refl))
    (or_width (sign_at Pipe (codes "|") 1 bs) (sign_at Equals (codes "=") 1 bs)
    (if_width (begins (codes "|") bs) (Pipe, 1) (λ e. refl)) (if_width (begins (codes "=") bs) (Equals, 1) (λ e. refl))))))

comment_width : (o : Option ℕ) → OptWidth (as_word Comment o)
comment_width None = tt
comment_width (Some n) = tt

line_width : (o : Option ℕ) → OptWidth (as_word CommentLine o)
line_width None = tt
line_width (Some n) = tt

line_word_width : (after : Bool) (bs : List ℕ) → OptWidth (comment_line_word after bs)
line_word_width true bs = line_width (comment_line_len bs)
line_word_width false bs = tt

raw_width : (o : Option ℕ) → OptWidth (as_word Raw o)
raw_width None = tt
raw_width (Some n) = tt

include_width : (mode : Mode) (bs : List ℕ) (o : Option Word) → include_at mode bs ≡ o → OptWidth o
include_width mode bs None e = tt
include_width mode bs (Some (Include, n)) e = tt
include_width mode bs (Some (Hidden, n)) e = tt
include_width mode bs (Some (kind, n)) e = absurd (include_kind mode bs (kind, n) e)

entity_width : (o : Option (ℕ × ℕ)) → OptWidth (entity_word o)
entity_width None = tt
entity_width (Some x) = tt

all_width : (mode : Mode) (after : Bool) (bs : List ℕ) → OptWidth (form_at mode after bs)
unfolding form_at
all_width mode after bs =
    or_width (comment_line_word after bs) _ (line_word_width after bs)
    (or_width (as_word Comment (comment_len bs)) _ (comment_width (comment_len bs))
    (or_width (as_word Raw (raw_len bs)) _ (raw_width (raw_len bs))
    (or_width (include_at mode bs) _ (include_width mode bs (include_at mode bs) refl)
    (or_width (entity_word (entity_at bs)) (sign_word bs) (entity_width (entity_at bs)) (sign_width bs)))))

form_width : (mode : Mode) (after : Bool) (kind : LexKind) (n : ℕ) (bs : List ℕ) → form_at mode after bs ≡ Some (kind, n) → HasSignWidth (kind, n)
form_width mode after kind n bs e = subst OptWidth e (all_width mode after bs)

stands_width : (mode : Mode) (after : Bool) (kind : LexKind) (n : ℕ) (bs : List ℕ) → Stands mode after kind n bs → HasSignWidth (kind, n)
stands_width mode after Chars n bs s = tt
stands_width mode after CommentLine n bs s = tt
stands_width mode after Comment n bs s = tt
stands_width mode after Raw n bs s = tt
stands_width mode after Include n bs s = tt
stands_width mode after Hidden n bs s = tt
stands_width mode after (Entity c) n bs s = tt
stands_width mode after Opens n bs s = form_width mode after Opens n bs s
stands_width mode after Closes n bs s = form_width mode after Closes n bs s
stands_width mode after LinkOpen n bs s = form_width mode after LinkOpen n bs s
stands_width mode after LinkClose n bs s = form_width mode after LinkClose n bs s
stands_width mode after Pipe n bs s = form_width mode after Pipe n bs s
stands_width mode after Equals n bs s = form_width mode after Equals n bs s

lexeme_widths : (mode : Mode) (after : Bool) (ws : List Word) (bs : List ℕ) → AreLexemes mode after ws bs → All HasSignWidth ws
lexeme_widths mode after [] bs a = All-nil HasSignWidth
lexeme_widths mode after ((kind, n) ∷ ws) bs a =
    All-cons HasSignWidth (kind, n) ws (stands_width mode after kind n bs a.2) (lexeme_widths mode (is_break (slice_index bs (n - 1))) ws (drop n bs) a.4)

pub word_widths : (mode : Mode) (bs : List ℕ) → All HasSignWidth (words mode bs)
word_widths mode bs = lexeme_widths mode false (words mode bs) bs (words_are mode bs)
