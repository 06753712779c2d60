-- The bytes of braces, bars and `=`.
use Rattle.std.proofs.Common.{◌≡◌, ℕ, ◌<◌, ◌==◌, Bool, true, false, Option, Some, None, List, get_or, nat_lt, refl, subst, arith, codes}
use Rattle.std.specs.Prelude.{if◌then◌else◌, slice_index}
use Rattle.std.specs.Option.{option_or}
use Rattle.std.specs.List.{prefix_len}
use Rattle.std.proofs.lemmas.Bool.{eqb-true}
use Rattle.std.proofs.lemmas.List.Sums.{prefix_len_passes}
use Rattle.wt_span.specs.declared.form.Mode.{Mode}
use Rattle.wt_span.specs.declared.form.LexKind.{LexKind}
use Rattle.wt_span.specs.declared.form.LexKind.TheVariants.{Chars, CommentLine, Comment, Raw, Include, Hidden, Entity, Opens, Closes, LinkOpen, LinkClose, Pipe, Equals}
use Rattle.wt_span.specs.Bytes.{begins}
use Rattle.wt_span.specs.Comments.{comment_len, comment_line_len}
use Rattle.wt_span.specs.Tags.{raw_len, include_at}
use Rattle.wt_span.specs.Entities.{entity_at}
use Rattle.wt_span.specs.Lexemes.{Word, as_word, run_at, sign_at, sign_word, entity_word, comment_line_word, form_at}
use Rattle.wt_lex.proofs.Begins.{begins_get}
use Rattle.wt_lex.proofs.WholeTags.{include_kind}

-- what the first bytes of a text are that a word of this kind begins
abbrev pub HasSign : LexKind → ℕ → List ℕ → Type 0
HasSign Chars n bs = Unit {0}
HasSign CommentLine n bs = Unit {0}
HasSign Comment n bs = Unit {0}
HasSign Raw n bs = Unit {0}
HasSign Include n bs = Unit {0}
HasSign Hidden n bs = Unit {0}
HasSign (Entity c) n bs = Unit {0}
HasSign Opens n bs = (i : ℕ) → i < n → slice_index bs i ≡ 123
HasSign Closes n bs = (i : ℕ) → i < n → slice_index bs i ≡ 125
HasSign LinkOpen n bs = Unit {0}
HasSign LinkClose n bs = Unit {0}
HasSign Pipe n bs = (n ≡ 1) × (slice_index bs 0 ≡ 124)
HasSign Equals n bs = (n ≡ 1) × (slice_index bs 0 ≡ 61)

abbrev OptSign : List ℕ → Option Word → Type 0
OptSign bs None = Unit {0}
OptSign bs (Some w) = HasSign w.0 w.1 bs

or_sign : (bs : List ℕ) (a b : Option Word) → OptSign bs a → OptSign bs b → OptSign bs (option_or a b)
or_sign bs None b f g = g
or_sign bs (Some w) b f g = f

if_sign : (bs : List ℕ) (t : Bool) (w : Word) → (t ≡ true → HasSign w.0 w.1 bs) → OptSign bs (if t then Some w else None)
if_sign bs true w f = f refl
if_sign bs false w f = tt

run_byte : (byte : ℕ) (bs : List ℕ) (i : ℕ) → i < prefix_len (λ b. b == byte) bs → get_or bs i 0 ≡ byte
run_byte byte bs i l = eqb-true (get_or bs i 0) byte (prefix_len_passes (λ b. b == byte) bs i 0 l)

sign_bytes : (bs : List ℕ) → OptSign bs (sign_word bs)
unfolding sign_word
sign_bytes bs =
    or_sign bs (run_at Opens 123 bs) _ (if_sign bs (nat_lt 1 (prefix_len (λ b. b == 123) bs)) (Opens, prefix_len (λ b. b == 123) bs) (λ e. run_byte 123 bs))
    (or_sign bs (run_at Closes 125 bs) _ (if_sign bs (nat_lt 1 (prefix_len (λ b. b == 125) bs)) (Closes, prefix_len (λ b. b == 125) bs) (λ e. run_byte 125 bs))
    (or_sign bs (sign_at LinkOpen (codes "[[") 2 bs) _ (if_sign bs (begins (codes "[[") bs) (LinkOpen, 2) (λ e. tt))
    (or_sign bs (sign_at LinkClose (codes "]]") 2 bs) _ (if_sign bs (begins (codes "]]") bs) (LinkClose, 2) (λ e. tt))
    (or_sign bs (sign_at Pipe (codes "|") 1 bs) (sign_at Equals (codes "=") 1 bs)
    (if_sign bs (begins (codes "|") bs) (Pipe, 1) (λ e. (refl, begins_get (codes "|") bs e 0 (omega arith))))
    (if_sign bs (begins (codes "=") bs) (Equals, 1) (λ e. (refl, begins_get (codes "=") bs e 0 (omega arith))))))))

comment_sign : (bs : List ℕ) (o : Option ℕ) → OptSign bs (as_word Comment o)
comment_sign bs None = tt
comment_sign bs (Some n) = tt

line_sign : (bs : List ℕ) (o : Option ℕ) → OptSign bs (as_word CommentLine o)
line_sign bs None = tt
line_sign bs (Some n) = tt

line_word_sign : (after : Bool) (bs : List ℕ) → OptSign bs (comment_line_word after bs)
line_word_sign true bs = line_sign bs (comment_line_len bs)
line_word_sign false bs = tt

raw_sign : (bs : List ℕ) (o : Option ℕ) → OptSign bs (as_word Raw o)
raw_sign bs None = tt
raw_sign bs (Some n) = tt

include_sign : (mode : Mode) (bs : List ℕ) (o : Option Word) → include_at mode bs ≡ o → OptSign bs o
include_sign mode bs None e = tt
include_sign mode bs (Some (Include, n)) e = tt
include_sign mode bs (Some (Hidden, n)) e = tt
include_sign mode bs (Some (kind, n)) e = absurd (include_kind mode bs (kind, n) e)

entity_sign : (bs : List ℕ) (o : Option (ℕ × ℕ)) → OptSign bs (entity_word o)
entity_sign bs None = tt
entity_sign bs (Some x) = tt

all_signs : (mode : Mode) (after : Bool) (bs : List ℕ) → OptSign bs (form_at mode after bs)
unfolding form_at
all_signs mode after bs =
    or_sign bs (comment_line_word after bs) _ (line_word_sign after bs)
    (or_sign bs (as_word Comment (comment_len bs)) _ (comment_sign bs (comment_len bs))
    (or_sign bs (as_word Raw (raw_len bs)) _ (raw_sign bs (raw_len bs))
    (or_sign bs (include_at mode bs) _ (include_sign mode bs (include_at mode bs) refl)
    (or_sign bs (entity_word (entity_at bs)) (sign_word bs) (entity_sign bs (entity_at bs)) (sign_bytes bs)))))

pub form_sign : (mode : Mode) (after : Bool) (kind : LexKind) (n : ℕ) (bs : List ℕ) → form_at mode after bs ≡ Some (kind, n) → HasSign kind n bs
form_sign mode after kind n bs e = let P : Option Word → Type 0 = OptSign bs in subst P e (all_signs mode after bs)
