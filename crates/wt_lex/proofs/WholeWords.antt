-- A form that is cut out of its text is whole by itself.
use Rattle.std.proofs.Common.{◌≡◌, ℕ, ◌≤◌, Bool, true, false, Option, Some, None, List, length, take, refl, sym, ap, ◌∙◌, subst, inl, inr, arith, length-take, codes}
use Rattle.std.specs.Prelude.{if◌then◌else◌, ◌||◌}
use Rattle.std.specs.Option.{option_or}
use Rattle.wt_span.specs.declared.form.Mode.{Mode}
use Rattle.wt_span.specs.declared.form.LexKind.{LexKind}
use Rattle.wt_span.specs.declared.form.LexKind.TheVariants.{CommentLine, Comment, Raw, Include, Hidden, Opens, Closes, LinkOpen, LinkClose, Pipe, Equals}
use Rattle.wt_span.specs.Comments.{comment_len, comment_line_len}
use Rattle.wt_span.specs.Tags.{Tag, opening_tag, is_nowiki, is_extension, is_raw_name, raw_by, raw_len, include_at}
use Rattle.wt_span.specs.Entities.{entity_at}
use Rattle.wt_span.specs.Lexemes.{Word, as_word, run_at, sign_at, sign_word, entity_word, comment_line_word, form_at}
use Rattle.wt_lex.specs.WholeWords.{IsWholeWord}
use Rattle.wt_lex.proofs.AllForms.{form_fits}
use Rattle.wt_lex.proofs.WholeComments.{comment_front, line_front}
use Rattle.wt_lex.proofs.WholeTags.{raw_at, raw_front, include_front, include_kind}
use Rattle.wt_lex.proofs.WholeEntities.{entity_front}

abbrev OptWhole : Mode → List ℕ → Option Word → Type 0
OptWhole mode bs None = Unit {0}
OptWhole mode bs (Some w) = w.1 ≤ length bs → IsWholeWord mode w.0 (take w.1 bs)

or_whole : (mode : Mode) (bs : List ℕ) (a b : Option Word) → OptWhole mode bs a → OptWhole mode bs b → OptWhole mode bs (option_or a b)
or_whole mode bs None b f g = g
or_whole mode bs (Some w) b f g = f

size : (bs : List ℕ) (n : ℕ) → n ≤ length bs → n ≡ length (take n bs)
size bs n le = omega (arith, length-take n bs)

comment_whole : (mode : Mode) (bs : List ℕ) (o : Option ℕ) → comment_len bs ≡ o → OptWhole mode bs (as_word Comment o)
comment_whole mode bs None e = tt
comment_whole mode bs (Some n) e = λ le. inl (comment_front bs n n e (omega arith) ∙ ap Some (size bs n le))

line_whole : (mode : Mode) (bs : List ℕ) (o : Option ℕ) → comment_line_len bs ≡ o → OptWhole mode bs (as_word CommentLine o)
line_whole mode bs None e = tt
line_whole mode bs (Some n) e = λ le. inr (line_front bs n n e (omega arith) ∙ ap Some (size bs n le))

line_word_whole : (mode : Mode) (after : Bool) (bs : List ℕ) → OptWhole mode bs (comment_line_word after bs)
line_word_whole mode true bs = line_whole mode bs (comment_line_len bs) refl
line_word_whole mode false bs = tt

raw_is : (bs : List ℕ) → raw_len bs ≡ raw_by is_raw_name (opening_tag bs) bs
unfolding raw_len
raw_is bs = refl

same_tag : (s t : Tag) → Some s ≡ Some t → s ≡ t
same_tag s t e = cc

-- the name of the tag decides
named : (bs : List ℕ) (t s : Tag) (p : List ℕ → Bool) → opening_tag bs ≡ Some t → p t.name ≡ true → opening_tag bs ≡ Some s → p s.name ≡ true
named bs t s p e h f = ap (λ (x : Tag). p x.name) (same_tag s t (sym f ∙ e)) ∙ h

raw_by_name : (mode : Mode) (bs : List ℕ) (n : ℕ) (t : Tag) (u v : Bool) → raw_by is_raw_name (opening_tag bs) bs ≡ Some n
    → opening_tag bs ≡ Some t → is_nowiki t.name ≡ u → is_extension t.name ≡ v → (u || v) ≡ true → n ≤ length bs
    → IsWholeWord mode Raw (take n bs)
raw_by_name mode bs n t true v e tag nowiki extension h le =
    inl (raw_front is_raw_name is_nowiki bs n e (λ s f. named bs t s is_nowiki tag nowiki f) ∙ ap Some (size bs n le))
raw_by_name mode bs n t false true e tag nowiki extension h le =
    inr (raw_front is_raw_name is_extension bs n e (λ s f. named bs t s is_extension tag extension f) ∙ ap Some (size bs n le))
raw_by_name mode bs n t false false e tag nowiki extension h le = cc

raw_whole : (mode : Mode) (bs : List ℕ) (o : Option ℕ) → raw_len bs ≡ o → OptWhole mode bs (as_word Raw o)
raw_whole mode bs None e = tt
raw_whole mode bs (Some n) e = λ le.
    let is = sym (raw_is bs) ∙ e in
    let f = raw_at is_raw_name (opening_tag bs) bs n is in
    raw_by_name mode bs n f.0 (is_nowiki f.0.name) (is_extension f.0.name) is f.1 refl refl f.2 le

include_whole : (mode : Mode) (bs : List ℕ) (o : Option Word) → include_at mode bs ≡ o → OptWhole mode bs o
include_whole mode bs None e = tt
include_whole mode bs (Some (Include, n)) e = λ le. include_front mode bs (Include, n) e ∙ ap (λ (m : ℕ). Some (Include, m)) (size bs n le)
include_whole mode bs (Some (Hidden, n)) e = λ le. include_front mode bs (Hidden, n) e ∙ ap (λ (m : ℕ). Some (Hidden, m)) (size bs n le)
include_whole mode bs (Some (kind, n)) e = absurd (include_kind mode bs (kind, n) e)

entity_whole : (mode : Mode) (bs : List ℕ) (o : Option (ℕ × ℕ)) → entity_at bs ≡ o → OptWhole mode bs (entity_word o)
entity_whole mode bs None e = tt
entity_whole mode bs (Some x) e = λ le. entity_front bs x e ∙ ap (λ (m : ℕ). Some (x.0, m)) (size bs x.1 le)

if_sign : (mode : Mode) (bs : List ℕ) (t : Bool) (w : Word) → IsWholeWord mode w.0 (take w.1 bs) → OptWhole mode bs (if t then Some w else None)
if_sign mode bs true w h = λ le. h
if_sign mode bs false w h = tt

sign_whole : (mode : Mode) (bs : List ℕ) → OptWhole mode bs (sign_word bs)
unfolding sign_word
sign_whole mode bs =
    or_whole mode bs (run_at Opens 123 bs) _ (if_sign mode bs _ (Opens, _) tt)
    (or_whole mode bs (run_at Closes 125 bs) _ (if_sign mode bs _ (Closes, _) tt)
    (or_whole mode bs (sign_at LinkOpen (codes "[[") 2 bs) _ (if_sign mode bs _ (LinkOpen, 2) tt)
    (or_whole mode bs (sign_at LinkClose (codes "]]") 2 bs) _ (if_sign mode bs _ (LinkClose, 2) tt)
    (or_whole mode bs (sign_at Pipe (codes "|") 1 bs) (sign_at Equals (codes "=") 1 bs) (if_sign mode bs _ (Pipe, 1) tt) (if_sign mode bs _ (Equals, 1) tt)))))

all_whole : (mode : Mode) (after : Bool) (bs : List ℕ) → OptWhole mode bs (form_at mode after bs)
unfolding form_at
all_whole mode after bs =
    or_whole mode bs (comment_line_word after bs) _ (line_word_whole mode after bs)
    (or_whole mode bs (as_word Comment (comment_len bs)) _ (comment_whole mode bs (comment_len bs) refl)
    (or_whole mode bs (as_word Raw (raw_len bs)) _ (raw_whole mode bs (raw_len bs) refl)
    (or_whole mode bs (include_at mode bs) _ (include_whole mode bs (include_at mode bs) refl)
    (or_whole mode bs (entity_word (entity_at bs)) (sign_word bs) (entity_whole mode bs (entity_at bs) refl) (sign_whole mode bs)))))

pub form_whole : (mode : Mode) (after : Bool) (kind : LexKind) (n : ℕ) (bs : List ℕ) → form_at mode after bs ≡ Some (kind, n)
    → IsWholeWord mode kind (take n bs)
form_whole mode after kind n bs e =
    let f = form_fits mode after bs (kind, n) e in
    let P : Option Word → Type 0 = λ o. OptWhole mode bs o in
    subst P e (all_whole mode after bs) f.within
