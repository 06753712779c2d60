-- Characters and lexemes that are read so whatever is read behind them.
use Rattle.std.proofs.Common.{arith, ◌≡◌, ◌≢◌, ℕ, ◌==◌, Bool, true, false, Some, None, List, [], ◌∷◌, ◌++◌, refl, sym, ap, ◌∙◌, subst, append-nil, append_assoc, inl, inr}
use Rattle.std.specs.Prelude.{◌||◌, not}
use Rattle.wt_span.specs.declared.form.Mode.TheVariants.{Page}
use Rattle.wt_span.specs.declared.form.LexKind.TheVariants.{LinkOpen, LinkClose, Pipe, Equals}
use Rattle.wt_span.specs.Comments.{comment_len}
use Rattle.wt_span.specs.Tags.{raw_len, include_at, opening_tag, closing_tag}
use Rattle.wt_span.specs.Entities.{entity_at, named_entity, entity_names, decimal_entity, hex_entity}
use Rattle.wt_span.specs.Items.{Item, char}
use Rattle.wt_span.specs.Lexemes.{sign_word, cuts, form_at}
use Rattle.wt_lex.specs.Words.{is_form_byte}
use Rattle.wt_expand.specs.PageItems.{page_items}
use Rattle.wt_typed_blocks.proofs.Forms.{comment_other, other_byte, equals_byte}
use Rattle.wt_typed_blocks.proofs.TextReads.{or_parts, equal_or, apart}
use Rattle.wt_text_edit_laws.specs.LonePages.{page_chars}
use Rattle.wt_text_edit_laws.proofs.Between.Fronts.{first_from, byte_from, form_from}
use Rattle.wt_text_edit_laws.proofs.Prose.InFront.{Reads, reads_nothing, reads_byte, reads_form, read_items}
use Rattle.wt_text_edit_laws.proofs.Prose.Uncommented.{BeginsUncommented, uncommented_other, either_flag}
use Rattle.wt_text_edit_laws.proofs.Texts.TypedItems.{items_cut}
use Rattle.wt_beside_laws.specs.Kept.{Part, characters, sign, lexeme, is_firm, AreFirm, IsPart, AreParts, part_source, parts_source, part_items, parts_items, IsKept}

-- before whatever is read behind it, it is read as these items
abbrev pub ReadsAs : List ℕ → List Item → Type 0
ReadsAs q own = (rest : List ℕ) (xs : List Item) → Reads rest xs → Reads (q ++ rest) (own ++ xs)

pub nothing_reads : ReadsAs [] []
nothing_reads rest xs r = r

pub both_read : (q p : List ℕ) (xs ys : List Item) → ReadsAs q xs → ReadsAs p ys → ReadsAs (q ++ p) (xs ++ ys)
both_read q p xs ys f g rest zs r =
    subst (λ bs. Reads bs ((xs ++ ys) ++ zs)) (sym (append_assoc q p rest))
    (subst (λ us. Reads (q ++ (p ++ rest)) us) (sym (append_assoc xs ys zs)) (f (p ++ rest) (ys ++ zs) (g rest zs r)))

pub alone_as : (q : List ℕ) (own : List Item) → ReadsAs q own → page_items q ≡ own
alone_as q own f =
    ap page_items (sym (append-nil q)) ∙ read_items (q ++ []) (own ++ []) (f [] [] reads_nothing) ∙ append-nil own

-- ---- `[` and `]`, of which two side by side are a lexeme

lone_open : form_at Page false (91 ∷ []) ≡ None
unfolding form_at comment_len raw_len include_at opening_tag closing_tag entity_at named_entity entity_names decimal_entity hex_entity sign_word
lone_open = refl

two_open : (r : List ℕ) → form_at Page false (91 ∷ 91 ∷ r) ≡ Some (LinkOpen, 2)
unfolding form_at comment_len raw_len include_at opening_tag closing_tag entity_at named_entity entity_names decimal_entity hex_entity sign_word
two_open r = refl

one_open : (d : ℕ) (r : List ℕ) → (91 == d) ≡ false → form_at Page false (91 ∷ d ∷ r) ≡ None
unfolding form_at comment_len raw_len include_at opening_tag closing_tag entity_at named_entity entity_names decimal_entity hex_entity sign_word
one_open d r e = rw e refl

lone_close : form_at Page false (93 ∷ []) ≡ None
unfolding form_at comment_len raw_len include_at opening_tag closing_tag entity_at named_entity entity_names decimal_entity hex_entity sign_word
lone_close = refl

two_close : (r : List ℕ) → form_at Page false (93 ∷ 93 ∷ r) ≡ Some (LinkClose, 2)
unfolding form_at comment_len raw_len include_at opening_tag closing_tag entity_at named_entity entity_names decimal_entity hex_entity sign_word
two_close r = refl

one_close : (d : ℕ) (r : List ℕ) → (93 == d) ≡ false → form_at Page false (93 ∷ d ∷ r) ≡ None
unfolding form_at comment_len raw_len include_at opening_tag closing_tag entity_at named_entity entity_names decimal_entity hex_entity sign_word
one_close d r e = rw e refl

open_begins : (bs : List ℕ) → BeginsUncommented (91 ∷ bs)
open_begins bs = uncommented_other 91 bs refl (comment_other 91 bs (omega arith))

close_begins : (bs : List ℕ) → BeginsUncommented (93 ∷ bs)
close_begins bs = uncommented_other 93 bs refl (comment_other 93 bs (omega arith))

abbrev pub from_here : List ℕ → List Item
from_here bs = items_cut bs (cuts Page false 0 bs)

pub open_items : (a : Bool) (bs : List ℕ) → items_cut (91 ∷ bs) (cuts Page a 0 (91 ∷ bs)) ≡ char None 91 ∷ from_here bs
open_items a [] = byte_from a 91 [] (either_flag Page a (91 ∷ []) (open_begins []) ∙ lone_open)
open_items a (d ∷ r) = elim (equal_or 91 d) [
  | inl i ↦ subst (λ (x : ℕ). items_cut (91 ∷ x ∷ r) (cuts Page a 0 (91 ∷ x ∷ r)) ≡ char None 91 ∷ from_here (x ∷ r)) i
      (form_from a 91 (91 ∷ r) LinkOpen 1 (either_flag Page a (91 ∷ 91 ∷ r) (open_begins (91 ∷ r)) ∙ two_open r)
      ∙ ap (λ xs. char None 91 ∷ char None 91 ∷ xs) (first_from false r)
      ∙ ap (λ xs. char None 91 ∷ xs) (sym (open_items false r)))
  | inr n ↦ byte_from a 91 (d ∷ r) (either_flag Page a (91 ∷ d ∷ r) (open_begins (d ∷ r)) ∙ one_open d r n)
]

pub close_items : (a : Bool) (bs : List ℕ) → items_cut (93 ∷ bs) (cuts Page a 0 (93 ∷ bs)) ≡ char None 93 ∷ from_here bs
close_items a [] = byte_from a 93 [] (either_flag Page a (93 ∷ []) (close_begins []) ∙ lone_close)
close_items a (d ∷ r) = elim (equal_or 93 d) [
  | inl i ↦ subst (λ (x : ℕ). items_cut (93 ∷ x ∷ r) (cuts Page a 0 (93 ∷ x ∷ r)) ≡ char None 93 ∷ from_here (x ∷ r)) i
      (form_from a 93 (93 ∷ r) LinkClose 1 (either_flag Page a (93 ∷ 93 ∷ r) (close_begins (93 ∷ r)) ∙ two_close r)
      ∙ ap (λ xs. char None 93 ∷ char None 93 ∷ xs) (first_from false r)
      ∙ ap (λ xs. char None 93 ∷ xs) (sym (close_items false r)))
  | inr n ↦ byte_from a 93 (d ∷ r) (either_flag Page a (93 ∷ d ∷ r) (close_begins (d ∷ r)) ∙ one_close d r n)
]

read_open : (bs : List ℕ) (xs : List Item) → Reads bs xs → Reads (91 ∷ bs) (char None 91 ∷ xs)
read_open bs xs r = record { items = λ a. open_items a bs ∙ ap (λ ys. char None 91 ∷ ys) (r.items false); begins = open_begins bs }

read_close : (bs : List ℕ) (xs : List Item) → Reads bs xs → Reads (93 ∷ bs) (char None 93 ∷ xs)
read_close bs xs r = record { items = λ a. close_items a bs ∙ ap (λ ys. char None 93 ∷ ys) (r.items false); begins = close_begins bs }

-- ---- other characters

pub pipe_byte : (bs : List ℕ) → form_at Page false (124 ∷ bs) ≡ Some (Pipe, 1)
unfolding form_at comment_len raw_len include_at opening_tag closing_tag entity_at named_entity entity_names decimal_entity hex_entity sign_word
pipe_byte bs = refl

read_pipe : (bs : List ℕ) (xs : List Item) → Reads bs xs → Reads (124 ∷ bs) (char None 124 ∷ xs)
read_pipe bs xs r = reads_form Pipe 124 [] bs xs (pipe_byte bs) (uncommented_other 124 bs refl (comment_other 124 bs (omega arith))) r

read_equals : (bs : List ℕ) (xs : List Item) → Reads bs xs → Reads (61 ∷ bs) (char None 61 ∷ xs)
read_equals bs xs r = reads_form Equals 61 [] bs xs (equals_byte Page bs) (uncommented_other 61 bs refl (comment_other 61 bs (omega arith))) r

not_true : (b : Bool) → not b ≡ true → b ≡ false
not_true true e = cc
not_true false e = refl

pub other_form : (b : ℕ) → is_firm b ≡ true → (b == 91) ≡ false → (b == 93) ≡ false → (b == 124) ≡ false → (b == 61) ≡ false → is_form_byte b ≡ false
other_form b f o c p q =
    let a = or_parts (b == 60) (b == 38 || (b == 123 || b == 125)) (not_true (b == 60 || (b == 38 || (b == 123 || b == 125))) f) in
    let d = or_parts (b == 38) (b == 123 || b == 125) a.1 in
    let e = or_parts (b == 123) (b == 125) d.1 in
    rw (a.0, d.0, e.0, e.1, o, c, p, q) refl

pub less_firm : (b : ℕ) → is_firm b ≡ true → b ≢ 60
less_firm b f = apart b 60 (or_parts (b == 60) (b == 38 || (b == 123 || b == 125)) (not_true (b == 60 || (b == 38 || (b == 123 || b == 125))) f)).0

pub firm_reads : (b : ℕ) (bs : List ℕ) (xs : List Item) → is_firm b ≡ true → Reads bs xs → Reads (b ∷ bs) (char None b ∷ xs)
firm_reads b bs xs f r =
    let P : ℕ → Type 0 = λ (k : ℕ). Reads (k ∷ bs) (char None k ∷ xs) in
    elim (equal_or b 91) [
      | inl i ↦ subst P (sym i) (read_open bs xs r)
      | inr o ↦ elim (equal_or b 93) [
        | inl i ↦ subst P (sym i) (read_close bs xs r)
        | inr c ↦ elim (equal_or b 124) [
          | inl i ↦ subst P (sym i) (read_pipe bs xs r)
          | inr p ↦ elim (equal_or b 61) [
            | inl i ↦ subst P (sym i) (read_equals bs xs r)
            | inr q ↦ reads_byte b bs xs (other_byte Page b bs (other_form b f o c p q)) (comment_other b bs (less_firm b f)) r
          ]
        ]
      ]
    ]

pub firm_read : (q : List ℕ) → AreFirm q → ReadsAs q (page_chars q)
firm_read [] h rest xs r = r
firm_read (b ∷ q) h rest xs r = firm_reads b (q ++ rest) (page_chars q ++ xs) h.0 (firm_read q h.1 rest xs r)

-- ---- parts of a source

part_reads : (p : Part) → IsPart p → ReadsAs (part_source p) (part_items p)
part_reads (characters bs) h = firm_read bs h
part_reads (sign b q) h = λ rest xs r. reads_byte b (q ++ rest) (page_chars q ++ xs) (h.0.none rest) (h.0.uncommented rest) (firm_read q h.1 rest xs r)
part_reads (lexeme kind b q) h = λ rest xs r.
    reads_form kind b q rest xs (h.form rest) (uncommented_other b (q ++ rest) h.begins (h.uncommented rest)) r

pub parts_read : (ps : List Part) → AreParts ps → ReadsAs (parts_source ps) (parts_items ps)
parts_read [] h = nothing_reads
parts_read (p ∷ ps) h = both_read (part_source p) (parts_source ps) (part_items p) (parts_items ps) (part_reads p h.0) (parts_read ps h.1)

-- a node's source is read as it is by itself
pub kept_reads : (source : List ℕ) → IsKept source → ReadsAs source (page_items source)
kept_reads source h =
    let own : ReadsAs source (parts_items h.parts) = subst (λ q. ReadsAs q (parts_items h.parts)) h.is (parts_read h.parts h.are) in
    subst (λ xs. ReadsAs source xs) (sym (alone_as source (parts_items h.parts) own)) own
