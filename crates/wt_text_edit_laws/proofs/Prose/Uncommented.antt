-- Where no comment begins a text, nor follows the blanks that begin it, it is read the same whether a line break stands before it or not.
use Rattle.std.proofs.Common.{arith, ◌≡◌, ℕ, ◌+◌, Bool, true, false, Some, None, List, ◌∷◌, nat_lt, ap, ◌∙◌, sym, refl}
use Rattle.std.specs.Prelude.{◌&&◌, if◌then◌else◌, slice_index}
use Rattle.std.specs.Option.{option_or}
use Rattle.std.proofs.lemmas.Bool.Decides.{nat_tests}
use Rattle.wt_span.specs.declared.form.Mode.{Mode}
use Rattle.wt_span.specs.declared.form.LexKind.TheVariants.{CommentLine, Comment, Raw}
use Rattle.wt_span.specs.Bytes.{is_blank, is_break, blank_len}
use Rattle.wt_span.specs.Comments.{comment_len, comment_line_len, remarks_len, remarks_with}
use Rattle.wt_span.specs.Tags.{raw_len, include_at}
use Rattle.wt_span.specs.Entities.{entity_at}
use Rattle.wt_span.specs.Lexemes.{as_word, entity_word, sign_word, form_at}

-- what begins it are blanks alone
pub record BeginsUncommented (bs : List ℕ) : Type 0 where
  pub is : remarks_len 0 bs ≡ blank_len bs

-- one more byte
pub uncommented_byte : (b : ℕ) (bs : List ℕ) → comment_len (b ∷ bs) ≡ None → BeginsUncommented bs → BeginsUncommented (b ∷ bs)
uncommented_byte b bs c h = record {
  is = ap (λ o. remarks_with o b (λ n. remarks_len n bs)) c ∙ ap (λ (n : ℕ). if is_blank b then 1 + n else 0) h.is;
}

-- a byte that is no blank, whatever follows it
pub uncommented_other : (b : ℕ) (bs : List ℕ) → is_blank b ≡ false → comment_len (b ∷ bs) ≡ None → BeginsUncommented (b ∷ bs)
uncommented_other b bs e c = record {
  is = ap (λ o. remarks_with o b (λ n. remarks_len n bs)) c
      ∙ ap (λ t. if t then 1 + remarks_len 0 bs else 0) e ∙ sym (ap (λ t. if t then 1 + blank_len bs else 0) e);
}

not_below : (n : ℕ) → nat_lt n n ≡ false
not_below n = grind (arith, nat_tests)

no_line : (bs : List ℕ) → BeginsUncommented bs → comment_line_len bs ≡ None
unfolding comment_line_len
no_line bs h =
    ap (λ (n : ℕ). if nat_lt (blank_len bs) n && is_break (slice_index bs n) then Some (n + 1) else None) h.is
    ∙ ap (λ (t : Bool). if t && is_break (slice_index bs (blank_len bs)) then Some (blank_len bs + 1) else None) (not_below (blank_len bs))

pub either_flag : (mode : Mode) (after : Bool) (bs : List ℕ) → BeginsUncommented bs → form_at mode after bs ≡ form_at mode false bs
unfolding form_at
either_flag mode false bs h = refl
either_flag mode true bs h =
    ap (λ o. option_or (as_word CommentLine o) (option_or (as_word Comment (comment_len bs)) (option_or (as_word Raw (raw_len bs))
    (option_or (include_at mode bs) (option_or (entity_word (entity_at bs)) (sign_word bs)))))) (no_line bs h)
