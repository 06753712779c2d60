-- Comments and blanks that follow one another: a step over one of them.
use Rattle.std.proofs.Common.{◌≡◌, ℕ, zero, suc, ◌+◌, ◌-◌, ◌<◌, ◌≤◌, Bool, true, false, Option, Some, None, List, [], ◌∷◌, length, get_or, drop, refl, sym, ap, ◌∙◌, arith, length-drop}
use Rattle.std.specs.Prelude.{if◌then◌else◌}
use Rattle.std.proofs.lemmas.List.{drop_more, drop-drop}
use Rattle.wt_span.specs.Bytes.{is_blank}
use Rattle.wt_span.specs.Comments.{comment_len, remarks_with, remarks_len}
use Rattle.wt_comments.specs.Views.{remark_by, remark_len}

blank_none : (t : Bool) (m : ℕ) → ◌≡◌ {A = ℕ} (if t then 1 else 0) 0 → ◌≡◌ {A = ℕ} (if t then 1 + m else 0) 0
blank_none true m e = absurd (omega arith)
blank_none false m e = refl

none_by : (t : Bool) (m b : ℕ) (rest : ℕ → ℕ) → remark_by (if t then Some (4 + m) else None) b ≡ 0 → remarks_with (if t then Some (4 + m) else None) b rest ≡ 0
none_by true m b rest e = absurd (omega arith)
none_by false m b rest e = blank_none (is_blank b) (rest 0) e

none_cons : (b : ℕ) (bs : List ℕ) → remark_len (b ∷ bs) ≡ 0 → remarks_len 0 (b ∷ bs) ≡ 0
unfolding comment_len
none_cons b bs e = none_by _ _ b (λ n. remarks_len n bs) e

-- nothing more
pub remarks_none : (bytes : List ℕ) (at : ℕ) → at < length bytes → remark_len (drop at bytes) ≡ 0 → remarks_len 0 (drop at bytes) ≡ 0
remarks_none bytes at h e =
    let d = drop_more bytes at 0 h in
    ap (remarks_len 0) d ∙ none_cons (get_or bytes at 0) (drop (at + 1) bytes) (sym (ap remark_len d) ∙ e)

skipped : (n : ℕ) (bs : List ℕ) → n ≤ length bs → remarks_len n bs ≡ n + remarks_len 0 (drop n bs)
skipped zero bs le = omega arith
skipped (suc n) [] le = absurd (omega arith)
skipped (suc n) (b ∷ bs) le = omega (arith, skipped n bs (omega arith))

blank_some : (t : Bool) (m n : ℕ) (rest : ℕ → ℕ) → ◌≡◌ {A = ℕ} (if t then 1 else 0) (suc n) → ◌≡◌ {A = ℕ} (if t then 1 + rest 0 else 0) (1 + rest n)
blank_some true m n rest e = let z : n ≡ 0 = omega arith in ap (λ (k : ℕ). 1 + rest k) (sym z)
blank_some false m n rest e = absurd (omega arith)

some_by : (o : Option ℕ) (b n : ℕ) (rest : ℕ → ℕ) → remark_by o b ≡ suc n → remarks_with o b rest ≡ 1 + rest n
some_by None b n rest e = blank_some (is_blank b) 0 n rest e
some_by (Some m) b n rest e = let z : m - 1 ≡ n = omega arith in ap (λ (k : ℕ). 1 + rest k) z

some_cons : (b : ℕ) (bs : List ℕ) (n : ℕ) → n ≤ length bs → remark_len (b ∷ bs) ≡ suc n → remarks_len 0 (b ∷ bs) ≡ suc n + remarks_len 0 (drop n bs)
some_cons b bs n le e = some_by (comment_len (b ∷ bs)) b n (λ m. remarks_len m bs) e ∙ omega (arith, skipped n bs le)

-- one more
pub remarks_more : (bytes : List ℕ) (at n : ℕ) → at < length bytes → at + n ≤ length bytes → 0 < n → remark_len (drop at bytes) ≡ n
    → at + n + remarks_len 0 (drop (at + n) bytes) ≡ at + remarks_len 0 (drop at bytes)
remarks_more bytes at n h le pos e =
    let d = drop_more bytes at 0 h in
    let size : n ≡ suc (n - 1) = omega arith in
    let there : at + 1 + (n - 1) ≡ at + n = omega arith in
    let step = some_cons (get_or bytes at 0) (drop (at + 1) bytes) (n - 1) (omega (arith, length-drop (at + 1) bytes)) (sym (ap remark_len d) ∙ e ∙ size) in
    let all : remarks_len 0 (drop at bytes) ≡ suc (n - 1) + remarks_len 0 (drop (at + n) bytes) =
    ap (remarks_len 0) d ∙ step ∙ ap (λ t. suc (n - 1) + remarks_len 0 t) (drop-drop (n - 1) (at + 1) bytes)
    ∙ ap (λ (m : ℕ). suc (n - 1) + remarks_len 0 (drop m bytes)) there in
    omega arith
