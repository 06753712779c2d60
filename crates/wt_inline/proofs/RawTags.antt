-- The three parts of a raw tag.
use Rattle.std.proofs.Common.{◌≡◌, ℕ, zero, suc, ◌+◌, ◌-◌, ◌<◌, ◌≤◌, Bool, true, false, Option, Some, None, List, [], ◌∷◌, length, drop, get_or, refl, sym, ap, ◌∙◌, subst, arith}
use Rattle.std.specs.Prelude.{is_some}
use Rattle.std.specs.Str.{IsUtf8, IsCharBoundary}
use Rattle.std.proofs.lemmas.Str.{IsCharBoundary-after_ascii}
use Rattle.std.proofs.lemmas.List.{get_or-drop}
use Rattle.wt_span.specs.Tags.{Tag, opening_tag, closing_tag, len_if_named}
use Rattle.wt_lex.proofs.TagForms.{OptTag, TagFits, opening_fits, closing_fits}
use Rattle.wt_inline.specs.RawTag.{before_closing}

-- a closing tag begins with `<`
closing_sign_by : (name bs : List ℕ) (o : Option Tag) → OptTag bs o → is_some (len_if_named name o) ≡ true → get_or bs 0 0 ≡ 60
closing_sign_by name bs None f e = cc
closing_sign_by name bs (Some t) f e = f.first

pub closing_sign : (name bs : List ℕ) → is_some (len_if_named name (closing_tag bs)) ≡ true → get_or bs 0 0 ≡ 60
closing_sign name bs e = closing_sign_by name bs (closing_tag bs) (closing_fits bs) e

-- a text can be cut behind a tag
pub tag_border : (bs : List ℕ) (t : Tag) → IsUtf8 bs → opening_tag bs ≡ Some t → IsCharBoundary bs t.len
tag_border bs t u e =
    let f : TagFits bs t = subst (OptTag bs) e (opening_fits bs) in
    let is : get_or bs (t.len - 1) 0 < 128 = omega (arith, f.last) in
    let there : t.len - 1 + 1 ≡ t.len = omega (arith, f.some) in
    subst (IsCharBoundary bs) there (IsCharBoundary-after_ascii bs (t.len - 1) u (omega (arith, f.some, f.within)) is)

-- ---- before a closing tag

pub before_here : (name bs : List ℕ) (at : ℕ) → at < length bs → is_some (len_if_named name (closing_tag (drop at bs))) ≡ true
    → before_closing name (drop at bs) ≡ 0
before_here name [] at h e = absurd (omega arith)
before_here name (b ∷ bs) zero h e = rw e refl
before_here name (b ∷ bs) (suc at) h e = before_here name bs at (omega arith) e

pub before_more : (name bs : List ℕ) (at : ℕ) → at < length bs → is_some (len_if_named name (closing_tag (drop at bs))) ≡ false
    → before_closing name (drop at bs) ≡ 1 + before_closing name (drop (suc at) bs)
before_more name [] at h e = absurd (omega arith)
before_more name (b ∷ bs) zero h e = rw e refl
before_more name (b ∷ bs) (suc at) h e = before_more name bs at (omega arith) e

-- a text can be cut before a `<`, and at its end
pub sign_border : (bs : List ℕ) (n : ℕ) → n ≤ length bs → (n < length bs → get_or bs n 0 ≡ 60) → IsCharBoundary bs n
sign_border bs n le s = (le, λ lt high. let is = s lt in absurd (omega arith))

pub here_value : (name bs rest : List ℕ) (at : ℕ) (v : Bool) (o : Option ℕ) → at < length bs → rest ≡ drop at bs
    → o ≡ len_if_named name (closing_tag rest) → v ≡ is_some o → v ≡ true
    → at + before_closing name (drop at bs) ≡ before_closing name bs → at ≡ before_closing name bs
here_value name bs rest at v o h er eo ev e i =
    let z : before_closing name (drop at bs) ≡ 0 =
    before_here name bs at h (ap (λ r. is_some (len_if_named name (closing_tag r))) (sym er) ∙ ap is_some (sym eo) ∙ sym ev ∙ e) in
    omega (arith, i, z)

pub here_sign : (name bs rest : List ℕ) (at : ℕ) (v : Bool) (o : Option ℕ) → rest ≡ drop at bs
    → o ≡ len_if_named name (closing_tag rest) → v ≡ is_some o → v ≡ true → get_or bs at 0 ≡ 60
here_sign name bs rest at v o er eo ev e =
    let z : at + 0 ≡ at = omega arith in
    sym (ap (λ k. get_or bs k 0) z) ∙ sym (get_or-drop at bs 0 0)
    ∙ closing_sign name (drop at bs) (ap (λ r. is_some (len_if_named name (closing_tag r))) (sym er) ∙ ap is_some (sym eo) ∙ sym ev ∙ e)

pub more_value : (name bs rest : List ℕ) (at : ℕ) (v : Bool) (o : Option ℕ) → at < length bs → rest ≡ drop at bs
    → o ≡ len_if_named name (closing_tag rest) → v ≡ is_some o → v ≡ false
    → at + before_closing name (drop at bs) ≡ before_closing name bs → at + 1 + before_closing name (drop (at + 1) bs) ≡ before_closing name bs
more_value name bs rest at v o h er eo ev e i =
    let one : at + 1 ≡ suc at = omega arith in
    let z : before_closing name (drop at bs) ≡ 1 + before_closing name (drop (suc at) bs) =
    before_more name bs at h (ap (λ r. is_some (len_if_named name (closing_tag r))) (sym er) ∙ ap is_some (sym eo) ∙ sym ev ∙ e) in
    let y : before_closing name (drop (at + 1) bs) ≡ before_closing name (drop (suc at) bs) = ap (λ k. before_closing name (drop k bs)) one in
    omega (arith, i, z, y)
