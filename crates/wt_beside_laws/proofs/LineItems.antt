-- The lines of a content are cut where a line break is typed.
use Rattle.std.proofs.Common.{arith, ◌≡◌, ℕ, ◌≤◌, ◌==◌, Bool, true, false, None, List, [], ◌∷◌, ◌++◌, refl, sym, ap, ◌∙◌, subst, inl, inr, All}
use Rattle.std.specs.Prelude.{if◌then◌else◌, encode_utf8}
use Rattle.std.proofs.lemmas.Bool.{cases_lt}
use Rattle.std.proofs.lemmas.Bool.Decides.{nat_tests}
use Rattle.std.proofs.lemmas.List.Elements.{All-head, All-tail}
use Rattle.std.proofs.lemmas.Str.{encode_ascii}
use Rattle.wt_span.specs.Items.{Item, char}
use Rattle.wt_names.proofs.Ascii.{IsWide, encode_wide}
use Rattle.wt_tree.specs.declared.edit_shape.Place.{Place}
use Rattle.wt_guards.specs.Content.{ContentSign, letter, thing}
use Rattle.wt_guards.specs.Guards.{Setting, is_guarded, spelled}
use Rattle.wt_guards.specs.Letters.{is_escaped}
use Rattle.wt_expand.specs.PageItems.{page_items}
use Rattle.wt_lines.specs.Lines.{lines, onto, IsUnbroken}
use Rattle.wt_text_edit_laws.specs.LonePages.{page_chars}
use Rattle.wt_beside_laws.specs.Content.{guard_items, letter_items, content_items}
use Rattle.wt_beside_laws.specs.Lines.{AreUnbroken, line_items, later_lines, content_lines}
use Rattle.wt_beside_laws.proofs.Marks.Commented.{content_alone}
use Rattle.wt_beside_laws.specs.Flat.{IsReadIn}
use Rattle.wt_beside_laws.specs.NodeItems.{node_items}

-- ---- items without a line break

pub unbroken_before : (ys xs l : List Item) (ls : List (List Item)) → IsUnbroken ys → lines xs ≡ l ∷ ls → lines (ys ++ xs) ≡ (ys ++ l) ∷ ls
unbroken_before [] xs l ls u e = e
unbroken_before (y ∷ ys) xs l ls u e =
    ap (λ (t : Bool). if t then [] ∷ lines (ys ++ xs) else onto (y ∷ []) (lines (ys ++ xs))) u.0
    ∙ ap (onto (y ∷ [])) (unbroken_before ys xs l ls u.1 e)

pub guard_before : (u : Bool) (xs l : List Item) (ls : List (List Item)) → lines xs ≡ l ∷ ls → lines (guard_items u ++ xs) ≡ (guard_items u ++ l) ∷ ls
guard_before true xs l ls e = ap (onto (guard_items true)) e
guard_before false xs l ls e = e

pub guard_alone : (u : Bool) → lines (guard_items u) ≡ guard_items u ∷ []
guard_alone true = refl
guard_alone false = refl

-- ---- a character

wide_unbroken : (bs : List ℕ) → All IsWide bs → IsUnbroken (page_chars bs)
wide_unbroken [] h = tt
wide_unbroken (b ∷ bs) h = (not_break b (All-head IsWide b bs h), wide_unbroken bs (All-tail IsWide b bs h))
  where
    not_break : (b : ℕ) → 128 ≤ b → (b == 10) ≡ false
    not_break b le = grind (arith, nat_tests)

pub letter_unbroken : (e : Bool) (c : ℕ) → (c == 10) ≡ false → IsUnbroken (letter_items e c)
letter_unbroken true c n = (refl, tt)
letter_unbroken false c n = elim (cases_lt c 128) [
  | inl small ↦ subst (λ bs. IsUnbroken (page_chars bs)) (sym (encode_ascii c small)) (n, tt)
  | inr wide ↦ wide_unbroken (encode_utf8 c) (encode_wide c wide)
]

-- a line break is written as it is
break_written : (within : Bool) (p : Place) (before after : List ContentSign) → is_escaped within p before 10 after ≡ false
unfolding is_escaped
break_written within p before after = refl

pub break_items : (within : Bool) (p : Place) (before after : List ContentSign) → letter_items (is_escaped within p before 10 after) 10 ≡ char None 10 ∷ []
break_items within p before after = ap (λ (e : Bool). letter_items e 10) (break_written within p before after) ∙ ap page_chars (encode_ascii 10 (omega arith))

letter_lines : (s : Setting) (before : List ContentSign) (c : ℕ) (after : List ContentSign) (t : Bool) → (c == 10) ≡ t
    → lines (content_items s (letter c ∷ before) after) ≡ line_items s (letter c ∷ before) after ∷ later_lines s (letter c ∷ before) after
    → lines (letter_items (is_escaped s.within s.place before c after) c ++ content_items s (letter c ∷ before) after)
    ≡ (if t then [] else letter_items (is_escaped s.within s.place before c after) c ++ line_items s (letter c ∷ before) after)
    ∷ (if t then line_items s (letter c ∷ before) after ∷ later_lines s (letter c ∷ before) after else later_lines s (letter c ∷ before) after)
letter_lines s before c after true i e =
    let P : ℕ → Type 0 = λ (k : ℕ). lines (content_items s (letter k ∷ before) after) ≡ line_items s (letter k ∷ before) after ∷ later_lines s (letter k ∷ before) after
    → lines (letter_items (is_escaped s.within s.place before k after) k ++ content_items s (letter k ∷ before) after)
    ≡ [] ∷ line_items s (letter k ∷ before) after ∷ later_lines s (letter k ∷ before) after in
    let is : c ≡ 10 = grind (arith, nat_tests, i) in
    subst P (sym is)
    (λ f. ap (λ ys. lines (ys ++ content_items s (letter 10 ∷ before) after)) (break_items s.within s.place before after) ∙ ap (λ ls. [] ∷ ls) f) e
letter_lines s before c after false i e =
    unbroken_before (letter_items (is_escaped s.within s.place before c after) c) (content_items s (letter c ∷ before) after)
    (line_items s (letter c ∷ before) after) (later_lines s (letter c ∷ before) after) (letter_unbroken (is_escaped s.within s.place before c after) c i) e

-- ---- all of it

pub lines_from : (s : Setting) (before signs : List ContentSign) → AreUnbroken signs
    → lines (content_items s before signs) ≡ line_items s before signs ∷ later_lines s before signs
lines_from s before [] u = guard_alone (is_guarded s before [])
lines_from s before (letter c ∷ after) u =
    guard_before (is_guarded s before (letter c ∷ after))
    (letter_items (is_escaped s.within s.place before c after) c ++ content_items s (letter c ∷ before) after) _ _
    (letter_lines s before c after (c == 10) refl (lines_from s (letter c ∷ before) after u))
lines_from s before (thing t ∷ after) u =
    let xs : List Item = content_items s (thing t ∷ before) after in
    guard_before (is_guarded s before (thing t ∷ after)) (node_items t.source ++ xs) _ _
    (unbroken_before (node_items t.source) xs (line_items s (thing t ∷ before) after) (later_lines s (thing t ∷ before) after) u.0
    (lines_from s (thing t ∷ before) after u.1))

pub content_lines_are : (s : Setting) (signs : List ContentSign) → IsReadIn s signs → AreUnbroken signs
    → lines (page_items (spelled s signs)) ≡ content_lines s signs
content_lines_are s signs k u = ap lines (content_alone s signs k) ∙ lines_from s [] signs u
