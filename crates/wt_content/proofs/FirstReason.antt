-- The reason that is answered is the first by its order.
use Rattle.std.proofs.Common.{◌≡◌, ◌<◌, Bool, true, false, List, [], ◌∷◌, refl, Some, None, arith, subst}
use Rattle.std.specs.Prelude.{if◌then◌else◌}
use Rattle.std.specs.List.{Contains, list_any, slice_index_or}
use Rattle.std.proofs.lemmas.List.Folds.{Any-from_list_any, list_any-from_Any}
use Rattle.wt_tree.specs.Tree.{Tree, label}
use Rattle.wt_content.specs.declared.reason.ContentWhy.{ContentWhy}
use Rattle.wt_content.specs.declared.reason.ContentWhy.TheVariants as why
use Rattle.wt_content.specs.Children.{bad_children, children_faults, holder_of}
use Rattle.wt_content.specs.Content.{bad_content, content_faults, first_why, held, is_element, is_empty_list, is_href, is_line_break, is_nested}
use Rattle.wt_content.specs.ContentLaws.{order, IsFirstReason}

-- a test that one reason alone passes
there : (p : ContentWhy → Bool) (w : ContentWhy) → ((v : ContentWhy) → p v ≡ true → v ≡ w) → (ws : List ContentWhy) → list_any p ws ≡ true → Contains ws w
there p w one ws e =
    let found = Any-from_list_any p ws e in
    (found.0, found.2, subst (λ (v : ContentWhy). slice_index_or ws found.0 v ≡ v) (one found.1 found.4) found.3)

nowhere : (p : ContentWhy → Bool) (v : ContentWhy) → p v ≡ true → (ws : List ContentWhy) → list_any p ws ≡ false → Contains ws v → ⊥
nowhere p v e ws none h =
    let some : list_any p ws ≡ true = list_any-from_Any p ws (h.0, v, h.1, h.2, e) in
    cc

one_element : (v : ContentWhy) → is_element v ≡ true → v ≡ why.Element
one_element why.Element e = refl
one_element why.Href e = cc
one_element why.LineBreak e = cc
one_element why.Nested e = cc
one_element why.EmptyList e = cc

one_href : (v : ContentWhy) → is_href v ≡ true → v ≡ why.Href
one_href why.Element e = cc
one_href why.Href e = refl
one_href why.LineBreak e = cc
one_href why.Nested e = cc
one_href why.EmptyList e = cc

one_line_break : (v : ContentWhy) → is_line_break v ≡ true → v ≡ why.LineBreak
one_line_break why.Element e = cc
one_line_break why.Href e = cc
one_line_break why.LineBreak e = refl
one_line_break why.Nested e = cc
one_line_break why.EmptyList e = cc

one_nested : (v : ContentWhy) → is_nested v ≡ true → v ≡ why.Nested
one_nested why.Element e = cc
one_nested why.Href e = cc
one_nested why.LineBreak e = cc
one_nested why.Nested e = refl
one_nested why.EmptyList e = cc

one_empty_list : (v : ContentWhy) → is_empty_list v ≡ true → v ≡ why.EmptyList
one_empty_list why.Element e = cc
one_empty_list why.Href e = cc
one_empty_list why.LineBreak e = cc
one_empty_list why.Nested e = cc
one_empty_list why.EmptyList e = refl

nothing : (ws : List ContentWhy) → list_any is_element ws ≡ false → list_any is_href ws ≡ false → list_any is_line_break ws ≡ false
    → list_any is_nested ws ≡ false → list_any is_empty_list ws ≡ false → ws ≡ []
nothing [] a b c d f = refl
nothing (why.Element ∷ ws) a b c d f = cc
nothing (why.Href ∷ ws) a b c d f = cc
nothing (why.LineBreak ∷ ws) a b c d f = cc
nothing (why.Nested ∷ ws) a b c d f = cc
nothing (why.EmptyList ∷ ws) a b c d f = cc

before_href : (ws : List ContentWhy) → list_any is_element ws ≡ false → (v : ContentWhy) → order v < 1 → Contains ws v → ⊥
before_href ws a why.Element l h = nowhere is_element why.Element refl ws a h
before_href ws a why.Href l h = omega arith
before_href ws a why.LineBreak l h = omega arith
before_href ws a why.Nested l h = omega arith
before_href ws a why.EmptyList l h = omega arith

before_line_break : (ws : List ContentWhy) → list_any is_element ws ≡ false → list_any is_href ws ≡ false
    → (v : ContentWhy) → order v < 2 → Contains ws v → ⊥
before_line_break ws a b why.Element l h = nowhere is_element why.Element refl ws a h
before_line_break ws a b why.Href l h = nowhere is_href why.Href refl ws b h
before_line_break ws a b why.LineBreak l h = omega arith
before_line_break ws a b why.Nested l h = omega arith
before_line_break ws a b why.EmptyList l h = omega arith

before_nested : (ws : List ContentWhy) → list_any is_element ws ≡ false → list_any is_href ws ≡ false → list_any is_line_break ws ≡ false
    → (v : ContentWhy) → order v < 3 → Contains ws v → ⊥
before_nested ws a b c why.Element l h = nowhere is_element why.Element refl ws a h
before_nested ws a b c why.Href l h = nowhere is_href why.Href refl ws b h
before_nested ws a b c why.LineBreak l h = nowhere is_line_break why.LineBreak refl ws c h
before_nested ws a b c why.Nested l h = omega arith
before_nested ws a b c why.EmptyList l h = omega arith

before_empty_list : (ws : List ContentWhy) → list_any is_element ws ≡ false → list_any is_href ws ≡ false → list_any is_line_break ws ≡ false
    → list_any is_nested ws ≡ false → (v : ContentWhy) → order v < 4 → Contains ws v → ⊥
before_empty_list ws a b c d why.Element l h = nowhere is_element why.Element refl ws a h
before_empty_list ws a b c d why.Href l h = nowhere is_href why.Href refl ws b h
before_empty_list ws a b c d why.LineBreak l h = nowhere is_line_break why.LineBreak refl ws c h
before_empty_list ws a b c d why.Nested l h = nowhere is_nested why.Nested refl ws d h
before_empty_list ws a b c d why.EmptyList l h = omega arith

first_by : (ws : List ContentWhy) (a b c d f : Bool) → list_any is_element ws ≡ a → list_any is_href ws ≡ b → list_any is_line_break ws ≡ c
    → list_any is_nested ws ≡ d → list_any is_empty_list ws ≡ f
    → IsFirstReason ws (if a then Some why.Element else
    (if b then Some why.Href else (if c then Some why.LineBreak else (if d then Some why.Nested else (if f then Some why.EmptyList else None)))))
first_by ws true b c d f ea eb ec ed ef = (there is_element why.Element one_element ws ea, λ v l h. omega arith)
first_by ws false true c d f ea eb ec ed ef = (there is_href why.Href one_href ws eb, before_href ws ea)
first_by ws false false true d f ea eb ec ed ef = (there is_line_break why.LineBreak one_line_break ws ec, before_line_break ws ea eb)
first_by ws false false false true f ea eb ec ed ef = (there is_nested why.Nested one_nested ws ed, before_nested ws ea eb ec)
first_by ws false false false false true ea eb ec ed ef = (there is_empty_list why.EmptyList one_empty_list ws ef, before_empty_list ws ea eb ec ed)
first_by ws false false false false false ea eb ec ed ef = nothing ws ea eb ec ed ef

pub first_of_faults : (ws : List ContentWhy) → IsFirstReason ws (first_why ws)
first_of_faults ws = first_by ws _ _ _ _ _ refl refl refl refl refl

pub first_reason : (same : Tree → Tree → Bool) (old new : Tree) → IsFirstReason (content_faults same old new) (bad_content same old new)
unfolding bad_content
first_reason same old new = first_of_faults (content_faults same old new)

pub first_of_children : (same : Tree → Tree → Bool) (new : Tree)
    → IsFirstReason (children_faults same (holder_of (label new).kind) (held new)) (bad_children same new)
unfolding bad_children
first_of_children same new = first_of_faults (children_faults same (holder_of (label new).kind) (held new))
