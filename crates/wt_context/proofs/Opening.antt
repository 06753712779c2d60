-- Items opened once and once more, and trees round parts that hold items.
use Rattle.std.proofs.Common.{◌≡◌, ℕ, zero, suc, ◌-◌, Option, Some, None, List, [], ◌∷◌, ◌++◌, take, map, refl, sym, ap, ◌∙◌}
use Rattle.wt_span.specs.declared.form.ItemForm.{ItemForm}
use Rattle.wt_span.specs.declared.form.ItemForm.TheVariants as form
use Rattle.wt_span.specs.Entities.{entity_at}
use Rattle.wt_span.specs.Items.{Item, char, whole}
use Rattle.wt_inline.specs.declared.loose.Loose.{Loose}
use Rattle.wt_inline.specs.RawTag.{opening_of, inside_of, closing_of}
use Rattle.wt_inline.specs.Inside.{read_with, inside_items, opened_whole, opened, opened_all}
use Rattle.wt_inline.specs.ItemTree.{Head, tree_items, held_by_all, forest}
use Rattle.wt_inline.specs.Parts.{Part, held_parts, parts, children}
use Rattle.wt_inline.proofs.HeldLaws.{held_children, held_of_parts, opened_append}
use Rattle.wt_context.specs.Nodes.{round_parts}

-- ---- opened twice is opened once

opened_bytes : (o : Option ℕ) (bs : List ℕ) → opened_all (map (char o) bs) ≡ map (char o) bs
opened_bytes o [] = refl
opened_bytes o (b ∷ bs) = ap (λ xs. char o b ∷ xs) (opened_bytes o bs)

opened_read : (o : Option ℕ) (e : Option (ℕ × ℕ)) (b : ℕ) (bs : List ℕ)
    → ((n : ℕ) → opened_all (inside_items o n bs) ≡ inside_items o n bs)
    → opened_all (read_with o e b bs (λ n. inside_items o n bs)) ≡ read_with o e b bs (λ n. inside_items o n bs)
opened_read o None b bs h = ap (λ xs. char o b ∷ xs) (h 0)
opened_read o (Some e) b bs h = ap (λ xs. whole (form.Entity e.0) o (b ∷ take (e.1 - 1) bs) ∷ xs) (h (e.1 - 1))

opened_inside : (o : Option ℕ) (n : ℕ) (bs : List ℕ) → opened_all (inside_items o n bs) ≡ inside_items o n bs
opened_inside o zero [] = refl
opened_inside o (suc n) [] = refl
opened_inside o (suc n) (b ∷ bs) = opened_inside o n bs
opened_inside o zero (b ∷ bs) = opened_read o (entity_at (b ∷ bs)) b bs (λ n. opened_inside o n bs)

opened_nowiki : (o : Option ℕ) (bs : List ℕ) → opened_all (opened_whole form.Nowiki o bs) ≡ opened_whole form.Nowiki o bs
opened_nowiki o bs =
    let xs = inside_items o 0 (inside_of bs) in
    let front = map (char o) (opening_of bs) in
    let back = map (char o) (closing_of bs) in
    opened_append front (xs ++ back)
    ∙ ap (λ ys. ys ++ opened_all (xs ++ back)) (opened_bytes o (opening_of bs))
    ∙ ap (λ ys. front ++ ys) (opened_append xs back ∙ ap (λ ys. ys ++ opened_all back) (opened_inside o 0 (inside_of bs))
    ∙ ap (λ ys. xs ++ ys) (opened_bytes o (closing_of bs)))

opened_form : (f : ItemForm) (o : Option ℕ) (bs : List ℕ) → opened_all (opened_whole f o bs) ≡ opened_whole f o bs
opened_form form.Chars o bs = refl
opened_form (form.Entity c) o bs = refl
opened_form form.Nowiki o bs = opened_nowiki o bs
opened_form form.Extension o bs = refl
opened_form form.Function o bs = refl
opened_form form.Comment o bs = refl
opened_form form.Include o bs = refl
opened_form form.Hidden o bs = refl
opened_form form.EmptyCall o bs = refl

opened_one : (x : Item) → opened_all (opened x) ≡ opened x
opened_one (char o b) = refl
opened_one (whole f o bs) = opened_form f o bs

pub opened_twice : (xs : List Item) → opened_all (opened_all xs) ≡ opened_all xs
opened_twice [] = refl
opened_twice (x ∷ xs) = opened_append (opened x) (opened_all xs) ∙ ap (λ ys. ys ++ opened_all (opened_all xs)) (opened_one x)
    ∙ ap (λ ys. opened x ++ ys) (opened_twice xs)

-- ---- parts that hold items, when opened

abbrev pub Hold : List Part → List Item → Type 0
Hold ps xs = opened_all (held_parts ps) ≡ opened_all xs

pub parts_hold : (k : Loose) (xs : List Item) → Hold (parts k xs) xs
parts_hold k xs = ap opened_all (held_of_parts k xs) ∙ opened_twice xs

-- a node holds its delimiters and what stands between them
pub round_holds : (h : Head) (opening closing inside : List Item) (ps : List Part) → Hold ps inside
    → opened_all (tree_items (round_parts h opening ps closing)) ≡ opened_all (opening ++ (inside ++ closing))
round_holds h opening closing inside ps e =
    opened_append opening (held_by_all (forest (children ps)) ++ closing)
    ∙ ap (λ ys. opened_all opening ++ ys) (opened_append (held_by_all (forest (children ps))) closing
    ∙ ap (λ ys. ys ++ opened_all closing) (ap opened_all (held_children ps) ∙ e)
    ∙ sym (opened_append inside closing))
    ∙ sym (opened_append opening (inside ++ closing))
