-- How many nodes with a number forms make: one each, and at most one more for each of their bytes.
use Rattle.std.proofs.Common.{ℕ, zero, suc, ◌+◌, ◌-◌, ◌≤◌, Option, Some, None, List, [], ◌∷◌, length, map, arith, length-append, length-take, length-drop}
use Rattle.wt_span.specs.declared.form.ItemForm.{ItemForm}
use Rattle.wt_span.specs.declared.form.ItemForm.TheVariants as form
use Rattle.wt_span.specs.Entities.{entity_at}
use Rattle.wt_span.specs.Items.{Item, char, whole, sources}
use Rattle.wt_inline.specs.RawTag.{inside_len, behind, inside_of, opening_len}
use Rattle.wt_inline.specs.Inside.{read_with, inside_items}
use Rattle.wt_inline.specs.Parts.{form_leaf, inside_part, nowiki, whole_tree}
use Rattle.wt_annotated.specs.Counted.{numbered}
use Rattle.wt_annotated.specs.Labels.{width}
use Rattle.wt_page_round_trip.specs.Numbers.{makes_all}
use Rattle.wt_page_round_trip.proofs.Makes.{counts, children_count}

-- ---- a form makes one node, and at most one more for each of its bytes

form_one : (f : ItemForm) (o : Option ℕ) (bs : List ℕ) → numbered (form_leaf f o bs) ≤ 1
form_one form.Chars o bs = omega arith
form_one (form.Entity c) o bs = omega arith
form_one form.Nowiki o bs = omega arith
form_one form.Extension o bs = omega arith
form_one form.Function o bs = omega arith
form_one form.Comment o bs = omega arith
form_one form.Include o bs = omega arith
form_one form.Hidden o bs = omega arith
form_one form.EmptyCall o bs = omega arith

inside_count : (xs : List Item) → counts (map inside_part xs) ≤ length xs
inside_count [] = omega arith
inside_count (char o b ∷ xs) = omega (arith, inside_count xs)
inside_count (whole f o bs ∷ xs) = omega (arith, form_one f o bs, inside_count xs)

inside_read : (o : Option ℕ) (e : Option (ℕ × ℕ)) (b : ℕ) (bs : List ℕ) → ((n : ℕ) → length (inside_items o n bs) ≤ length bs)
    → length (read_with o e b bs (λ n. inside_items o n bs)) ≤ suc (length bs)
inside_read o None b bs h = let rest = h 0 in omega arith
inside_read o (Some e) b bs h = let rest = h (e.1 - 1) in omega arith

inside_length : (o : Option ℕ) (n : ℕ) (bs : List ℕ) → length (inside_items o n bs) ≤ length bs
inside_length o zero [] = omega arith
inside_length o (suc n) [] = omega arith
inside_length o (suc n) (b ∷ bs) = omega (arith, inside_length o n bs)
inside_length o zero (b ∷ bs) = inside_read o (entity_at (b ∷ bs)) b bs (λ n. inside_length o n bs)

inside_of_le : (bs : List ℕ) → length (inside_of bs) ≤ length bs
inside_of_le bs = omega (arith, length-take (inside_len bs) (behind bs), length-drop (opening_len bs) bs)

pub nowiki_inside : (o : Option ℕ) (bs : List ℕ) → numbered (nowiki o bs) ≤ 1 + length (inside_of bs)
unfolding nowiki
nowiki_inside o bs =
    let xs = inside_items o 0 (inside_of bs) in
    omega (arith, children_count (map inside_part xs), inside_count xs, inside_length o 0 (inside_of bs))

whole_count : (f : ItemForm) (o : Option ℕ) (bs : List ℕ) → numbered (whole_tree f o bs) ≤ 1 + length bs
whole_count form.Chars o bs = omega arith
whole_count (form.Entity c) o bs = omega arith
whole_count form.Nowiki o bs = omega (arith, nowiki_inside o bs, inside_of_le bs)
whole_count form.Extension o bs = omega arith
whole_count form.Function o bs = omega arith
whole_count form.Comment o bs = omega arith
whole_count form.Include o bs = omega arith
whole_count form.Hidden o bs = omega arith
whole_count form.EmptyCall o bs = omega arith

pub makes_few : (xs : List Item) → makes_all xs ≤ length xs + width xs
makes_few [] = omega arith
makes_few (char o b ∷ xs) = omega (arith, makes_few xs)
makes_few (whole f o bs ∷ xs) = omega (arith, whole_count f o bs, makes_few xs, length-append bs (sources xs))
