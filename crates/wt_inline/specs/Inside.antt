-- The inside of `nowiki` as items: its characters, and its entities, since nothing else is read there.
use Rattle.std.specs.Prelude.{ℕ, zero, suc, ◌-◌, Option, Some, None, List, [], ◌∷◌, ◌++◌, map, take}
use Rattle.std.specs.List.{flat_map}
use Rattle.wt_span.specs.declared.form.ItemForm.{ItemForm}
use Rattle.wt_span.specs.declared.form.ItemForm.TheVariants as form
use Rattle.wt_span.specs.Entities.{entity_at}
use Rattle.wt_span.specs.Items.{Item, char, whole}
use Rattle.wt_inline.specs.RawTag.{opening_of, inside_of, closing_of}

-- an entity or a character, before the items of what follows it
abbrev pub read_with : Option ℕ → Option (ℕ × ℕ) → ℕ → List ℕ → (ℕ → List Item) → List Item
read_with o None b bs rest = char o b ∷ rest 0
read_with o (Some e) b bs rest = whole (form.Entity e.0) o (b ∷ take (e.1 - 1) bs) ∷ rest (e.1 - 1)

-- the items of bytes of which the first n lie in an entity
abbrev pub inside_items : Option ℕ → ℕ → List ℕ → List Item
inside_items o n [] = []
inside_items o (suc n) (b ∷ bs) = inside_items o n bs
inside_items o zero (b ∷ bs) = read_with o (entity_at (b ∷ bs)) b bs (λ n. inside_items o n bs)

-- A `nowiki` is one item. Opened it is the characters of its two tags, and the items of its inside between them; any other
-- item is itself.
abbrev pub opened_whole : ItemForm → Option ℕ → List ℕ → List Item
opened_whole form.Chars o bs = whole form.Chars o bs ∷ []
opened_whole (form.Entity c) o bs = whole (form.Entity c) o bs ∷ []
opened_whole form.Nowiki o bs = map (char o) (opening_of bs) ++ (inside_items o 0 (inside_of bs) ++ map (char o) (closing_of bs))
opened_whole form.Extension o bs = whole form.Extension o bs ∷ []
opened_whole form.Function o bs = whole form.Function o bs ∷ []
opened_whole form.Comment o bs = whole form.Comment o bs ∷ []
opened_whole form.Include o bs = whole form.Include o bs ∷ []
opened_whole form.Hidden o bs = whole form.Hidden o bs ∷ []
opened_whole form.EmptyCall o bs = whole form.EmptyCall o bs ∷ []

abbrev pub opened : Item → List Item
opened (char o b) = char o b ∷ []
opened (whole f o bs) = opened_whole f o bs

abbrev pub opened_all : List Item → List Item
opened_all items = flat_map opened items
