-- The members of the parts of a call: those of each part's name and those of its value.
use Rattle.std.specs.Prelude.{ℕ, ◌+◌, Bool, true, false, Option, Some, None, List, [], ◌∷◌, ◌++◌, if◌then◌else◌}
use Rattle.wt_span.specs.declared.form.LexKind.TheVariants.{Equals, Pipe}
use Rattle.wt_span.specs.Braces.{Member, Members, lexeme, members, listed, width, width_of_all, PartSign, pipe, equals, sign_of, in_link, PartAt}

-- the members of a name with the width of the `=` that ends it, where the part has one; the members of the value; and the
-- width of the `|` that ends the part, 0 at the end of the call
pub record PartMembers : Type 0 where
  pub name : Option (List Member × ℕ)
  pub value : List Member
  pub bar : ℕ

abbrev pub put_first : Member → Option (List Member × ℕ) → List Member → ℕ → PartMembers
put_first x None value bar = record { name = None; value = x ∷ value; bar = bar }
put_first x (Some (xs, n)) value bar = record { name = Some (x ∷ xs, n); value = value; bar = bar }

-- one more member before the first part
abbrev pub with_member : Member → List PartMembers → List PartMembers
with_member x [] = []
with_member x (p ∷ ps) = put_first x p.name p.value p.bar ∷ ps

-- a part as one list
abbrev pub joined : Option (List Member × ℕ) → List Member → List Member
joined None value = value
joined (Some (xs, n)) value = xs ++ lexeme (Equals, n) ∷ value

-- a `=` before the first part ends its name, and a later one belongs to its value
abbrev pub with_equals : ℕ → List PartMembers → List PartMembers
with_equals n [] = []
with_equals n (p ∷ ps) = record { name = Some ([], n); value = joined p.name p.value; bar = p.bar } ∷ ps

-- one more member, by the sign that it is
abbrev pub with_sign_of : Bool → Member → List PartSign → List PartMembers → List PartMembers
with_sign_of later x [] ps = with_member x ps
with_sign_of later x (pipe at n ∷ ss) ps = record { name = None; value = []; bar = n } ∷ ps
with_sign_of later x (equals at n ∷ ss) ps = if later then with_equals n ps else with_member x ps

abbrev pub later_after : Bool → List PartSign → Bool
later_after later [] = later
later_after later (pipe at n ∷ ss) = true
later_after later (equals at n ∷ ss) = later

-- the parts of members of a call's own level; the first of them is the call's target, or a later part
abbrev pub split_members : Bool → ℕ → List Member → List Member → List PartMembers
split_members later at before [] = record { name = None; value = []; bar = 0 } ∷ []
split_members later at before (x ∷ after) =
    let ss = if in_link before after then [] else sign_of x at
    in with_sign_of later x ss (split_members (later_after later ss) (at + width x) (x ∷ before) after)

-- the members of the parts of a call's inside, which begins at `from`
abbrev pub part_members : ℕ → Members → List PartMembers
part_members from ms = split_members false from [] (listed ms)

-- ---- their places

abbrev pub width_of : List Member → ℕ
width_of xs = width_of_all (members xs)

abbrev pub name_width : Option (List Member × ℕ) → ℕ
name_width None = 0
name_width (Some (xs, n)) = width_of xs + n

abbrev pub name_end : ℕ → Option (List Member × ℕ) → Option ℕ
name_end at None = None
name_end at (Some (xs, n)) = Some (at + width_of xs)

-- the places of parts that follow one another, by the widths of their members
abbrev pub placed : ℕ → List PartMembers → List PartAt
placed at [] = []
placed at (p ∷ ps) = record {
  from = at;
  to = at + (name_width p.name + width_of p.value);
  equals_at = name_end at p.name;
} ∷ placed (at + (name_width p.name + width_of p.value) + p.bar) ps

-- ---- together

-- the members of parts, with the bars between them
abbrev pub rejoined : List PartMembers → List Member
rejoined [] = []
rejoined (p ∷ []) = joined p.name p.value
rejoined (p ∷ q ∷ ps) = joined p.name p.value ++ lexeme (Pipe, p.bar) ∷ rejoined (q ∷ ps)
