-- The widths of the members of parts are the parts' places.
use Rattle.std.proofs.Common.{◌≡◌, ℕ, ◌+◌, Bool, true, false, Option, Some, None, List, [], ◌∷◌, ◌++◌, refl, sym, ap, ◌∙◌, subst, arith}
use Rattle.std.specs.Prelude.{if◌then◌else◌}
use Rattle.wt_span.specs.declared.form.LexKind.TheVariants.{Chars, CommentLine, Comment, Raw, Include, Hidden, Entity, Opens, Closes, LinkOpen, LinkClose, Pipe, Equals}
use Rattle.wt_span.specs.Braces.{Member, Members, lexeme, call, none, more, members, listed, width, width_of_all, PartSign, pipe, equals, sign_of, signs, in_link, PartAt, with_name, parts_between, parts_of}
use Rattle.wt_braces.specs.PartMembers.{PartMembers, put_first, with_member, joined, with_equals, with_sign_of, later_after, split_members, part_members, width_of, name_width, placed}

-- a member is no sign, a `|` or a `=`
pub data SignView (at n : ℕ) (ss : List PartSign) : Type 0 where
  no_sign : ss ≡ [] → SignView at n ss
  a_pipe : ss ≡ pipe at n ∷ [] → SignView at n ss
  an_equals : ss ≡ equals at n ∷ [] → SignView at n ss

view : (x : Member) (at : ℕ) → SignView at (width x) (sign_of x at)
view (lexeme (Chars, n)) at = no_sign refl
view (lexeme (CommentLine, n)) at = no_sign refl
view (lexeme (Comment, n)) at = no_sign refl
view (lexeme (Raw, n)) at = no_sign refl
view (lexeme (Include, n)) at = no_sign refl
view (lexeme (Hidden, n)) at = no_sign refl
view (lexeme (Entity c, n)) at = no_sign refl
view (lexeme (Opens, n)) at = no_sign refl
view (lexeme (Closes, n)) at = no_sign refl
view (lexeme (LinkOpen, n)) at = no_sign refl
view (lexeme (LinkClose, n)) at = no_sign refl
view (lexeme (Pipe, n)) at = a_pipe refl
view (lexeme (Equals, n)) at = an_equals refl
view (call k ms) at = no_sign refl

if_view : (t : Bool) (x : Member) (at : ℕ) → SignView at (width x) (if t then [] else sign_of x at)
if_view true x at = no_sign refl
if_view false x at = view x at

-- ---- where the first part begins

abbrev begun_at : ℕ → List PartAt → List PartAt
begun_at at [] = []
begun_at at (p ∷ ps) = record { from = at; to = p.to; equals_at = p.equals_at } ∷ ps

named_begun : (later : Bool) (at e : ℕ) (ps : List PartAt) → with_name later e (begun_at at ps) ≡ begun_at at (with_name later e ps)
named_begun later at e [] = refl
named_begun true at e (p ∷ ps) = refl
named_begun false at e (p ∷ ps) = refl

begin : (later : Bool) (a b to : ℕ) (ss : List PartSign) → parts_between later a to ss ≡ begun_at a (parts_between later b to ss)
begin later a b to [] = refl
begin later a b to (pipe at n ∷ ss) = refl
begin later a b to (equals at n ∷ ss) = ap (with_name later at) (begin later a b to ss) ∙ named_begun later a at (parts_between later b to ss)

-- ---- one more member

-- a part with its place, and those after it
abbrev part_as : ℕ → ℕ → Option ℕ → ℕ → List PartMembers → List PartAt
part_as from to e next ps = record { from = from; to = to; equals_at = e } ∷ placed next ps

place_first : (at : ℕ) (x : Member) (name : Option (List Member × ℕ)) (value : List Member) (bar : ℕ) (ps : List PartMembers)
    → placed at (put_first x name value bar ∷ ps) ≡ begun_at at (placed (at + width x) (record { name = name; value = value; bar = bar } ∷ ps))
place_first at x None value bar ps =
    let e : at + (0 + (width x + width_of value)) ≡ at + width x + (0 + width_of value) = omega arith in
    ap (λ i. part_as at i None (i + bar) ps) e
place_first at x (Some (xs, n)) value bar ps =
    let e : at + (width x + width_of xs + n + width_of value) ≡ at + width x + (width_of xs + n + width_of value) = omega arith in
    let f : at + (width x + width_of xs) ≡ at + width x + width_of xs = omega arith in
    ap (λ i. part_as at i (Some (at + (width x + width_of xs))) (i + bar) ps) e
    ∙ ap (λ i. part_as at (at + width x + (width_of xs + n + width_of value)) (Some i)
    (at + width x + (width_of xs + n + width_of value) + bar) ps) f

place_member : (at : ℕ) (x : Member) (ps : List PartMembers) → placed at (with_member x ps) ≡ begun_at at (placed (at + width x) ps)
place_member at x [] = refl
place_member at x (p ∷ ps) = place_first at x p.name p.value p.bar ps

append_width : (xs ys : List Member) → width_of (xs ++ ys) ≡ width_of xs + width_of ys
append_width [] ys = omega arith
append_width (x ∷ xs) ys = omega (arith, append_width xs ys)

joined_width : (name : Option (List Member × ℕ)) (value : List Member) → width_of (joined name value) ≡ name_width name + width_of value
joined_width None value = omega arith
joined_width (Some (xs, n)) value = append_width xs (lexeme (Equals, n) ∷ value) ∙ omega arith

place_equals : (at n : ℕ) (ps : List PartMembers) → placed at (with_equals n ps) ≡ with_name true at (begun_at at (placed (at + n) ps))
place_equals at n [] = refl
place_equals at n (p ∷ ps) =
    let e : at + (0 + n + width_of (joined p.name p.value)) ≡ at + n + (name_width p.name + width_of p.value) = omega (arith, joined_width p.name p.value) in
    let f : at + 0 ≡ at = omega arith in
    ap (λ i. part_as at i (Some (at + 0)) (i + p.bar) ps) e
    ∙ ap (λ i. part_as at (at + n + (name_width p.name + width_of p.value)) (Some i)
    (at + n + (name_width p.name + width_of p.value) + p.bar) ps) f

place_pipe : (at n : ℕ) (ps : List PartMembers) → placed at (record { name = None; value = []; bar = n } ∷ ps)
    ≡ record { from = at; to = at; equals_at = None } ∷ placed (at + n) ps
place_pipe at n ps = let e : at + (0 + 0) ≡ at = omega arith in ap (λ i. part_as at i None (i + n) ps) e

unnamed : (e : ℕ) (ps : List PartAt) → with_name false e ps ≡ ps
unnamed e [] = refl
unnamed e (p ∷ ps) = refl

one_more : (later : Bool) (at to : ℕ) (x : Member) (ss rest : List PartSign) (others : Bool → List PartMembers)
    → SignView at (width x) ss → ((l : Bool) → parts_between l (at + width x) to rest ≡ placed (at + width x) (others l))
    → parts_between later at to (ss ++ rest) ≡ placed at (with_sign_of later x ss (others (later_after later ss)))
one_more later at to x ss rest others (no_sign e) h =
    let P : List PartSign → Type 0 = λ s. parts_between later at to (s ++ rest) ≡ placed at (with_sign_of later x s (others (later_after later s))) in
    subst P (sym e) (begin later at (at + width x) to rest ∙ ap (begun_at at) (h later) ∙ sym (place_member at x (others later)))
one_more later at to x ss rest others (a_pipe e) h =
    let P : List PartSign → Type 0 = λ s. parts_between later at to (s ++ rest) ≡ placed at (with_sign_of later x s (others (later_after later s))) in
    subst P (sym e) (ap (λ ps. record { from = at; to = at; equals_at = None } ∷ ps) (h true) ∙ sym (place_pipe at (width x) (others true)))
one_more true at to x ss rest others (an_equals e) h =
    let P : List PartSign → Type 0 = λ s. parts_between true at to (s ++ rest) ≡ placed at (with_sign_of true x s (others (later_after true s))) in
    subst P (sym e) (ap (with_name true at) (begin true at (at + width x) to rest ∙ ap (begun_at at) (h true)) ∙ sym (place_equals at (width x) (others true)))
one_more false at to x ss rest others (an_equals e) h =
    let P : List PartSign → Type 0 = λ s. parts_between false at to (s ++ rest) ≡ placed at (with_sign_of false x s (others (later_after false s))) in
    subst P (sym e) (unnamed at (parts_between false at to rest) ∙ begin false at (at + width x) to rest
    ∙ ap (begun_at at) (h false) ∙ sym (place_member at x (others false)))

split_places : (later : Bool) (at to : ℕ) (before xs : List Member) → to ≡ at + width_of xs
    → parts_between later at to (signs at before xs) ≡ placed at (split_members later at before xs)
split_places later at to before [] e =
    let f : to ≡ at + (0 + 0) = omega (arith, e) in ap (λ i. part_as at i None 0 []) f
split_places later at to before (x ∷ xs) e =
    one_more later at to x (if in_link before xs then [] else sign_of x at) (signs (at + width x) (x ∷ before) xs)
    (λ l. split_members l (at + width x) (x ∷ before) xs) (if_view (in_link before xs) x at)
    (λ l. split_places l (at + width x) to (x ∷ before) xs (omega (arith, e)))

members_listed : (ms : Members) → members (listed ms) ≡ ms
members_listed none = refl
members_listed (more m ms) = ap (more m) (members_listed ms)

pub part_places : (from : ℕ) (ms : Members) → parts_of from ms ≡ placed from (part_members from ms)
unfolding parts_of
part_places from ms = split_places false from (from + width_of_all ms) [] (listed ms) (ap (λ xs. from + width_of_all xs) (sym (members_listed ms)))
