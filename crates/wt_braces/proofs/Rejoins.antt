-- The members of a call's parts, with the bars between them, are the members of the call.
use Rattle.std.proofs.Common.{◌≡◌, ℕ, ◌+◌, Bool, true, false, Option, Some, None, List, [], ◌∷◌, ◌++◌, refl, sym, ap, ◌∙◌}
use Rattle.std.specs.Prelude.{if◌then◌else◌}
use Rattle.wt_span.specs.declared.form.LexKind.TheVariants.{Chars, CommentLine, Comment, Raw, Include, Hidden, Entity, Opens, Closes, LinkOpen, LinkClose, Pipe, Equals}
use Rattle.wt_span.specs.Braces.{Member, Members, lexeme, call, listed, width, PartSign, pipe, equals, sign_of, in_link}
use Rattle.wt_braces.specs.PartMembers.{PartMembers, put_first, with_member, joined, with_sign_of, later_after, split_members, part_members, rejoined}

-- the sign that a member is, where it counts
abbrev Fits : Member → List PartSign → Type 0
Fits x [] = Unit {0}
Fits x (pipe at n ∷ ss) = x ≡ lexeme (Pipe, n)
Fits x (equals at n ∷ ss) = x ≡ lexeme (Equals, n)

fits : (x : Member) (at : ℕ) → Fits x (sign_of x at)
fits (lexeme (Chars, n)) at = tt
fits (lexeme (CommentLine, n)) at = tt
fits (lexeme (Comment, n)) at = tt
fits (lexeme (Raw, n)) at = tt
fits (lexeme (Include, n)) at = tt
fits (lexeme (Hidden, n)) at = tt
fits (lexeme (Entity c, n)) at = tt
fits (lexeme (Opens, n)) at = tt
fits (lexeme (Closes, n)) at = tt
fits (lexeme (LinkOpen, n)) at = tt
fits (lexeme (LinkClose, n)) at = tt
fits (lexeme (Pipe, n)) at = refl
fits (lexeme (Equals, n)) at = refl
fits (call k ms) at = tt

fits_if : (t : Bool) (x : Member) (at : ℕ) → Fits x (if t then [] else sign_of x at)
fits_if true x at = tt
fits_if false x at = fits x at

-- there is a part
abbrev SomePart : List PartMembers → Type 0
SomePart [] = ⊥
SomePart (p ∷ ps) = Unit {0}

signed_some : (later : Bool) (x : Member) (ss : List PartSign) (ps : List PartMembers) → SomePart ps → SomePart (with_sign_of later x ss ps)
signed_some later x [] [] h = absurd h
signed_some later x [] (p ∷ ps) h = tt
signed_some later x (pipe at n ∷ ss) ps h = tt
signed_some true x (equals at n ∷ ss) [] h = absurd h
signed_some true x (equals at n ∷ ss) (p ∷ ps) h = tt
signed_some false x (equals at n ∷ ss) [] h = absurd h
signed_some false x (equals at n ∷ ss) (p ∷ ps) h = tt

split_some : (later : Bool) (at : ℕ) (before after : List Member) → SomePart (split_members later at before after)
split_some later at before [] = tt
split_some later at before (x ∷ after) =
    let ss = if in_link before after then [] else sign_of x at in
    signed_some later x ss (split_members (later_after later ss) (at + width x) (x ∷ before) after)
    (split_some (later_after later ss) (at + width x) (x ∷ before) after)

-- one more member in the first part
last_joins : (x : Member) (name : Option (List Member × ℕ)) (v : List Member) (b : ℕ) → rejoined (put_first x name v b ∷ []) ≡ x ∷ joined name v
last_joins x None v b = refl
last_joins x (Some (xs, n)) v b = refl

first_joins : (x : Member) (name : Option (List Member × ℕ)) (v : List Member) (b : ℕ) (q : PartMembers) (ps : List PartMembers)
    → rejoined (put_first x name v b ∷ q ∷ ps) ≡ x ∷ (joined name v ++ lexeme (Pipe, b) ∷ rejoined (q ∷ ps))
first_joins x None v b q ps = refl
first_joins x (Some (xs, n)) v b q ps = refl

member_joins : (x : Member) (ps : List PartMembers) → SomePart ps → rejoined (with_member x ps) ≡ x ∷ rejoined ps
member_joins x [] h = absurd h
member_joins x (p ∷ []) h = last_joins x p.name p.value p.bar
member_joins x (p ∷ q ∷ ps) h = first_joins x p.name p.value p.bar q ps

sign_joins : (later : Bool) (x : Member) (ss : List PartSign) (ps : List PartMembers) → Fits x ss → SomePart ps
    → rejoined (with_sign_of later x ss ps) ≡ x ∷ rejoined ps
sign_joins later x [] ps f h = member_joins x ps h
sign_joins later x (pipe at n ∷ ss) [] f h = absurd h
sign_joins later x (pipe at n ∷ ss) (p ∷ ps) f h = ap (λ y. y ∷ rejoined (p ∷ ps)) (sym f)
sign_joins false x (equals at n ∷ ss) ps f h = member_joins x ps h
sign_joins true x (equals at n ∷ ss) [] f h = absurd h
sign_joins true x (equals at n ∷ ss) (p ∷ []) f h = ap (λ y. y ∷ joined p.name p.value) (sym f)
sign_joins true x (equals at n ∷ ss) (p ∷ q ∷ ps) f h = ap (λ y. y ∷ (joined p.name p.value ++ lexeme (Pipe, p.bar) ∷ rejoined (q ∷ ps))) (sym f)

split_joins : (later : Bool) (at : ℕ) (before after : List Member) → rejoined (split_members later at before after) ≡ after
split_joins later at before [] = refl
split_joins later at before (x ∷ after) =
    let t = in_link before after in
    let ss = if t then [] else sign_of x at in
    let ps = split_members (later_after later ss) (at + width x) (x ∷ before) after in
    sign_joins later x ss ps (fits_if t x at) (split_some (later_after later ss) (at + width x) (x ∷ before) after)
    ∙ ap (λ xs. x ∷ xs) (split_joins (later_after later ss) (at + width x) (x ∷ before) after)

pub parts_join : (from : ℕ) (ms : Members) → rejoined (part_members from ms) ≡ listed ms
parts_join from ms = split_joins false from [] (listed ms)
