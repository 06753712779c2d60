-- Worked cases: comments, include tags, calls and islands that an edited tree still has.
use Rattle.std.proofs.Common.{arith, ◌≡◌, ◌≤◌, ◌+◌, ℕ, Bool, true, false, List, [], ◌∷◌, ◌++◌, ap, refl, codes, inl, take}
use Rattle.std.specs.Prelude.{cond}
use Rattle.std.specs.Str.{bytes_eq}
use Rattle.wt_tree.specs.Tree.{Tree, tree, none, more}
use Rattle.wt_tree.specs.declared.kind.Kind.TheVariants as kind
use Rattle.wt_checks.specs.Alike.{same_kind}
use Rattle.wt_checks.specs.Places.{places, page_of}
use Rattle.wt_checks.proofs.Cases.{blank, body, node, words, group}
use Rattle.wt_visible.specs.KeptMarks.{sources, still, KeepsMarks}
use Rattle.wt_visible.specs.Tally.{times, trimmed, StandAmong}

abbrev comment : ℕ → List ℕ → Tree
comment n bs = tree (record (blank kind.Comment n) { own = bs }) none

abbrev tag : ℕ → List ℕ → Tree
tag n bs = tree (record (blank kind.Include n) { own = bs }) none

-- the page `a<!--x-->`, `<noinclude>` and the paragraph `b`
abbrev page : Tree
page = body (node kind.Para 1 (words (codes "a") ∷ comment 2 (codes "<!--x-->") ∷ []) ∷ tag 3 (codes "<noinclude>") ∷ node kind.Para 4 (words (codes "b") ∷ []) ∷ [])

comments : sources kind.Comment (places page) ≡ codes "<!--x-->" ∷ []
unfolding same_kind
comments = refl

tags : sources kind.Include (places page) ≡ codes "<noinclude>" ∷ []
unfolding same_kind
tags = refl

-- the comment has gone, a new one has come, and an edited tag's source is the page's
abbrev edited : Tree
edited = body (tag 3 (codes "?") ∷ comment 0 (codes "<!--new-->") ∷ node kind.Para 1 (words (codes "c") ∷ []) ∷ [])

no_comment : still kind.Comment (page_of page) (places edited) ≡ []
unfolding same_kind
no_comment = refl

one_tag : still kind.Include (page_of page) (places edited) ≡ codes "<noinclude>" ∷ []
unfolding same_kind
one_tag = refl

-- what stands in a group has no number
in_group : sources kind.Comment (places (body (group 1 (comment 0 (codes "<!--x-->") ∷ []) ∷ []))) ≡ []
unfolding same_kind
in_group = refl

-- another node of the page isn't a mark that it has
other_node : still kind.Comment (page_of page) (places (body (comment 4 (codes "b") ∷ []))) ≡ []
unfolding same_kind
other_node = refl

-- how often a comment stands among some
twice : times (codes "<!--x-->") (codes "<!--x-->" ∷ codes "<!--y-->" ∷ codes "<!--x-->" ∷ []) ≡ 2
twice = refl

-- a comment line, and the same comment at the page's start
line : trimmed (codes " <!--x--> " ++ 10 ∷ []) ≡ codes "<!--x-->"
line = refl

-- ---- what is kept

at_least : (texts : List (List ℕ)) → StandAmong [] texts
at_least texts = λ text. omega (arith)

each_of : (texts : List (List ℕ)) → StandAmong texts texts
each_of texts = λ text. omega (arith)

kept : KeepsMarks page page edited
unfolding same_kind
kept = record {
  comments = (at_least (codes "<!--x-->" ∷ []), each_of (codes "<!--x-->" ∷ []));
  tags = (each_of (codes "<noinclude>" ∷ []), each_of (codes "<noinclude>" ∷ []));
  calls = refl;
  islands = refl;
  order = inl (refl, tt);
}

-- the first comment is a line of its own in the page, and begins the new one; they change their order
abbrev lines : Tree
lines = body (node kind.Para 1 (words (codes "a") ∷ []) ∷ comment 2 (codes "<!--x-->" ++ 10 ∷ []) ∷ comment 3 (codes "<!--y-->" ++ 10 ∷ []) ∷ [])

abbrev exchanged : Tree
exchanged = body (comment 1 (codes "<!--y-->") ∷ comment 2 (codes "<!--x-->" ++ 10 ∷ []) ∷ node kind.Para 3 (words (codes "a") ∷ []) ∷ [])

either_order : (x y : List ℕ) → StandAmong (x ∷ y ∷ []) (y ∷ x ∷ [])
either_order x y = λ text. by (bytes_eq x text) (bytes_eq y text)
  where
    by : (a b : Bool) → (0 + cond a 1 0) + cond b 1 0 ≤ (0 + cond b 1 0) + cond a 1 0
    by true true = omega arith
    by true false = omega arith
    by false true = omega arith
    by false false = omega arith

kept_lines : KeepsMarks exchanged lines lines
unfolding same_kind
kept_lines = record {
  comments = (either_order (codes "<!--x-->") (codes "<!--y-->"), either_order (codes "<!--y-->") (codes "<!--x-->"));
  tags = (each_of [], each_of []);
  calls = refl;
  islands = refl;
  order = tt;
}

-- ---- what isn't

-- a comment that stood twice stands once
once_more : StandAmong (codes "x" ∷ codes "x" ∷ []) (codes "x" ∷ []) → ⊥
once_more h = let t : 2 ≤ 1 = h (codes "x") in omega (arith, t)

-- a new page without the tag
lost : KeepsMarks (body (node kind.Para 1 (words (codes "c") ∷ []) ∷ [])) page edited → ⊥
unfolding same_kind
lost h = h.order

-- the page `a{{t}}`, whose call shows `b`
abbrev calls : Tree
calls = body (node kind.Para 1 (words (codes "a") ∷ tree (record (blank kind.Group 2) { own = codes "{{t}}" }) (more (words (codes "b")) none) ∷ []) ∷ [])

-- what the call shows stands in its place
call_gone : KeepsMarks (body (node kind.Para 1 (words (codes "ab") ∷ []) ∷ [])) calls calls → ⊥
unfolding same_kind
call_gone h = let t : 1 ≡ 0 = ap (times (codes "{{t}}")) h.calls in absurd (omega (arith, t))

-- another file
abbrev file : List ℕ → Tree
file bs = body (node kind.Para 1 (tree (record (blank kind.Island 2) { own = bs }) none ∷ []) ∷ [])

file_changed : KeepsMarks (file (codes "[[File:b]]")) (file (codes "[[File:a]]")) (file (codes "[[File:a]]")) → ⊥
unfolding same_kind
file_changed h = let t : 1 ≡ 0 = ap (times (codes "[[File:a]]")) h.islands in absurd (omega (arith, t))

-- a new comment
comment_new : KeepsMarks (body (node kind.Para 1 (words (codes "c") ∷ comment 2 (codes "<!--y-->") ∷ []) ∷ [])) (body (node kind.Para 1 (words (codes "b") ∷ []) ∷ []))
    (body (node kind.Para 1 (words (codes "c") ∷ []) ∷ [])) → ⊥
unfolding same_kind
comment_new h = let t : 1 ≤ 0 = h.comments.1 (codes "<!--y-->") in omega (arith, t)

-- two calls of a template that isn't there: both show a link to it
abbrev two_calls : List ℕ → List ℕ → Tree
two_calls a b = body (node kind.Para 1 (tree (record (blank kind.Group 2) { own = a }) none ∷ tree (record (blank kind.Group 3) { own = b }) none ∷ []) ∷ [])

calls_kept : KeepsMarks (two_calls (codes "{{a}}") (codes "{{b}}")) (two_calls (codes "{{a}}") (codes "{{b}}")) (two_calls (codes "{{a}}") (codes "{{b}}"))
unfolding same_kind
calls_kept = record { comments = (each_of [], each_of []); tags = (each_of [], each_of []); calls = refl; islands = refl; order = tt }

calls_exchanged : KeepsMarks (two_calls (codes "{{b}}") (codes "{{a}}")) (two_calls (codes "{{a}}") (codes "{{b}}")) (two_calls (codes "{{a}}") (codes "{{b}}")) → ⊥
unfolding same_kind
calls_exchanged h = let t : 1 ≡ 0 = ap (λ texts. times (codes "{{a}}") (take 1 texts)) h.calls in absurd (omega (arith, t))

-- what the edited tree has no longer goes
call_stays : KeepsMarks (two_calls (codes "{{a}}") (codes "{{b}}")) (two_calls (codes "{{a}}") (codes "{{b}}"))
    (body (node kind.Para 1 (tree (record (blank kind.Group 2) { own = codes "{{a}}" }) none ∷ []) ∷ [])) → ⊥
unfolding same_kind
call_stays h = let t : 0 ≡ 1 = ap (times (codes "{{b}}")) h.calls in absurd (omega (arith, t))
