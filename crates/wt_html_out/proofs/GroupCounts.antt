-- Each group writes a byte at least, so there are no more groups than bytes.
use Rattle.std.proofs.Common.{◌≡◌, ◌<◌, ◌≤◌, ℕ, ◌+◌, true, false, List, [], ◌∷◌, ◌++◌, length, refl, ap, arith, length-append}
use Rattle.std.specs.Prelude.{codes}
use Rattle.wt_tree.specs.declared.kind.AttrName.{AttrName}
use Rattle.wt_tree.specs.declared.kind.Kind.{Kind}
use Rattle.wt_tree.specs.declared.kind.Kind.TheVariants as kind
use Rattle.wt_tree.specs.declared.kind.Showing.{Showing}
use Rattle.wt_tree.specs.declared.kind.Showing.TheVariants.{Characters, Inside, Nothing, Element}
use Rattle.wt_tree.specs.declared.row.Writing.{Writing}
use Rattle.wt_tree.specs.declared.row.Writing.TheVariants.{AsText, AsVoid, RoundCharacter, RoundChildren, AsSection, Unwritten}
use Rattle.wt_tree.specs.Elements.{span}
use Rattle.wt_tree.specs.Kinds.{element_name, showing, writing}
use Rattle.wt_tree.specs.Plain.{Plains, text, element, ended, along, text_before, shown_before, plain_before, plains_before}
use Rattle.wt_tree.specs.Tree.{Label, Tree, tree, Trees, none, more}
use Rattle.wt_schema.specs.Escapes.{escaped}
use Rattle.wt_schema.specs.Html.{tag_of, end_tag_of, element_by, group_part, group_parts, group_html, plains_html}

-- ---- what is written as an element

abbrev IsTagged : Writing → Type 0
IsTagged AsText = ⊥
IsTagged AsVoid = Unit {0}
IsTagged RoundCharacter = Unit {0}
IsTagged RoundChildren = Unit {0}
IsTagged (AsSection n) = ⊥
IsTagged Unwritten = ⊥

-- A kind that the plain view makes an element of has a tag.
element_tagged : (k : Kind) → showing k ≡ Element → IsTagged (writing k)
element_tagged kind.Body e = tt
element_tagged (kind.Section n) e = absurd cc
element_tagged kind.Para e = tt
element_tagged (kind.Heading n) e = tt
element_tagged kind.Rule e = tt
element_tagged kind.Ul e = tt
element_tagged kind.Ol e = tt
element_tagged kind.Dl e = tt
element_tagged kind.Li e = tt
element_tagged kind.Dt e = tt
element_tagged kind.Dd e = tt
element_tagged kind.Pre e = tt
element_tagged kind.Table e = tt
element_tagged kind.Tbody e = tt
element_tagged kind.Tr e = tt
element_tagged kind.Caption e = tt
element_tagged kind.Td e = tt
element_tagged kind.Th e = tt
element_tagged kind.Bold e = tt
element_tagged kind.Italic e = tt
element_tagged kind.WikiLink e = tt
element_tagged kind.ExtLink e = tt
element_tagged kind.Category e = tt
element_tagged (kind.Tag t) e = tt
element_tagged kind.Br e = tt
element_tagged kind.Entity e = absurd cc
element_tagged kind.Nowiki e = absurd cc
element_tagged kind.Island e = tt
element_tagged kind.Switch e = tt
element_tagged kind.Comment e = absurd cc
element_tagged kind.Include e = absurd cc
element_tagged kind.Skip e = absurd cc
element_tagged kind.Sep e = absurd cc
element_tagged kind.Text e = absurd cc
element_tagged kind.Group e = absurd cc
element_tagged kind.Empty e = absurd cc

-- ---- the first of what a tree shows

abbrev BeginsTagged : Plains → Type 0
BeginsTagged ended = Unit {0}
BeginsTagged (along (text bs) ps) = Unit {0}
BeginsTagged (along (element f qs) ps) = IsTagged (writing f.kind)

text_begins : (bs : List ℕ) (ps : Plains) → BeginsTagged ps → BeginsTagged (text_before bs ps)
text_begins [] ps h = h
text_begins (b ∷ bs) ended h = tt
text_begins (b ∷ bs) (along (text cs) ps) h = tt
text_begins (b ∷ bs) (along (element f qs) ps) h = tt

shown_begins : (s : Showing) (l : Label) (held : Plains → Plains) (rest : Plains) → (s ≡ Element → IsTagged (writing l.kind))
    → ((ps : Plains) → BeginsTagged ps → BeginsTagged (held ps)) → BeginsTagged rest → BeginsTagged (shown_before s l held rest)
shown_begins Characters l held rest e h r = text_begins l.shown rest r
shown_begins Inside l held rest e h r = h rest r
shown_begins Nothing l held rest e h r = r
shown_begins Element l held rest e h r = e refl

mutual
  plain_begins : (t : Tree) (rest : Plains) → BeginsTagged rest → BeginsTagged (plain_before t rest)
  plain_begins (tree l ts) rest r =
      shown_begins (showing l.kind) l (λ ps. plains_before ts ps) rest (element_tagged l.kind) (λ ps h. plains_begin ts ps h) r

  plains_begin : (ts : Trees) (rest : Plains) → BeginsTagged rest → BeginsTagged (plains_before ts rest)
  plains_begin none rest r = r
  plains_begin (more t ts) rest r = plain_begins t (plains_before ts rest) (plains_begin ts rest r)

-- ---- a group has a byte

tag_some : (k : Kind) (attrs end : List ℕ) → 0 < length (tag_of k attrs end)
tag_some k attrs end =
    let all = length-append (codes "<") (element_name k ++ (attrs ++ end)) in
    let one : length (codes "<") ≡ 1 = refl in
    omega (arith, all, one)

round_some : (k : Kind) (attrs inside : List ℕ) → 0 < length (tag_of k attrs (codes ">") ++ (inside ++ end_tag_of k))
round_some k attrs inside =
    let all = length-append (tag_of k attrs (codes ">")) (inside ++ end_tag_of k) in
    let some = tag_some k attrs (codes ">") in
    omega (arith, all, some)

element_some : (w : Writing) (k : Kind) (attrs inside : List ℕ) → IsTagged w → 0 < length (element_by w k attrs inside)
element_some AsText k attrs inside h = absurd h
element_some AsVoid k attrs inside h = tag_some k attrs (codes "/>")
element_some RoundCharacter k attrs inside h = round_some k attrs inside
element_some RoundChildren k attrs inside h = round_some k attrs inside
element_some (AsSection n) k attrs inside h = absurd h
element_some Unwritten k attrs inside h = absurd h

group_some : (k : ℕ) (l : Label) (ps : Plains) → BeginsTagged ps → 0 < length (group_html k l ps)
group_some k l ended h = element_some (writing span.kind) span.kind _ [] tt
group_some k l (along (text bs) ps) h =
    let some : 0 < length (group_part true k l (text bs)) = element_some (writing span.kind) span.kind _ (escaped bs) tt in
    let all = length-append (group_part true k l (text bs)) (group_parts false k l ps) in
    omega (arith, some, all)
group_some k l (along (element f qs) ps) h =
    let some : 0 < length (group_part true k l (element f qs)) = element_some (writing f.kind) f.kind _ (plains_html qs) h in
    let all = length-append (group_part true k l (element f qs)) (group_parts false k l ps) in
    omega (arith, some, all)

-- ---- what is written is no shorter

-- more bytes after no fewer than a count
pub longer : (n : ℕ) (old new added : List ℕ) → n ≤ length old → new ≡ old ++ added → n ≤ length new
longer n old new added h e =
    let all = length-append old added in
    omega (arith, h, ap length e, all)

-- a group after as many groups as bytes at most
pub group_longer : (k n : ℕ) (old new : List ℕ) (l : Label) (ts : Trees) → k ≤ length old → n ≡ k + 1
    → new ≡ old ++ group_html n l (plains_before ts ended) → n ≤ length new
group_longer k n old new l ts h next e =
    let some = group_some n l (plains_before ts ended) (plains_begin ts ended tt) in
    let all = length-append old (group_html n l (plains_before ts ended)) in
    omega (arith, h, next, ap length e, some, all)
