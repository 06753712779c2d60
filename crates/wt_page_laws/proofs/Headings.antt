-- What the table of kinds says of headings and sections.
use Rattle.std.proofs.Common.{◌≡◌, ℕ, true, false, Some, None, refl, sym, ap, ◌∙◌}
use Rattle.wt_tree.specs.declared.kind.Kind.{Kind}
use Rattle.wt_tree.specs.declared.kind.Kind.TheVariants as kind
use Rattle.wt_tree.specs.Kinds.{spelling, is_section}
use Rattle.wt_tree.specs.Tree.{Tree, tree, none, more, label}
use Rattle.wt_sections.specs.Sections.{level_of}
use Rattle.wt_page_laws.specs.Levels.{IsHeading, IsNoHeading, IsOfLevel}

heading_by : (k : Kind) (n : ℕ) → (spelling k).level ≡ Some n → k ≡ kind.Heading n
unfolding spelling
heading_by kind.Body n e = absurd (cc e)
heading_by (kind.Section m) n e = absurd (cc e)
heading_by kind.Para n e = absurd (cc e)
heading_by (kind.Heading m) n e = let same : m ≡ n = cc e in ap kind.Heading same
heading_by kind.Rule n e = absurd (cc e)
heading_by kind.Ul n e = absurd (cc e)
heading_by kind.Ol n e = absurd (cc e)
heading_by kind.Dl n e = absurd (cc e)
heading_by kind.Li n e = absurd (cc e)
heading_by kind.Dt n e = absurd (cc e)
heading_by kind.Dd n e = absurd (cc e)
heading_by kind.Pre n e = absurd (cc e)
heading_by kind.Table n e = absurd (cc e)
heading_by kind.Tbody n e = absurd (cc e)
heading_by kind.Tr n e = absurd (cc e)
heading_by kind.Caption n e = absurd (cc e)
heading_by kind.Td n e = absurd (cc e)
heading_by kind.Th n e = absurd (cc e)
heading_by kind.Bold n e = absurd (cc e)
heading_by kind.Italic n e = absurd (cc e)
heading_by kind.WikiLink n e = absurd (cc e)
heading_by kind.ExtLink n e = absurd (cc e)
heading_by kind.Category n e = absurd (cc e)
heading_by (kind.Tag t) n e = absurd (cc e)
heading_by kind.Br n e = absurd (cc e)
heading_by kind.Entity n e = absurd (cc e)
heading_by kind.Nowiki n e = absurd (cc e)
heading_by kind.Island n e = absurd (cc e)
heading_by kind.Switch n e = absurd (cc e)
heading_by kind.Comment n e = absurd (cc e)
heading_by kind.Include n e = absurd (cc e)
heading_by kind.Skip n e = absurd (cc e)
heading_by kind.Sep n e = absurd (cc e)
heading_by kind.Text n e = absurd (cc e)
heading_by kind.Group n e = absurd (cc e)
heading_by kind.Empty n e = absurd (cc e)

-- what has a level is a heading of it
pub is_heading : (t : Tree) (n : ℕ) → level_of t ≡ Some n → IsHeading n t
is_heading t n e = heading_by (label t).kind n e

heading_level : (n : ℕ) → (spelling (kind.Heading n)).level ≡ Some n
unfolding spelling
heading_level n = refl

-- what has none isn't one
pub no_heading : (t : Tree) → level_of t ≡ None → IsNoHeading t
no_heading t e n h =
    let some : level_of t ≡ Some n = ap (λ k. (spelling k).level) h ∙ heading_level n in
    absurd (cc (sym e ∙ some))

-- a section is no heading, and what is no section has no level
pub no_section_heading : (t : Tree) → is_section (label t).kind ≡ true → IsNoHeading t
no_section_heading t e n h =
    let no : is_section (label t).kind ≡ false = ap is_section h in
    absurd (cc (sym e ∙ no))

of_level_by : (k : Kind) (number : ℕ) → k ≡ kind.Section number → is_section k ≡ true
of_level_by k number e = ap is_section e

pub level_section : (n : ℕ) (t : Tree) → IsOfLevel n t → is_section (label t).kind ≡ true
level_section n (tree l none) h = absurd h
level_section n (tree l (more t ts)) h = of_level_by l.kind h.0 h.2

pub no_level : (n : ℕ) (t : Tree) → is_section (label t).kind ≡ false → IsOfLevel n t → ⊥
no_level n t e h = absurd (cc (sym e ∙ level_section n t h))
