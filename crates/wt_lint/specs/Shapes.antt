-- What is in the page at the range of a finding of each kind.
use Rattle.std.specs.Prelude.{◌≡◌, ◌≤◌, ℕ, true, List, codes, length}
use Rattle.std.specs.List.{AllByRecursion}
use Rattle.wt_annotated.specs.Slices.{slice}
use Rattle.wt_lint.specs.declared.finding.Kind.{Kind}
use Rattle.wt_lint.specs.declared.finding.Kind.TheVariants.{OpenStyle, OpenTable, StrayTableEnd, OpenTag, StrayTag, OpenBraces, StrayBraces, OpenLink, StrayLinkEnd, UnequalHeading, RepeatedCategory}
use Rattle.wt_lint.specs.Found.{KindAndRange}
use Rattle.wt_lint.specs.Tags.{is_closing_tag, is_open_tag}

-- two or more of a byte, and nothing else
pub record AreOnly (byte : ℕ) (bs : List ℕ) : Type 0 where
  pub two : 2 ≤ length bs
  pub only : AllByRecursion (λ b. b ≡ byte) bs

-- by the kind; of styles, tables, headings and categories the tree says what they are
abbrev pub HasShape : Kind → List ℕ → Type 0
HasShape OpenStyle bs = Unit {0}
HasShape OpenTable bs = Unit {0}
HasShape StrayTableEnd bs = bs ≡ codes "|}"
HasShape OpenTag bs = is_open_tag bs ≡ true
HasShape StrayTag bs = is_closing_tag bs ≡ true
HasShape OpenBraces bs = AreOnly 123 bs
HasShape StrayBraces bs = AreOnly 125 bs
HasShape OpenLink bs = bs ≡ codes "[["
HasShape StrayLinkEnd bs = bs ≡ codes "]]"
HasShape UnequalHeading bs = Unit {0}
HasShape RepeatedCategory bs = Unit {0}

abbrev pub IsShaped : List ℕ → KindAndRange → Type 0
IsShaped page f = HasShape f.0 (slice page f.1.0 f.1.1)
