-- The kinds of doubtful places.
use Rattle.std.specs.Prelude.{ℕ, List, [], ◌∷◌, codes}
use Rattle.wt_lint.specs.declared.finding.Kind.{Kind}
use Rattle.wt_lint.specs.declared.finding.Kind.TheVariants.{OpenStyle, OpenTable, StrayTableEnd, OpenTag, StrayTag, OpenBraces, StrayBraces, OpenLink, StrayLinkEnd, UnequalHeading, RepeatedCategory}

-- all of them, in their order
abbrev pub kinds : List Kind
kinds =
    OpenStyle ∷ OpenTable ∷ StrayTableEnd ∷ OpenTag ∷ StrayTag ∷ OpenBraces ∷ StrayBraces ∷ OpenLink ∷ StrayLinkEnd ∷ UnequalHeading
    ∷ RepeatedCategory ∷ []

-- the place of a kind in their order
abbrev pub rank : Kind → ℕ
rank OpenStyle = 0
rank OpenTable = 1
rank StrayTableEnd = 2
rank OpenTag = 3
rank StrayTag = 4
rank OpenBraces = 5
rank StrayBraces = 6
rank OpenLink = 7
rank StrayLinkEnd = 8
rank UnequalHeading = 9
rank RepeatedCategory = 10

-- how a kind is printed
unfoldable pub word : Kind → List ℕ
word OpenStyle = codes "OpenStyle"
word OpenTable = codes "OpenTable"
word StrayTableEnd = codes "StrayTableEnd"
word OpenTag = codes "OpenTag"
word StrayTag = codes "StrayTag"
word OpenBraces = codes "OpenBraces"
word StrayBraces = codes "StrayBraces"
word OpenLink = codes "OpenLink"
word StrayLinkEnd = codes "StrayLinkEnd"
word UnequalHeading = codes "UnequalHeading"
word RepeatedCategory = codes "RepeatedCategory"
